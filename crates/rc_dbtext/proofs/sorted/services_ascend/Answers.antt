use Rattle.std.proofs.Common.{rules}
use Rattle.std.proofs.lemmas.List.Sorted.{answers_always}
use Rattle.rc_dbtext.specs.Text.{ServiceText}
use Rattle.rc_model.proofs.WordOrders.{answers_before, before}
use Rattle.rc_dbtext.proofs.Sorting.{sorted_by_name}
use Rattle.rc_dbtext.proofs.sorted.services_ascend.Goals as goal

pub returns : goal.returns
returns c =
    sorted_by_name (λ (s : ServiceText). s.head.name) c.args.services.now c.is_sorted_by.result
    (c.is_sorted_by.ensures.cases (λ s t. before s.head.name t.head.name)
    (answers_always _ _ _
    (λ f a r g called. answers_before a.0.now.head.name a.1.0.now.head.name r (search rules))))

use Rattle.std.proofs.Common.{rules}
use Rattle.std.proofs.lemmas.List.Sorted.{answers_always}
use Rattle.rc_model.proofs.WordOrders.{answers_before, before, sorted_answer}
use Rattle.rc_dbtext.proofs.lexer.order.ascend.Goals as goal

pub returns : goal.returns
returns c =
    sorted_answer c.args.names.now c.is_sorted_by.result
    (c.is_sorted_by.ensures.cases before
    (answers_always _ _ _ (λ f a r g called. answers_before a.0.now a.1.0.now r (search rules))))

use Rattle.std.proofs.Common.{◌∙◌, false, refl, sym, slice_index_or}
use Rattle.std.proofs.lemmas.Bool.{false_from_ne_true}
use Rattle.rc_core.proofs.Arriving.{all_in}
use Rattle.rc_core.proofs.ready.alike.Goals as goal

pub returns-then-is_empty : goal.returns-then-is_empty
returns-then-is_empty c s low =
    false_from_ne_true (slice_index_or c.args.set.now s false)
    (λ has. c.if-is_empty.ensures.0 refl s has)

pub returns-then-len-bound : goal.returns-then-len-bound
returns-then-len-bound c s low =
    all_in c.args.set.now
    (sym c.len.ensures ∙ (c.if-len-bound.true ∙ c.bound.ensures.bound)) s low

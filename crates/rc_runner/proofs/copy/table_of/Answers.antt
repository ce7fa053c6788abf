use Rattle.std.proofs.Common.{◌≡◌, ◌∙◌, ◌++◌, ◌∷◌, [], List, ℕ, All, Some, ap, slice_get}
use Rattle.std.proofs.Common.{subst}
use Rattle.std.proofs.Common.{sym}
use Rattle.rc_model.specs.Names.{IsBefore}
use Rattle.rc_model.proofs.Places.{take_next}
use Rattle.rc_runner.proofs.Copies.{before_next}
use Rattle.rc_runner.proofs.copy.table_of.Goals as goal

pub append-requires-clause-last : goal.append-requires-clause-last
append-requires-clause-last c =
    subst (λ (n : List ℕ). All (λ other. IsBefore other n) c.loop-id.made)
    (sym c.in_ok-copy.ensures)
    (before_next c.args.names.now c.loop-id.made c.loop-id.id c.name_of.result.now
    c.len-id-end.ensures.names.order c.name_of.ensures c.loop-id.invariant)

pub loop-id-preserved : goal.loop-id-preserved
loop-id-preserved c =
    let there : slice_get c.args.names.now c.loop-id.id ≡ Some c.in_ok-copy.field-0 =
    c.name_of.ensures ∙ ap (λ (n : List ℕ). Some n) (sym c.in_ok-copy.ensures) in
    c.in_ok-append.ensures.added
    ∙ ap (λ (ns : List (List ℕ)). ns ++ c.in_ok-copy.field-0 ∷ []) c.loop-id.invariant
    ∙ sym (take_next c.args.names.now c.loop-id.id c.in_ok-copy.field-0 there)

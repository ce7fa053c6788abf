use Rattle.std.proofs.Common.{◌∙◌, ◌++◌, ◌∷◌, [], All, sym, ap, subst}
use Rattle.rc_model.specs.Names.{IsBefore}
use Rattle.rc_model.specs.Database.{Bundles, names_of}
use Rattle.rc_model.proofs.Places.{take_next}
use Rattle.rc_db.proofs.Values.{names_before}
use Rattle.rc_db.proofs.table.Table.copy.Goals as goal

pub push-requires-clause-last : goal.push-requires-clause-last
push-requires-clause-last c =
    let Last : Bundles → Type 0 =
    λ table. All (λ other. IsBefore other c.at.result.0.now) (names_of table) in
    subst Last (sym c.loop-place.invariant)
    (names_before c.args.self.now c.loop-place.place (c.at.result.0.now, c.at.result.1.now)
    c.len-place-end.ensures.table.order c.at.ensures)

pub loop-place-preserved : goal.loop-place-preserved
loop-place-preserved c =
    c.in_ok-push.ensures
    ∙ ap (λ table. table ++ (c.at.result.0.now, c.at.result.1.now) ∷ []) c.loop-place.invariant
    ∙ sym (take_next c.args.self.now c.loop-place.place (c.at.result.0.now, c.at.result.1.now)
    c.at.ensures)

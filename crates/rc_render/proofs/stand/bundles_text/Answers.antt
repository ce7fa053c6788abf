use Rattle.std.proofs.Common.{◌∙◌, ◌++◌, ℕ, List, ap, sym, take}
use Rattle.std.specs.List.{flat_map}
use Rattle.rc_model.proofs.Places.{take_next}
use Rattle.rc_model.proofs.Lists.{one_more}
use Rattle.rc_render.specs.Names.{bundle_line}
use Rattle.rc_render.proofs.stand.bundles_text.Goals as goal

pub loop-place-preserved : goal.loop-place-preserved
loop-place-preserved c =
    let line = bundle_line c.args.names.now in
    c.in_ok-add_bundle.ensures
    ∙ (ap (λ (t : List ℕ). t ++ line (c.at.result.0.now, c.at.result.1.now)) c.loop-place.invariant
    ∙ sym (ap (flat_map line) (take_next c.args.table.now c.loop-place.place _ c.at.ensures)
    ∙ one_more line (take c.loop-place.place c.args.table.now)
    (c.at.result.0.now, c.at.result.1.now)))

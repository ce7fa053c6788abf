use Rattle.std.proofs.Common.{◌∙◌, ap, take}
use Rattle.std.specs.List.{flat_map}
use Rattle.std.specs.Option.{option_copied}
use Rattle.rc_model.proofs.Places.{take_next}
use Rattle.rc_model.specs.Line.{Alteration}
use Rattle.rc_model.proofs.Lists.{one_more, grown}
use Rattle.rc_render.specs.JournalText.{alteration_text}
use Rattle.rc_render.proofs.journal.add_edit.Goals as goal

pub loop-place-preserved : goal.loop-place-preserved
loop-place-preserved c =
    let text = alteration_text c.args.names.now in
    let x : Alteration = record {
      name = c.at.result.0.now;
      before = option_copied c.at.result.1;
      after = option_copied c.at.result.2;
    } in
    grown c.add_alteration.new.text.items c.loop-place.text.items c.args.text.now.items
    (flat_map text (take c.loop-place.place c.args.edit.now)) _ (text x)
    c.in_ok-add_alteration.ensures c.loop-place.invariant
    (ap (flat_map text) (take_next c.args.edit.now c.loop-place.place x c.at.ensures)
    ∙ one_more text (take c.loop-place.place c.args.edit.now) x)

use Rattle.std.specs.List.{flat_map, range_with_len}
use Rattle.rc_model.proofs.Lists.{grown}
use Rattle.rc_render.specs.DotText.{service_lines}
use Rattle.rc_render.proofs.DotLemmas.{one_more_place}
use Rattle.rc_render.proofs.dot.add_services.Goals as goal

pub loop-id-preserved : goal.loop-id-preserved
loop-id-preserved c =
    let lines = service_lines c.args.db.now c.args.live.now in
    grown c.add_service.new.text.items c.loop-id.text.items c.args.text.now.items
    (flat_map lines (range_with_len 0 c.loop-id.id)) _ (lines c.loop-id.id)
    c.in_ok-add_service.ensures c.loop-id.invariant (one_more_place lines c.loop-id.id)

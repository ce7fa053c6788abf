use Rattle.std.proofs.Common.{◌∙◌, ◌++◌, ℕ, List, false, ap, take, append_assoc}
use Rattle.std.specs.List.{flat_map}
use Rattle.rc_model.specs.declared.Kind.TheVariants.{Bundle}
use Rattle.rc_model.proofs.Places.{take_next}
use Rattle.rc_model.proofs.Lists.{one_more, grown}
use Rattle.rc_render.specs.DotText.{bundle_lines, edge_lines, look, member_end, node_line}
use Rattle.rc_render.specs.Names.{names_in}
use Rattle.rc_render.proofs.dot.add_bundles.Goals as goal

pub loop-place-preserved : goal.loop-place-preserved
loop-place-preserved c =
    let lines = bundle_lines c.args.names.now in
    let name = c.at.result.0.now in
    let set = c.at.result.1.now in
    let edges = edge_lines member_end name (names_in c.args.names.now set) in
    grown c.add_members.new.text.items c.loop-place.text.items c.args.text.now.items
    (flat_map lines (take c.loop-place.place c.args.table.now)) _ (lines (name, set))
    (c.in_ok-add_members.ensures
    ∙ (ap (λ (t : List ℕ). t ++ edges) c.in_ok-add_node.ensures
    ∙ append_assoc c.loop-place.text.items (node_line name (look Bundle false false)) edges))
    c.loop-place.invariant
    (ap (flat_map lines) (take_next c.args.table.now c.loop-place.place (name, set) c.at.ensures)
    ∙ one_more lines (take c.loop-place.place c.args.table.now) (name, set))

use Rattle.std.proofs.Common.{◌≡◌, ◌∙◌, ◌<◌, ◌++◌, ℕ, List, [], All, length, slice_index_or, ap}
use Rattle.std.proofs.Common.{sym, subst}
use Rattle.rc_model.specs.Database.{Service}
use Rattle.rc_render.specs.DotText.{look, node_line}
use Rattle.rc_render.proofs.DotLemmas.{needs_below, service_drawn}
use Rattle.rc_render.proofs.dot.add_service.Goals as goal

pub add_needs-requires : goal.add_needs-requires
add_needs-requires c =
    let listed : c.needs.result.now ≡ slice_index_or c.args.db.now.needs c.args.id [] =
    c.needs.ensures.list ∙ ap (λ (g : List (List ℕ)). slice_index_or g c.args.id [])
    c.graph.ensures.graph in
    subst (λ (ns : List (List ℕ)). All (λ t. t < length ns) c.needs.result.now)
    (sym c.names-names.ensures.names)
    (needs_below c.args.db.now c.args.id c.needs.result.now c.names-names.ensures.database listed)

pub returns : goal.returns
returns c =
    let listed : c.needs.result.now ≡ slice_index_or c.args.db.now.needs c.args.id [] =
    c.needs.ensures.list ∙ ap (λ (g : List (List ℕ)). slice_index_or g c.args.id [])
    c.graph.ensures.graph in
    let node : Service → List ℕ =
    λ s. node_line c.name_of-name.result.now (look s.kind s.essential c.has.result) in
    service_drawn c.args.db.now c.args.live.now c.args.id c.name_of-name.result.now
    c.service-service.result.now c.has.result c.names-names.result.now c.needs.result.now
    c.args.text.now.items c.add_node.new.text.items c.add_needs.new.text.items
    c.names-names.ensures.names c.name_of-name.ensures c.service-service.ensures
    listed c.has.ensures
    (subst (λ (s : Service). c.add_node.new.text.items ≡ c.args.text.now.items ++ node s)
    c.service.view_is c.in_ok-add_node.ensures) c.in_ok-add_needs.ensures

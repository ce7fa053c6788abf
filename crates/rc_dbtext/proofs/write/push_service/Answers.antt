use Rattle.std.proofs.Common.{◌≡◌, ◌∙◌, ◌<◌, ℕ, List, [], All, get_or, length, slice_index_or}
use Rattle.std.proofs.Common.{arith, refl, sym, ap, subst}
use Rattle.rc_dbtext.proofs.Writing.{fed_within, row_below, service_written}
use Rattle.rc_dbtext.proofs.write.push_service.Goals as goal

pub push_needs-requires : goal.push_needs-requires
push_needs-requires c =
    let row : c.needs.result.now ≡ slice_index_or c.args.db.now.needs c.args.id [] =
    c.needs.ensures.list ∙ ap (λ (g : List (List ℕ)). slice_index_or g c.args.id [])
    c.graph.ensures.graph in
    let P : List ℕ → Type 0 = λ r. All (λ t. t < length c.args.db.now.names) r in
    let low : P c.needs.result.now =
    subst P (sym row) (row_below c.args.db.now c.names-names.ensures.database c.args.id) in
    λ k e within.
    (let it : get_or c.needs.result.now k e < length c.args.db.now.names = low k e within in
    omega (arith, ap length c.names-names.ensures.names))

pub push_body-requires : goal.push_body-requires
push_body-requires c =
    fed_within c.args.db.now c.names-names.ensures.database c.args.id c.service-service.result.now
    c.service-service.result.now.producer_for c.names-names.result.now c.service-service.ensures
    refl c.names-names.ensures.names

pub returns : goal.returns
returns c = λ text at.
    let row : c.needs.result.now ≡ slice_index_or c.args.db.now.needs c.args.id [] =
    c.needs.ensures.list ∙ ap (λ (g : List (List ℕ)). slice_index_or g c.args.id [])
    c.graph.ensures.graph in
    service_written c.args.db.now c.names-names.ensures.database c.names-names.result.now c.args.id
    c.name_of.result.now c.service-service.result.now c.needs.result.now text c.args.out.now.items
    c.push_head.new.out.items c.push_needs.new.out.items
    c.push_body.new.out.items c.names-names.ensures.names c.requires c.service-service.ensures row
    at c.name_of.ensures c.in_ok-push_head.ensures c.in_ok-push_needs.ensures
    c.in_ok-push_body.ensures

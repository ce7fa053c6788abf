use Rattle.std.proofs.Common.{◌≤◌, ◌∙◌, length, take_all, map, ap, arith}
use Rattle.std.proofs.lemmas.List.{length-map}
use Rattle.std.proofs.lemmas.Option.{slice_get-map}
use Rattle.std.specs.Option.{option_map}
use Rattle.rc_model.specs.Database.{names_of}
use Rattle.rc_db.proofs.Listing.{one_taken, shown_more}
use Rattle.rc_db.proofs.list.bundle_names.Goals as goal

pub loop-place-preserved : goal.loop-place-preserved
loop-place-preserved c =
    let named = slice_get-map (λ bundle. bundle.0) c.args.table.now c.loop-place.place
    ∙ ap (option_map (λ bundle. bundle.0)) c.at.ensures in
    one_taken (map (λ name. name.now) c.loop-place.all.items)
    (map (λ name. name.now) c.push.new.self.items) (names_of c.args.table.now) c.loop-place.place
    c.at.result.0.now
    named c.loop-place.invariant
    (shown_more (λ name. name.now) c.loop-place.all.items c.push.new.self.items c.at.result.0
    c.in_ok-push.ensures.items)

pub returns : goal.returns
returns c =
    let bundles = names_of c.args.table.now in
    let whole : length bundles ≤ c.loop-place.place =
    omega (arith, length-map c.args.table.now (λ bundle. bundle.0)) in
    c.loop-place.invariant ∙ take_all c.loop-place.place bundles whole

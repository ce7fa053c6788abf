use Rattle.std.proofs.Common.{◌≡◌, ◌∙◌, Some, length, slice_get, sym, ap}
use Rattle.rc_model.specs.Database.{Bundles}
use Rattle.rc_dbtext.proofs.Writing.{bundle_written, long_at}
use Rattle.rc_dbtext.proofs.write.push_bundle_at.Goals as goal

pub push_bundle-requires : goal.push_bundle-requires
push_bundle-requires c =
    let here : slice_get c.args.db.now.table c.args.place
    ≡ Some (c.at.result.0.now, c.at.result.1.now) = ap (λ (t : Bundles). slice_get t c.args.place)
    (sym c.table-table.ensures.table) ∙ c.at.ensures in
    long_at c.args.db.now c.names-names.ensures.database c.args.place c.at.result.0.now
    c.at.result.1.now here ∙ sym (ap length c.names-names.ensures.names)

pub returns : goal.returns
returns c = λ text text_at.
    let here : slice_get c.args.db.now.table c.args.place
    ≡ Some (c.at.result.0.now, c.at.result.1.now) = ap (λ (t : Bundles). slice_get t c.args.place)
    (sym c.table-table.ensures.table) ∙ c.at.ensures in
    bundle_written c.args.db.now c.names-names.ensures.database c.names-names.result.now
    c.args.place c.at.result.0.now c.at.result.1.now text c.args.out.now.items
    c.push_bundle.new.out.items c.names-names.ensures.names here text_at
    c.in_ok-push_bundle.ensures.written

use Rattle.std.proofs.Common.{◌≡◌, ◌∙◌, ◌++◌, ℕ, List, Bool, length, ap, take, arith}
use Rattle.std.proofs.lemmas.List.{take_all}
use Rattle.rc_model.proofs.Places.{take_next}
use Rattle.rc_model.specs.Database.{Bundles}
use Rattle.rc_model.proofs.Lists.{all_at, grown}
use Rattle.rc_livetext.specs.Text.{OfBundle, spell}
use Rattle.rc_dbtext.specs.Spelling.{bundle_text}
use Rattle.rc_livetext.specs.Written.{bundle_bytes}
use Rattle.rc_livetext.proofs.Writing.{bundles_push}
use Rattle.rc_livetext.proofs.write.push_bundles.Goals as goal

pub push_bundle-requires : goal.push_bundle-requires
push_bundle-requires c =
    all_at (λ (b : List ℕ × List Bool). length b.1 ≡ length c.args.names.now) c.args.table.now
    c.loop-place.place _ c.at.ensures c.requires

pub loop-place-preserved : goal.loop-place-preserved
loop-place-preserved c =
    grown c.push_bundle.new.out.items c.loop-place.out.items c.args.out.now.items
    (bundle_bytes c.args.names.now (take c.loop-place.place c.args.table.now)) _
    (spell (OfBundle (bundle_text c.args.names.now (c.at.result.0.now, c.at.result.1.now))))
    c.in_ok-push_bundle.ensures.written c.loop-place.invariant
    (ap (bundle_bytes c.args.names.now)
    (take_next c.args.table.now c.loop-place.place _ c.at.ensures)
    ∙ bundles_push c.args.names.now (take c.loop-place.place c.args.table.now)
    (c.at.result.0.now, c.at.result.1.now))

pub returns : goal.returns
returns c =
    c.loop-place.invariant
    ∙ ap (λ (table : Bundles). c.args.out.now.items ++ bundle_bytes c.args.names.now table)
    (take_all c.loop-place.place c.args.table.now (omega arith))

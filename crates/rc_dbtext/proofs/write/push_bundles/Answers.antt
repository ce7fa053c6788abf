use Rattle.std.proofs.Common.{◌≡◌, ◌∙◌, ◌<◌, ◌+◌, List, get_or, length, arith, sym, ap}
use Rattle.std.proofs.lemmas.Option.{slice_get-get_or}
use Rattle.std.specs.Prelude.{codes}
use Rattle.rc_dbtext.specs.Text.{BundleCount, BundleText, bundle_lines}
use Rattle.rc_dbtext.specs.Spelling.{text_of}
use Rattle.rc_dbtext.proofs.Writing.{as_many_bundles, count_line, counted_all, counted_init}
use Rattle.rc_dbtext.proofs.Writing.{counted_step, no_bundle}
use Rattle.rc_dbtext.proofs.write.push_bundles.Goals as goal

pub loop-place-init : goal.loop-place-init
loop-place-init c =
    let texts : List BundleText = (text_of c.args.db.now).bundles in
    let same : c.len-count.result ≡ length texts = c.len-count.ensures.len
    ∙ ap length c.table-table.ensures.table
    ∙ sym (as_many_bundles c.args.db.now c.table-table.ensures.database) in
    counted_init bundle_lines (BundleCount (length texts)) texts c.args.out.now.items
    c.push_count.new.out.items
    (count_line (codes "bundles") c.args.out.now.items c.push_count.new.out.items c.len-count.result
    (length texts) same c.in_ok-push_count.ensures)

pub loop-place-preserved : goal.loop-place-preserved
loop-place-preserved c =
    let texts : List BundleText = (text_of c.args.db.now).bundles in
    let same : c.len-count.result ≡ length texts = c.len-count.ensures.len
    ∙ ap length c.table-table.ensures.table
    ∙ sym (as_many_bundles c.args.db.now c.table-table.ensures.database) in
    let within : c.loop-place.place < length texts = omega arith in
    counted_step bundle_lines (BundleCount (length texts)) texts c.args.out.now.items
    c.loop-place.out.items c.push_bundle_at.new.out.items c.loop-place.place no_bundle within
    c.loop-place.invariant
    (c.in_ok-push_bundle_at.ensures (get_or texts c.loop-place.place no_bundle)
    (slice_get-get_or texts c.loop-place.place no_bundle within))

pub returns : goal.returns
returns c =
    let texts : List BundleText = (text_of c.args.db.now).bundles in
    let same : c.len-count.result ≡ length texts = c.len-count.ensures.len
    ∙ ap length c.table-table.ensures.table
    ∙ sym (as_many_bundles c.args.db.now c.table-table.ensures.database) in
    let past : length texts < c.loop-place.place + 1 = omega arith in
    counted_all bundle_lines (BundleCount (length texts)) texts c.args.out.now.items
    c.loop-place.out.items c.loop-place.place past c.loop-place.invariant

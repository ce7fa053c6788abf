use Rattle.std.proofs.Common.{◌≤◌}
use Rattle.std.proofs.lemmas.Result.{err_from_is_err_and}
use Rattle.std.specs.List.{flat_map}
use Rattle.rc_dbtext.specs.Text.{BundleCount, IsBundleText, AreFew, bundle_lines, count_and_lines}
use Rattle.rc_dbtext.specs.Reading.{IsStuck, AreSo, one}
use Rattle.rc_dbtext.proofs.Sequences.{refused_where, stuck_first, stuck_second, read_both}
use Rattle.rc_dbtext.proofs.Sequences.{so_many}
use Rattle.rc_dbtext.proofs.Sequences.{counted_sequence}
use Rattle.rc_dbtext.proofs.KindLines.{once_bundles, bundle_kind}
use Rattle.rc_dbtext.proofs.NumberLines.{bundles_count, count_read, no_count}
use Rattle.rc_dbtext.proofs.syntax.forms.all_bundles.Goals as goal

pub returns-in_err-count-clause-fault : goal.returns-in_err-count-clause-fault
returns-in_err-count-clause-fault c =
    let p = err_from_is_err_and c.from_residual.result c.from_residual.ensures.1 in
    rw (p.1, p.2)
    (refused_where c.in_err-count.field-0.0
    (IsStuck (λ n. n ≤ 4096) (one BundleCount) c.args.bytes.now)
    (IsStuck (AreFew IsBundleText) (count_and_lines BundleCount bundle_lines) c.args.bytes.now)
    (λ left due stuck. stuck_first (λ n. n ≤ 4096) (one BundleCount) (λ n. AreSo IsBundleText n)
    (flat_map bundle_lines) (AreFew IsBundleText) (count_and_lines BundleCount bundle_lines)
    (counted_sequence IsBundleText BundleCount bundle_lines) c.args.bytes.now left due
    (λ n few. so_many IsBundleText bundle_lines n bundle_kind.some bundle_kind.is_some) stuck)
    (no_count BundleCount _ bundles_count c.args.bytes.now c.in_err-count.field-0.0
    c.in_err-count.ensures.fault))

pub returns-in_err-bundles-clause-fault : goal.returns-in_err-bundles-clause-fault
returns-in_err-bundles-clause-fault c =
    let p = err_from_is_err_and c.from_residual-in_err-bundles.result
    c.from_residual-in_err-bundles.ensures.1 in
    rw (p.1, p.2)
    (refused_where c.in_err-bundles.field-0.0
    (IsStuck (AreSo IsBundleText c.in_ok-count.count) (flat_map bundle_lines)
    c.in_ok-count.rest.now)
    (IsStuck (AreFew IsBundleText) (count_and_lines BundleCount bundle_lines) c.args.bytes.now)
    (λ left due stuck. stuck_second (λ n. n ≤ 4096) (one BundleCount) (λ n. AreSo IsBundleText n)
    (flat_map bundle_lines) (AreFew IsBundleText) (count_and_lines BundleCount bundle_lines)
    (counted_sequence IsBundleText BundleCount bundle_lines) c.args.bytes.now c.in_ok-count.rest.now
    left due c.in_ok-count.count once_bundles c.in_ok-count.ensures.ok.0
    (count_read BundleCount _ bundles_count c.args.bytes.now c.in_ok-count.rest.now
    c.in_ok-count.count c.in_ok-count.ensures.ok.1) stuck)
    c.in_err-bundles.ensures.fault)

pub returns-clause-ok : goal.returns-clause-ok
returns-clause-ok c =
    read_both (λ n. n ≤ 4096) (one BundleCount) (λ n. AreSo IsBundleText n) (flat_map bundle_lines)
    (AreFew IsBundleText) (count_and_lines BundleCount bundle_lines)
    (counted_sequence IsBundleText BundleCount bundle_lines) c.args.bytes.now c.in_ok-count.rest.now
    c.in_ok-bundles.rest.now c.in_ok-count.count c.in_ok-bundles.bundles.items
    c.in_ok-count.ensures.ok.0
    (count_read BundleCount _ bundles_count c.args.bytes.now c.in_ok-count.rest.now
    c.in_ok-count.count c.in_ok-count.ensures.ok.1) c.in_ok-bundles.ensures.ok.0
    c.in_ok-bundles.ensures.ok.1

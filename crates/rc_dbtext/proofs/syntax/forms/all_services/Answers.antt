use Rattle.std.proofs.Common.{◌≤◌}
use Rattle.std.proofs.lemmas.Result.{err_from_is_err_and}
use Rattle.std.specs.List.{flat_map}
use Rattle.rc_dbtext.specs.Text.{ServiceCount, IsServiceText, AreFew, service_lines}
use Rattle.rc_dbtext.specs.Text.{count_and_lines}
use Rattle.rc_dbtext.specs.Reading.{IsStuck, AreSo, one}
use Rattle.rc_dbtext.proofs.Sequences.{refused_where, stuck_first, stuck_second, read_both}
use Rattle.rc_dbtext.proofs.Sequences.{so_many}
use Rattle.rc_dbtext.proofs.Sequences.{counted_sequence}
use Rattle.rc_dbtext.proofs.Grammar.{some_service}
use Rattle.rc_dbtext.proofs.KindLines.{once_services}
use Rattle.rc_dbtext.proofs.NumberLines.{services_count, count_read, no_count}
use Rattle.rc_dbtext.proofs.syntax.forms.all_services.Goals as goal

pub returns-in_err-count-clause-fault : goal.returns-in_err-count-clause-fault
returns-in_err-count-clause-fault c =
    let p = err_from_is_err_and c.from_residual.result c.from_residual.ensures.1 in
    rw (p.1, p.2)
    (refused_where c.in_err-count.field-0.0
    (IsStuck (λ n. n ≤ 4096) (one ServiceCount) c.args.bytes.now)
    (IsStuck (AreFew IsServiceText) (count_and_lines ServiceCount service_lines) c.args.bytes.now)
    (λ left due stuck. stuck_first (λ n. n ≤ 4096) (one ServiceCount) (λ n. AreSo IsServiceText n)
    (flat_map service_lines) (AreFew IsServiceText) (count_and_lines ServiceCount service_lines)
    (counted_sequence IsServiceText ServiceCount service_lines) c.args.bytes.now left due
    (λ n few. so_many IsServiceText service_lines n some_service.0 some_service.1) stuck)
    (no_count ServiceCount _ services_count c.args.bytes.now c.in_err-count.field-0.0
    c.in_err-count.ensures.fault))

pub returns-in_err-services-clause-fault : goal.returns-in_err-services-clause-fault
returns-in_err-services-clause-fault c =
    let p = err_from_is_err_and c.from_residual-in_err-services.result
    c.from_residual-in_err-services.ensures.1 in
    rw (p.1, p.2)
    (refused_where c.in_err-services.field-0.0
    (IsStuck (AreSo IsServiceText c.in_ok-count.count) (flat_map service_lines)
    c.in_ok-count.rest.now)
    (IsStuck (AreFew IsServiceText) (count_and_lines ServiceCount service_lines) c.args.bytes.now)
    (λ left due stuck. stuck_second (λ n. n ≤ 4096) (one ServiceCount) (λ n. AreSo IsServiceText n)
    (flat_map service_lines) (AreFew IsServiceText) (count_and_lines ServiceCount service_lines)
    (counted_sequence IsServiceText ServiceCount service_lines) c.args.bytes.now
    c.in_ok-count.rest.now left due c.in_ok-count.count once_services c.in_ok-count.ensures.ok.0
    (count_read ServiceCount _ services_count c.args.bytes.now c.in_ok-count.rest.now
    c.in_ok-count.count c.in_ok-count.ensures.ok.1) stuck)
    c.in_err-services.ensures.fault)

pub returns-clause-ok : goal.returns-clause-ok
returns-clause-ok c =
    read_both (λ n. n ≤ 4096) (one ServiceCount) (λ n. AreSo IsServiceText n)
    (flat_map service_lines) (AreFew IsServiceText) (count_and_lines ServiceCount service_lines)
    (counted_sequence IsServiceText ServiceCount service_lines) c.args.bytes.now
    c.in_ok-count.rest.now c.in_ok-services.rest.now c.in_ok-count.count
    c.in_ok-services.services.items c.in_ok-count.ensures.ok.0
    (count_read ServiceCount _ services_count c.args.bytes.now c.in_ok-count.rest.now
    c.in_ok-count.count c.in_ok-count.ensures.ok.1) c.in_ok-services.ensures.ok.0
    c.in_ok-services.ensures.ok.1

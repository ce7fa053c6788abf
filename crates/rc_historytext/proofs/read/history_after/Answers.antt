use Rattle.std.proofs.Common.{arith}
use Rattle.std.proofs.lemmas.Result.{err_from_is_err_and}
use Rattle.rc_historytext.specs.Text.{OfPlace}
use Rattle.rc_historytext.specs.Due.{AtPlace}
use Rattle.rc_historytext.proofs.Stopping.{stops_here, stops_one}
use Rattle.rc_historytext.proofs.Reading.{no_last_line, whole_text}
use Rattle.rc_historytext.proofs.read.history_after.Goals as goal

pub returns-in_default-clause-fault : goal.returns-in_default-clause-fault
returns-in_default-clause-fault c =
    stops_here AtPlace (OfPlace 0 1) c.args.bytes.now (omega arith, omega arith)
    c.in_default.ensures

pub returns-in_err-generations-clause-fault : goal.returns-in_err-generations-clause-fault
returns-in_err-generations-clause-fault c =
    let p = err_from_is_err_and c.from_residual.result c.from_residual.ensures.1 in
    rw (p.1, p.2)
    (stops_one AtPlace (OfPlace c.in-Some.present c.in-Some.count) c.args.bytes.now
    c.in-Some.rest.now c.in_err-generations.field-0.0 (c.in-Some.ensures.0, c.in-Some.ensures.1)
    c.in-Some.ensures.2 c.in_err-generations.ensures.fault)

pub returns-in_default-last_line-clause-fault : goal.returns-in_default-last_line-clause-fault
returns-in_default-last_line-clause-fault c =
    let read = c.in_ok-generations.ensures in
    no_last_line c.args.bytes.now c.in-Some.rest.now c.in_ok-generations.rest.now
    c.in-Some.present c.in-Some.count c.in_ok-generations.generations.items c.in-Some.ensures.0
    c.in-Some.ensures.1 c.in-Some.ensures.2 read.count read.each read.oldest read.front
    c.in_default-last_line.ensures

pub returns-clause-ok : goal.returns-clause-ok
returns-clause-ok c =
    let read = c.in_ok-generations.ensures in (
      record {
        present = omega (arith, c.in-Some.ensures.0, read.count);
        few = omega (arith, c.in-Some.ensures.1, read.count);
        each = read.each;
        oldest = read.oldest;
      },
      whole_text c.args.bytes.now c.in-Some.rest.now c.in_ok-generations.rest.now
          c.in-Some.present c.in-Some.count c.in_ok-generations.generations.items
          c.in-Some-last_line.behind.now c.in-Some.ensures.2 read.count read.front
          c.in-Some-last_line.ensures,
    )

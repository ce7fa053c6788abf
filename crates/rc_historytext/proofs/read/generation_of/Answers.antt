use Rattle.std.proofs.Common.{[], ℕ, List, false, length, map, arith}
use Rattle.std.proofs.lemmas.Result.{err_from_is_err_and}
use Rattle.rc_historytext.specs.declared.lines.LineFault.{LineFault}
use Rattle.rc_historytext.specs.declared.lines.LineFault.TheVariants.{Missing}
use Rattle.rc_historytext.specs.Text.{OfMarks, OfDatabase, OfSession, RenameCount, OfRename}
use Rattle.rc_historytext.specs.Due.{AtMarks, AtDatabase, AtSession}
use Rattle.rc_historytext.proofs.Missing.{no_database, no_session}
use Rattle.rc_historytext.proofs.Stopping.{stops_here, stops_one}
use Rattle.rc_historytext.proofs.Reading.{four_lines}
use Rattle.rc_historytext.proofs.read.generation_of.Goals as goal

pub returns-in_default-clause-fault : goal.returns-in_default-clause-fault
returns-in_default-clause-fault c = λ more.
    stops_here (AtMarks c.args.is_oldest more) (OfMarks false false) c.args.bytes.now tt
    (c.in_default.ensures c.args.is_oldest more)

pub returns-in_default-text_line-clause-fault : goal.returns-in_default-text_line-clause-fault
returns-in_default-text_line-clause-fault c = λ more.
    stops_one (AtMarks c.args.is_oldest more)
    (OfMarks c.in-Some.first_passed c.in-Some.last_passed) c.args.bytes.now c.in-Some.rest.now
    (Missing (length c.in-Some.rest.now)) tt c.in-Some.ensures
    (stops_here (AtDatabase c.args.is_oldest more) (OfDatabase []) c.in-Some.rest.now (omega arith)
    (no_database c.args.is_oldest more c.in-Some.rest.now c.in_default-text_line.ensures))

pub returns-in_default-text_line-2-clause-fault : goal.returns-in_default-text_line-2-clause-fault
returns-in_default-text_line-2-clause-fault c = λ more.
    let rest : List ℕ = c.in-Some-text_line.behind.now in
    stops_one (AtMarks c.args.is_oldest more)
    (OfMarks c.in-Some.first_passed c.in-Some.last_passed) c.args.bytes.now c.in-Some.rest.now
    (Missing (length rest)) tt c.in-Some.ensures
    (stops_one (AtDatabase c.args.is_oldest more) (OfDatabase c.in-Some-text_line.database.now)
    c.in-Some.rest.now rest (Missing (length rest)) c.in-Some-text_line.ensures.0
    c.in-Some-text_line.ensures.1
    (stops_here (AtSession c.args.is_oldest more) (OfSession []) rest (omega arith)
    (no_session c.args.is_oldest more rest c.in_default-text_line-2.ensures)))

pub returns-in_err-renames-clause-fault : goal.returns-in_err-renames-clause-fault
returns-in_err-renames-clause-fault c =
    let p = err_from_is_err_and c.from_residual.result c.from_residual.ensures.1 in
    let fault : LineFault = c.in_err-renames.field-0.0 in
    rw (p.1, p.2)
    (λ more. stops_one (AtMarks c.args.is_oldest more)
    (OfMarks c.in-Some.first_passed c.in-Some.last_passed) c.args.bytes.now c.in-Some.rest.now
    fault tt c.in-Some.ensures
    (stops_one (AtDatabase c.args.is_oldest more) (OfDatabase c.in-Some-text_line.database.now)
    c.in-Some.rest.now c.in-Some-text_line.behind.now fault c.in-Some-text_line.ensures.0
    c.in-Some-text_line.ensures.1
    (stops_one (AtSession c.args.is_oldest more) (OfSession c.in-Some-text_line-2.session.now)
    c.in-Some-text_line.behind.now c.in-Some-text_line-2.last.now fault
    c.in-Some-text_line-2.ensures.0 c.in-Some-text_line-2.ensures.1
    (c.in_err-renames.ensures.fault more))))

pub returns-clause-front : goal.returns-clause-front
returns-clause-front c =
    four_lines c.args.bytes.now c.in-Some.rest.now c.in-Some-text_line.behind.now
    c.in-Some-text_line-2.last.now c.in_ok-renames.end.now
    (OfMarks c.in-Some.first_passed c.in-Some.last_passed)
    (OfDatabase c.in-Some-text_line.database.now) (OfSession c.in-Some-text_line-2.session.now)
    (RenameCount (length c.in_ok-renames.renames.items))
    (map OfRename c.in_ok-renames.renames.items) c.in-Some.ensures c.in-Some-text_line.ensures.1
    c.in-Some-text_line-2.ensures.1 c.in_ok-renames.ensures.ok.2

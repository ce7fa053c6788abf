use Rattle.std.proofs.Common.{[], IfOk, IfErr, refl, subst}
use Rattle.rc_model.specs.Run.{course_of}
use Rattle.rc_model.specs.Session.{Redo}
use Rattle.rc_session.specs.Report.{told_of}
use Rattle.rc_session.specs.Holding.{Holding}
use Rattle.rc_session.proofs.Carrying.{as_before}
use Rattle.rc_board.specs.Halting.{IsHaltOf}
use Rattle.rc_board.specs.Working.{IsCarriedOut, IsFault, LeavesSession}
use Rattle.rc_board.proofs.Carrying.{err_then, halt_fault}
use Rattle.rc_board.proofs.commands.redo.Goals as goal

pub carry_out-requires-clause-begun : goal.carry_out-requires-clause-begun
carry_out-requires-clause-begun g c κs within =
    (Redo c.args.limit [], c.now-start.result, c.in-Ok.ensures.task [])

pub returns-in-Ok-clause-done : goal.returns-in-Ok-clause-done
returns-in-Ok-clause-done g c =
    subst (λ (h : Holding). IfOk c.carry_out.result
    (λ report. IsCarriedOut c.args.workers (g.G.Gate.answers c.args.gate.now)
    (g.G.Gate.gives c.args.gate.now) h (Redo c.args.limit []) (told_of report)
    c.carry_out.new.session))
    (as_before c.args.session.now c.begin_redo.new.self c.requires c.in-Ok.ensures.begun)
    (c.carry_out.ensures.done c.now-start.result (Redo c.args.limit []) (c.in-Ok.ensures.task [])
    c.now-start.ensures)

pub returns-in-Ok-clause-fault : goal.returns-in-Ok-clause-fault
returns-in-Ok-clause-fault g c =
    err_then c.carry_out.result
    (IsHaltOf (course_of c.begin_redo.new.self.database.needs c.in-Ok.begun.plan
    c.in-Ok.begun.deadline)) (IsFault c.args.workers c.args.session.now (Redo c.args.limit []))
    (λ fault halt. halt_fault c.args.workers c.now-start.result c.args.session.now
    c.begin_redo.new.self (Redo c.args.limit []) c.in-Ok.begun fault
    (c.if-not-is_crew.ensures.0 refl) c.in-Ok.ensures.whole c.in-Ok.ensures.begun
    (c.in-Ok.ensures.task []) halt)
    c.carry_out.ensures.halt

pub returns-in-Ok-clause-left : goal.returns-in-Ok-clause-left
returns-in-Ok-clause-left g c =
    subst (λ (h : Holding). IfErr c.carry_out.result
    (λ fault. LeavesSession h fault c.carry_out.new.session))
    (as_before c.args.session.now c.begin_redo.new.self c.requires c.in-Ok.ensures.begun)
    c.carry_out.ensures.left

pub returns-in-Err-clause-fault : goal.returns-in-Err-clause-fault
returns-in-Err-clause-fault g c = (c.if-not-is_crew.ensures.0 refl, c.in-Err.ensures.err [])

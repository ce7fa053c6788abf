use Rattle.std.proofs.Common.{◌≢◌}
use Rattle.rc_model.specs.declared.Refusal.TheVariants.{Memory}
use Rattle.rc_session.specs.Commands.{plain_of}
use Rattle.rc_cli.proofs.ControlledLemmas.{begun_moves, none_weaker, refused_moves, refused_none}
use Rattle.rc_cli.proofs.ControlledLemmas.{given_up, refused_some}
use Rattle.rc_cli.proofs.controlled.begun_longrun.Goals as goal

pub returns-in-Err-clause-some : goal.returns-in-Err-clause-some
returns-in-Err-clause-some c =
    refused_some c.none_by.result (c.in-Err.refusal ≢ Memory) _ c.none_by.ensures

pub returns-in-Err-clause-none : goal.returns-in-Err-clause-none
returns-in-Err-clause-none c =
    refused_none c.none_by.result (c.in-Err.refusal ≢ Memory) _
    (λ other. refused_moves c.args.session.now (plain_of c.args.command.now) c.in-Err.refusal
    c.requires.whole other c.in-Err.ensures.err) c.none_by.ensures

pub returns-clause-none : goal.returns-clause-none
returns-clause-none c =
    none_weaker c.longrun_of-found.result _ _
    (begun_moves c.args.session.now c.begin_run.new.session c.in-Ok.begun
    (plain_of c.args.command.now)
    c.db.result.now c.plan.result.now c.in-Ok.ensures.begun c.in-Ok.ensures.task c.db.ensures.db
    c.plan.ensures)
    c.longrun_of-found.ensures.none

pub returns-clause-same : goal.returns-clause-same
returns-clause-same c = given_up c.args.session.now c.abandon.new.self c.requires.closed
    (rw c.in-Ok.ensures.begun at c.abandon.ensures)

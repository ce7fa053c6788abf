use Rattle.std.proofs.Common.{None, subst, sym}
use Rattle.rc_args.specs.SessionAsked.{session_ask_of}
use Rattle.rc_cli.specs.Checking.{finding_of}
use Rattle.rc_cli.specs.Storing.{store_of}
use Rattle.rc_launch.specs.Loading.{session_in}
use Rattle.rc_launch.specs.TwoSteps.{HoldsFor}
use Rattle.rc_launch.specs.declared.live_store.LiveStore.{LiveStore}
use Rattle.rc_launch.proofs.MendLemmas.{repairs}
use Rattle.rc_launch.proofs.mending.move_found.Goals as goal

pub returns : goal.returns
returns g c = record {
  done = λ done named session text was holds present.
      repairs (finding_of c.args.findings.now) c.args.base.now
      (session_ask_of (session_in c.args.execution.now.opened.now.loaded)) _ _ _ was
      (store_of c.restart_found-restarted.new.devices.outputs.keeper) c.mended_status.ensures done
      c.lower_found-lowered.ensures.done
      (λ zero. c.restart_found-restarted.ensures.done zero named session text was
      (subst (λ (s : LiveStore). HoldsFor None s was) (sym c.lower_found-lowered.ensures.same)
      holds) present);
}

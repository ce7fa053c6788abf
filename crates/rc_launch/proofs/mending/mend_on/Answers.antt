use Rattle.std.proofs.Common.{None, ap, subst, sym}
use Rattle.rc_args.specs.NamedAsked.{named_ask_of}
use Rattle.rc_args.specs.SessionAsked.{session_ask_of}
use Rattle.rc_cli.specs.Checking.{finding_of}
use Rattle.rc_cli.specs.Storing.{store_of}
use Rattle.rc_launch.specs.Loading.{session_in}
use Rattle.rc_launch.specs.TwoSteps.{HoldsFor}
use Rattle.rc_launch.specs.declared.live_store.LiveStore.{LiveStore}
use Rattle.rc_launch.proofs.MendLemmas.{mends}
use Rattle.rc_launch.proofs.mending.mend_on.Goals as goal

pub returns-in-Ok : goal.returns-in-Ok
returns-in-Ok g c = record {
  done = λ done named session text was holds present.
      mends (named_ask_of c.args.request.now)
      (session_ask_of (session_in c.args.execution.now.opened.now.loaded))
      (finding_of c.in-Ok.findings) c.args.base.now session c.args.live was
      (store_of c.move_found-code.new.devices.outputs.keeper) text present c.in-Ok.ensures.found.0
      (c.move_found-code.ensures.done done named session text was
      (subst (λ (s : LiveStore). HoldsFor None s was)
      (sym (ap store_of c.find_as_asked.ensures.unkept)) holds) present);
}

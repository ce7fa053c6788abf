use Rattle.std.proofs.Common.{ap, inr, map}
use Rattle.std.specs.Prelude.{string_bytes}
use Rattle.rc_serve.specs.declared.ending.Ending.TheVariants.{Done}
use Rattle.rc_args.specs.SessionAsked.{session_ask_of}
use Rattle.rc_cli.specs.Storing.{store_of}
use Rattle.rc_cli.specs.declared.sessions.service.Service.TheVariants.{Restart}
use Rattle.rc_launch.specs.Loading.{session_in}
use Rattle.rc_launch.proofs.UpdateLemmas.{restarts, restarts_done}
use Rattle.rc_launch.proofs.mending.restart_found.Goals as goal

pub returns : goal.returns
returns g c = record {
  done = λ done named session text was holds present.
      let names = map string_bytes c.args.findings.now.fallen.items in
      let there = restarts_done names was (store_of c.serve_on.new.devices.outputs.keeper)
      (restarts (Restart c.deref.result) names
      (session_ask_of (session_in c.args.execution.now.opened.now.loaded)) Done c.args.base.now
      session was c.args.live _ _ (store_of c.args.devices.now.outputs.keeper)
      (store_of c.serve_on.new.devices.outputs.keeper)
      (ap (map string_bytes) c.deref.ensures.value) named text present holds
      (c.serve_on.ensures.led Done done)) in
      (there.0, there.1, inr there.2);
}

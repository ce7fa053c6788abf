use Rattle.std.proofs.Common.{ap, map, refl}
use Rattle.std.specs.Prelude.{string_bytes}
use Rattle.rc_args.specs.SessionAsked.{session_ask_of}
use Rattle.rc_cli.specs.Storing.{store_of}
use Rattle.rc_cli.specs.declared.sessions.keeping.LiveFile.TheVariants.{Text}
use Rattle.rc_cli.specs.declared.sessions.service.Service.TheVariants.{Restart}
use Rattle.rc_launch.specs.Loading.{session_in}
use Rattle.rc_launch.proofs.StepLemmas.{present_as}
use Rattle.rc_launch.proofs.UpdateLemmas.{restarts}
use Rattle.rc_launch.proofs.two_steps.restart_on.Goals as goal

pub returns : goal.returns
returns g c = record {
  ended = λ ending same named was holds present.
      restarts (Restart c.deref.result) (map string_bytes c.args.request.now.names.items)
      (session_ask_of (session_in c.args.execution.now.opened.now.loaded)) ending
      c.deref-3.result.now
      c.deref-2.result was (Text c.deref-2.result) _ _ (store_of c.args.devices.now.outputs.keeper)
      (store_of c.serve_on.new.devices.outputs.keeper)
      (ap (map string_bytes) c.deref.ensures.value) named refl
      (present_as was c.deref-3.result.now c.deref-2.result.now c.args.texts.now.database.items
      c.args.texts.now.session.items present c.deref-3.ensures.value c.deref-2.ensures.value) holds
      (c.serve_on.ensures.led ending same);
}

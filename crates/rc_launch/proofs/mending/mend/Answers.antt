use Rattle.rc_args.specs.NamedAsked.{named_ask_of}
use Rattle.rc_args.specs.SessionAsked.{session_ask_of}
use Rattle.rc_cli.specs.Storing.{store_of}
use Rattle.rc_launch.specs.Loading.{NamesFile, session_in}
use Rattle.rc_launch.specs.Mending.{Mends}
use Rattle.rc_launch.specs.TwoSteps.{TakesBackInside}
use Rattle.rc_launch.proofs.HaltLemmas.{done_code}
use Rattle.rc_launch.proofs.StepLemmas.{leads_behind}
use Rattle.rc_launch.proofs.mending.mend.Goals as goal

pub returns-in-Ok-true : goal.returns-in-Ok-true
returns-in-Ok-true g c = record {
  done = λ done named.
      let loaded = c.args.execution.now.opened.now.loaded in
      leads_behind _ (NamesFile loaded) TakesBackInside
      (Mends (named_ask_of c.args.request.now) (session_ask_of (session_in loaded)))
      (store_of c.args.devices.now.outputs.keeper)
      (store_of c.inside_taken_back.new.devices.outputs.keeper)
      (store_of c.mend_present.new.devices.outputs.keeper) c.in-Ok-true.ensures.taken named
      (c.mend_present.ensures.done (done_code _ _ c.hindered.ensures done) named);
}

pub returns-in-Ok-false : goal.returns-in-Ok-false
returns-in-Ok-false g c = record {
  done = λ done named.
      let loaded = c.args.execution.now.opened.now.loaded in
      leads_behind _ (NamesFile loaded) TakesBackInside
      (Mends (named_ask_of c.args.request.now) (session_ask_of (session_in loaded)))
      (store_of c.args.devices.now.outputs.keeper)
      (store_of c.inside_taken_back.new.devices.outputs.keeper)
      (store_of c.mend_present-in-Ok-false.new.devices.outputs.keeper) c.in-Ok-false.ensures.taken
      named (c.mend_present-in-Ok-false.ensures.done done named);
}

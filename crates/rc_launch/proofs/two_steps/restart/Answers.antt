use Rattle.std.proofs.Common.{◌≡◌, Bool, ap, map, subst, sym}
use Rattle.std.specs.Prelude.{string_bytes}
use Rattle.rc_serve.specs.declared.ending.Ending.{Ending}
use Rattle.rc_cli.specs.Storing.{store_of}
use Rattle.rc_launch.specs.Loading.{NamesFile}
use Rattle.rc_launch.specs.TwoSteps.{GoesBackInside, RestartsBy, StopsTakingBack, TakesBackInside}
use Rattle.rc_launch.specs.TwoSteps.{ending_after}
use Rattle.rc_launch.proofs.StepLemmas.{behind_code, ends_behind, leads_stopped}
use Rattle.rc_launch.proofs.two_steps.restart.Goals as goal

pub returns-in-Ok-true : goal.returns-in-Ok-true
returns-in-Ok-true g c = record {
  ended = λ ending same named.
      let last = behind_code _ _ ending c.hindered.ensures same in
      ends_behind _ (NamesFile c.args.execution.now.opened.now.loaded) TakesBackInside
      (λ (e : Ending). RestartsBy e (map string_bytes c.args.request.now.names.items))
      (StopsTakingBack ending GoesBackInside) ending last.0
      (store_of c.args.devices.now.outputs.keeper)
      (store_of c.inside_taken_back.new.devices.outputs.keeper)
      (store_of c.serve_restart.new.devices.outputs.keeper) c.in-Ok-true.ensures.taken named
      (subst (λ (b : Bool). ending ≡ ending_after b last.0) (sym c.in-Ok-true.field-0-test) last.2)
      (c.serve_restart.ensures.ended last.0 last.1 named);
}

pub returns-in-Ok-false : goal.returns-in-Ok-false
returns-in-Ok-false g c = record {
  ended = λ ending same named.
      ends_behind _ (NamesFile c.args.execution.now.opened.now.loaded) TakesBackInside
      (λ (e : Ending). RestartsBy e (map string_bytes c.args.request.now.names.items))
      (StopsTakingBack ending GoesBackInside) ending ending
      (store_of c.args.devices.now.outputs.keeper)
      (store_of c.inside_taken_back.new.devices.outputs.keeper)
      (store_of c.serve_restart-in-Ok-false.new.devices.outputs.keeper) c.in-Ok-false.ensures.taken
      named
      (ap (λ (b : Bool). ending_after b ending) (sym c.in-Ok-false.field-0-test))
      (c.serve_restart-in-Ok-false.ensures.ended ending same named);
}

pub returns-in-Err : goal.returns-in-Err
returns-in-Err g c = record {
  ended = λ ending same named.
      leads_stopped _ _ (store_of c.args.devices.now.outputs.keeper)
      (store_of c.inside_taken_back.new.devices.outputs.keeper)
      (c.in-Err.ensures.stops ending same named);
}

use Rattle.std.proofs.Common.{◌≡◌, List, length, subst}
use Rattle.rc_cli.specs.Storing.{store_of}
use Rattle.rc_update.specs.declared.conversion.Conversion.{Conversion}
use Rattle.rc_launch.specs.Loading.{bytes_of}
use Rattle.rc_launch.proofs.StepLemmas.{settles_by, stays_on, updates_on}
use Rattle.rc_launch.proofs.two_steps.carry_texts.Goals as goal

pub returns-then-is_up_to_date : goal.returns-then-is_up_to_date
returns-then-is_up_to_date g c = record {
  ended = λ ending same kept to was held present.
      stays_on c.args.request.now.conversions.items
      (bytes_of c.args.execution.now.opened.now.loaded.new) c.args.database.now
      c.args.session.now was (store_of c.args.devices.now.outputs.keeper)
      (store_of c.say_done.new.devices.outputs.keeper) _ ending c.say_done.ensures.statuses same
      c.say_done.ensures.same
      (subst (λ (list : List Conversion). length list ≡ 0) c.as_slice.ensures.value
      (c.is_up_to_date.ensures.list c.if-is_up_to_date.true))
      (c.is_up_to_date.ensures.new c.if-is_up_to_date.true) held present;
}

pub returns : goal.returns
returns g c = record {
  ended = λ ending same kept to was held present.
      updates_on c.args.request.now (bytes_of c.args.execution.now.opened.now.loaded.new)
      c.args.database.now c.args.session was (store_of c.args.devices.now.outputs.keeper)
      (store_of c.serve_update-code.new.devices.outputs.keeper)
      (store_of c.settled.new.devices.outputs.keeper) kept to held present ending
      (c.serve_update-code.ensures ending (c.settled.ensures.code ending same))
      (settles_by ending _ _ _ same c.settled.ensures.done c.settled.ensures.halted);
}

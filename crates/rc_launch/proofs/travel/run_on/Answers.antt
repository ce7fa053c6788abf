use Rattle.std.proofs.Common.{refl}
use Rattle.rc_args.specs.SessionAsked.{session_ask_of}
use Rattle.rc_cli.specs.Storing.{store_of}
use Rattle.rc_launch.specs.Loading.{session_in}
use Rattle.rc_launch.proofs.TravelLemmas.{halts_inside, leads_inside}
use Rattle.rc_launch.proofs.travel.run_on.Goals as goal

pub returns-then-was_led_from-clause-done : goal.returns-then-was_led_from-clause-done
returns-then-was_led_from-clause-done g c done named =
    let frame = (store_of c.serve_on-code.new.devices.outputs.keeper).frame in
    leads_inside (session_ask_of (session_in c.args.execution.now.opened.now.loaded)) _ _ _ _ _ _ _
    _ _ c.args.way.is_on c.args.way.limit c.args.history.now frame c.serve_on-code.result
    done c.line-once.ensures named c.serve_on-code.ensures.ended c.in-Ok.ensures.ok
    refl (c.was_led_from.ensures.0 c.if-was_led_from.true)

pub returns-then-was_led_from-clause-halted : goal.returns-then-was_led_from-clause-halted
returns-then-was_led_from-clause-halted g c halted named stands =
    let frame = (store_of c.serve_on-code.new.devices.outputs.keeper).frame in
    halts_inside (session_ask_of (session_in c.args.execution.now.opened.now.loaded)) _ _ _ _ _ _ _
    _ _ c.args.way.is_on c.args.way.limit c.args.history.now frame c.serve_on-code.result
    halted c.line-once.ensures named c.serve_on-code.ensures.ended c.in-Ok.ensures.ok
    refl (c.was_led_from.ensures.0 c.if-was_led_from.true) stands

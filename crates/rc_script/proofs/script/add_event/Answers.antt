use Rattle.rc_session.specs.Commands.{command_of}
use Rattle.rc_script.proofs.Reading.{event_taken, event_not_taken}
use Rattle.rc_script.proofs.script.add_event.Goals as goal

pub returns-in_ok-push-in-Some-2 : goal.returns-in_ok-push-in-Some-2
returns-in_ok-push-in-Some-2 c =
    event_taken command_of _ c.pop.new.self.items c.in-Some.last c.args.event
    c.in-Some.ensures.items _ c.in-Some-2.step (rw c.in-Some-2.is at c.in_ok-step.ensures)
    c.in_ok-push-in-Some-2.ensures.items

pub returns-in-None : goal.returns-in-None
returns-in-None c =
    event_not_taken command_of _ c.pop.new.self.items c.in-Some.last c.args.event
    c.in-Some.ensures.items (rw c.in-None.is at c.in_ok-step.ensures)

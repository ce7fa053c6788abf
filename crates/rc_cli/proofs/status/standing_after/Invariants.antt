use Rattle.std.proofs.Common.{◌≡◌, if◌then◌else◌, take}
use Rattle.std.specs.List.{fold}
use Rattle.rc_model.specs.declared.Standing.TheVariants.{Down, Up}
use Rattle.rc_model.specs.Run.{after_event}
use Rattle.rc_cli.proofs.status.standing_after.Given as goal

-- where it stands after the events that are passed
abbrev pub invariant-loop-event : goal.invariant-loop-event
invariant-loop-event l = l.standing
    ≡ fold (after_event l.s) (if l.fn.live then Up else Down) (take l.event-index l.events)

-- What a controller says of the transitions that were under way when a command was cut short.
use Rattle.std.specs.Prelude.{Bool, false, not}
use Rattle.rc_recovery.specs.declared.ways.UnderWay.{UnderWay}
use Rattle.rc_runner.specs.declared.asking.Found.{Found}
use Rattle.rc_runner.specs.declared.asking.Found.TheVariants.{Down, Unknown, Up}

-- a transition has come to its end: its service was down and is found up, or the other way round
abbrev pub has_ended : UnderWay → Found → Bool
has_ended way Up = not way.was_up
has_ended way Down = way.was_up
has_ended way Unknown = false

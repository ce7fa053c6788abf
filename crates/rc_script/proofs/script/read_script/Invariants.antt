use Rattle.std.proofs.Common.{[], map, take}
use Rattle.rc_session.specs.Commands.{command_of}
use Rattle.rc_script.specs.Script.{Reads}
use Rattle.rc_script.proofs.script.read_script.Given as goal

-- the lines so far make these commands
abbrev pub invariant-loop-place : goal.invariant-loop-place
invariant-loop-place l =
    Reads l.names (take l.place (map (λ line. line.now) l.line-items)) []
    (map command_of l.steps.items)

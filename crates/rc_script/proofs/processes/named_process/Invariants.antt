use Rattle.std.proofs.Common.{All, None, map, take}
use Rattle.rc_script.specs.Processes.{IsProcessOf}
use Rattle.rc_script.proofs.processes.named_process.Given as goal

-- none of the lines so far names a program of the service
abbrev pub invariant-loop-line : goal.invariant-loop-line
invariant-loop-line l =
    All (λ line. IsProcessOf l.name line None)
    (take l.line-index (map (λ line. line.now) l.line-items))

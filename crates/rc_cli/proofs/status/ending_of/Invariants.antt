use Rattle.std.proofs.Common.{◌<◌, ℕ}
use Rattle.rc_model.specs.Names.{Has}
use Rattle.rc_cli.specs.Status.{IsUp}
use Rattle.rc_cli.proofs.status.ending_of.Given as goal

-- the wanted that are passed are up
abbrev pub invariant-loop-id : goal.invariant-loop-id
invariant-loop-id l = (s : ℕ) → s < l.id → Has l.wanted s → IsUp l.live l.events s

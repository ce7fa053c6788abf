use Rattle.std.proofs.Common.{◌≡◌, List, Some, ℕ}
use Rattle.rc_cli.specs.Storing.{store_of}
use Rattle.rc_launch.specs.HeldHistory.{LeadsOn, history_held}
use Rattle.rc_launch.specs.Loading.{NamesFile}
use Rattle.rc_launch.proofs.HaltLemmas.{ComesTo}
use Rattle.rc_launch.proofs.travel.steps.Given as goal

-- so many steps were taken, and each came to a state from which it goes on
abbrev pub invariant-loop : goal.invariant-loop
invariant-loop g l = NamesFile l.execution.opened.now.loaded → (was : List ℕ)
    → history_held (store_of l.fn.devices.outputs.keeper) ≡ Some was
    → (n : ℕ) × LeadsOn was (store_of l.devices.outputs.keeper) (ComesTo l.has_run n l.way.is_on)

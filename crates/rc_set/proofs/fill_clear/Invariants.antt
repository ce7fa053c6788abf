use Rattle.std.proofs.Common.{◌*◌, ◌<◌}
use Rattle.rc_set.specs.Words.{HasBit}
use Rattle.rc_set.specs.Filled.{Fills}
use Rattle.rc_set.proofs.fill_clear.Given as goal

-- the list is filled for the words that are passed
abbrev pub invariant-loop-at : goal.invariant-loop-at
invariant-loop-at g l =
    Fills (λ s. (s < 64 * l.at) × (HasBit l.words s → ⊥)) l.fn.list l.list l.value

use Rattle.std.proofs.Common.{◌≡◌, ℕ, zero, suc, Bool, List, [], ◌∷◌, All, length, refl, arith, sym}
use Rattle.std.proofs.Common.{subst}
use Rattle.rc_model.specs.Database.{Bundles}
use Rattle.rc_model.specs.Line.{State}
use Rattle.rc_line.specs.State.{states_of}
use Rattle.scenarios.proofs.growths.lines.of_two.Goals as goal

-- the sets of two states have one bound
abbrev HaveOneBound : List (List Bool × Bundles) → Type 0
HaveOneBound held =
    (bound : ℕ) × All (λ (state : State). length state.live ≡ bound) (states_of held)

one_bound : (first second : List Bool × Bundles) → length second.0 ≡ length first.0
    → HaveOneBound (first ∷ second ∷ [])
one_bound first second same = (length first.0, each)
  where
    each : All (λ (state : State). length state.live ≡ length first.0)
        (states_of (first ∷ second ∷ []))
    each zero d low = refl
    each (suc zero) d low = same
    each (suc (suc k)) d low = absurd (omega arith)

pub from_states-requires-clause-sets : goal.from_states-requires-clause-sets
from_states-requires-clause-sets g c =
    subst HaveOneBound (sym c.in_ok-held.ensures.items)
    (one_bound c.args.first c.args.second c.requires.sets)

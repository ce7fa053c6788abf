-- Why the wanted services of a plan are not found.
use Rattle.std.specs.Prelude.{ℕ, List, All}
use Rattle.rc_model.specs.Database.{Bundles, IsKnown, IsUnknownAt}
use Rattle.rc_model.specs.declared.PlanFault.{PlanFault}
use Rattle.rc_model.specs.declared.PlanFault.TheVariants.{PruneNeedsUp, Unknown, Memory}

-- when the wanted are not told, the first fault in this order
abbrev pub IsWantedFault : List (List ℕ) → Bundles → List (List ℕ) → PlanFault → Type 0
IsWantedFault names table words PruneNeedsUp = ⊥
IsWantedFault names table words (Unknown place) = IsUnknownAt names table words place
IsWantedFault names table words Memory = All (IsKnown names table) words

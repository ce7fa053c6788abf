-- The sets of a plan, as they fit each other.
use Rattle.std.specs.Prelude.{◌≡◌, ℕ, length}
use Rattle.rc_model.specs.Names.{Has}
use Rattle.rc_model.specs.Plan.{PlanSets}

-- sets of one bound; what goes down was up, what comes up was not, and what is
-- kept was up and does not go down
pub record IsPlan (plan : PlanSets) : Type 0 where
  pub lower_bound : length plan.lower ≡ length plan.opening
  pub raise_bound : length plan.raise ≡ length plan.opening
  pub kept_bound : length plan.kept ≡ length plan.opening
  pub falls : (s : ℕ) → Has plan.lower s → Has plan.opening s
  pub rises : (s : ℕ) → Has plan.raise s → Has plan.opening s → ⊥
  pub keeps : (s : ℕ) → Has plan.kept s → Has plan.opening s
  pub spares : (s : ℕ) → Has plan.kept s → Has plan.lower s → ⊥

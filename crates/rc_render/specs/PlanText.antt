-- The lines of a plan.
use Rattle.std.specs.Prelude.{◌≡◌, ◌++◌, ℕ, List, codes}
use Rattle.rc_model.specs.Names.{Has}
use Rattle.rc_model.specs.Plan.{PlanSets}
use Rattle.rc_render.specs.Lines.{IsLineOf}

-- the lines of a plan: what goes down, what comes up, what is kept
pub record IsPlanText (names : List (List ℕ)) (plan : PlanSets) (text : List ℕ) : Type 0 where
  pub lower : List ℕ
  pub raise : List ℕ
  pub kept : List ℕ
  pub lowered : IsLineOf (codes "lower") names (Has plan.lower) lower
  pub raised : IsLineOf (codes "raise") names (Has plan.raise) raise
  pub keeps : IsLineOf (codes "kept") names (Has plan.kept) kept
  pub all : text ≡ lower ++ raise ++ kept

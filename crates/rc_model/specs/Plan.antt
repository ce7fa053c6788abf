-- What a change is asked to do, its target and its plan.
use Rattle.std.specs.Prelude.{List, Bool, ◌≡◌, ℕ, length, ◌⊎◌, true, false, ◌≢◌, All}
use Rattle.rc_model.specs.Names.{Has, Holds}
use Rattle.rc_model.specs.Graph.{UpFrom, DownFrom}
use Rattle.rc_model.specs.declared.Mode.{Mode}
use Rattle.rc_model.specs.declared.Mode.TheVariants.{Up, Down, DownAll}
use Rattle.rc_model.specs.Database.{Bundles, Database, IsEssential, Selected, IsKnown, IsUnknownAt}
use Rattle.rc_model.specs.declared.PlanFault.{PlanFault}
use Rattle.rc_model.specs.declared.PlanFault.TheVariants.{PruneNeedsUp, Unknown, Memory}

-- what a change is asked to do: which way (`Up`, `Down` or `DownAll`), whether what is not
-- wanted goes (pruning, on the way up alone), whether all that is up is wanted too, the words,
-- and a limit of its run in milliseconds, 0 for none
pub record Ask : Type 0 where
  pub mode : Mode
  pub prune : Bool
  pub all : Bool
  pub words : List (List ℕ)
  pub limit : ℕ

-- the services that are wanted: those that the words
-- stand for and, where all are, those that are up
abbrev pub IsWanted : List (List ℕ) → Bundles → (ℕ → Type 0) → Ask → ℕ → Type 0
IsWanted names table up ask s = Selected names table ask.words s ⊎ ((ask.all ≡ true) × up s)

-- an essential service that is up
abbrev pub IsEssentialUp : Database → (ℕ → Type 0) → ℕ → Type 0
IsEssentialUp d up s = IsEssential d s × up s

-- what essential services that are up (`IsEssentialUp`) hold up: themselves, and all that they need
abbrev pub IsHeldUp : List (List ℕ) → (ℕ → Type 0) → ℕ → Type 0
IsHeldUp needs essential = UpFrom needs essential

-- what is to be up in the end, from who needs whom, what is up, the essential services
-- among that, which way, whether what is not wanted goes, and what is wanted
abbrev pub Target : List (List ℕ) → (ℕ → Type 0) → (ℕ → Type 0) → Mode → Bool → (ℕ → Type 0) → ℕ →
    Type 0
-- upwards: what is up, and the wanted with all that they need
Target needs up essential Up false wanted s = up s ⊎ UpFrom needs wanted s
-- upwards with pruning: the wanted with all that they need, and what essential services hold up
Target needs up essential Up true wanted s = UpFrom needs wanted s ⊎ IsHeldUp needs essential s
-- downwards: what is up; but of the wanted, and of what reaches them, only what is held up
Target needs up essential Down prune wanted s =
    up s × (DownFrom needs wanted s → IsHeldUp needs essential s)
-- downwards for all: what is up, and is neither wanted nor reaches what is wanted
Target needs up essential DownAll prune wanted s = up s × (DownFrom needs wanted s → ⊥)

-- what is told as kept: the essential services that stay up although they were to go
abbrev pub Kept : List (List ℕ) → (ℕ → Type 0) → Mode → Bool → (ℕ → Type 0) → ℕ → Type 0
Kept needs essential Up false wanted s = ⊥
Kept needs essential Up true wanted s = essential s × (UpFrom needs wanted s → ⊥)
Kept needs essential Down prune wanted s = essential s × DownFrom needs wanted s
Kept needs essential DownAll prune wanted s = ⊥

-- a plan as its four sets: what is up before it, what goes down, what comes up, what is kept
pub record PlanSets : Type 0 where
  pub opening : List Bool
  pub lower : List Bool
  pub raise : List Bool
  pub kept : List Bool

-- the plan goes from what is up to a target, by their two
-- differences, and lists the services that it spares as kept
pub record IsPlanTo (up : List Bool) (target spared : ℕ → Type 0) (plan : PlanSets) : Type 0 where
  pub opening : plan.opening ≡ up
  pub lower : Holds plan.lower (λ s. Has up s × (target s → ⊥))
  pub raise : Holds plan.raise (λ s. target s × (Has up s → ⊥))
  pub kept : Holds plan.kept spared
  pub lower_bound : length plan.lower ≡ length up
  pub raise_bound : length plan.raise ≡ length up
  pub kept_bound : length plan.kept ≡ length up

-- the target of what is asked, where these services are up and these are the
-- bundles, which may be others than those that the database began with
abbrev pub TargetOfAsk : Database → Bundles → List Bool → Ask → ℕ → Type 0
TargetOfAsk d table up ask =
    Target d.needs (Has up) (IsEssentialUp d (Has up)) ask.mode ask.prune
    (IsWanted d.names table (Has up) ask)

-- what is told as kept of what is asked there
abbrev pub KeptOfAsk : Database → Bundles → List Bool → Ask → ℕ → Type 0
KeptOfAsk d table up ask =
    Kept d.needs (IsEssentialUp d (Has up)) ask.mode ask.prune
    (IsWanted d.names table (Has up) ask)

-- the plan of what is asked there
abbrev pub IsPlanOf : Database → Bundles → List Bool → Ask → PlanSets → Type 0
IsPlanOf d table up ask plan =
    IsPlanTo up (TargetOfAsk d table up ask) (KeptOfAsk d table up ask) plan

-- it is asked to let go what is not wanted, and not on the way up
abbrev pub PrunesWrongly : Ask → Type 0
PrunesWrongly ask = (ask.prune ≡ true) × (ask.mode ≢ Up)

-- what can be planned: it prunes on the way up alone, and each word is the name of something
pub record CanPlan (names : List (List ℕ)) (table : Bundles) (ask : Ask) : Type 0 where
  pub prunes : PrunesWrongly ask → ⊥
  pub known : All (IsKnown names table) ask.words

-- when a plan is refused, the first fault in this order; `Memory`, which calls give
-- and no command of the headline, comes only where all else is right
abbrev pub IsPlanFault : List (List ℕ) → Bundles → Ask → PlanFault → Type 0
IsPlanFault names table ask PruneNeedsUp = PrunesWrongly ask
IsPlanFault names table ask (Unknown place) =
    (PrunesWrongly ask → ⊥) × IsUnknownAt names table ask.words place
IsPlanFault names table ask Memory = CanPlan names table ask

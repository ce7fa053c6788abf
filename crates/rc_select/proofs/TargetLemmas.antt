-- Targets: closed, and the same for the same facts.
use Rattle.std.proofs.Common.{◌↔◌, ℕ, Bool, true, false, List, inl, inr}
use Rattle.rc_model.specs.Graph.{IsClosed}
use Rattle.rc_graph.proofs.Paths.{up_is_closed, down_before}
use Rattle.rc_model.specs.declared.Mode.{Mode}
use Rattle.rc_model.specs.declared.Mode.TheVariants.{Up, Down, DownAll}
use Rattle.rc_model.specs.Plan.{Target, Kept}
use Rattle.rc_model.proofs.Closures.{up_more, down_more}
use Rattle.rc_select.specs.Sides.{MindsEssential}

-- the target of a closed set is closed
pub target_closed : (needs : List (List ℕ)) (IsUp IsEssentialUp IsWanted : ℕ → Type 0) (mode : Mode)
    (prune : Bool) → IsClosed needs IsUp
    → IsClosed needs (Target needs IsUp IsEssentialUp mode prune IsWanted)
target_closed needs IsUp IsEssentialUp IsWanted Up false closed s t target need = elim target [
  | inl up ↦ inl (closed s t up need)
  | inr wanted ↦ inr (up_is_closed needs IsWanted s t wanted need)
]
target_closed needs IsUp IsEssentialUp IsWanted Up true closed s t target need = elim target [
  | inl wanted ↦ inl (up_is_closed needs IsWanted s t wanted need)
  | inr held ↦ inr (up_is_closed needs IsEssentialUp s t held need)
]
target_closed needs IsUp IsEssentialUp IsWanted Down prune closed s t target need = (
  closed s t target.0 need,
  λ down. up_is_closed needs IsEssentialUp s t (target.1 (down_before needs IsWanted s t need down))
      need,
)
target_closed needs IsUp IsEssentialUp IsWanted DownAll prune closed s t target need =
    (closed s t target.0 need, λ down. target.1 (down_before needs IsWanted s t need down))

-- and so is a set that has just the target's services
pub same_closed : (needs : List (List ℕ)) (In Also : ℕ → Type 0) → ((s : ℕ) → In s → Also s)
    → ((s : ℕ) → Also s → In s) → IsClosed needs In → IsClosed needs Also
same_closed needs In Also there back closed s t also need = there t (closed s t (back s also) need)

-- the same facts have the same target, and the same services are kept; of the essential services
-- it is asked only where they make a difference
module _ (needs : List (List ℕ)) (IsUp E F V W : ℕ → Type 0) (wanted : (s : ℕ) → V s ↔ W s) where
  same_target_by : (mode : Mode) (prune : Bool)
      → (MindsEssential mode prune → (s : ℕ) → E s ↔ F s) → (s : ℕ)
      → Target needs IsUp E mode prune V s → Target needs IsUp F mode prune W s
  same_target_by Up false essential s target =
      elim target [
        | inl up ↦ inl up
        | inr more ↦ inr (up_more needs V W (λ t. (wanted t).0) s more)
      ]
  same_target_by Up true essential s target = elim target [
    | inl more ↦ inl (up_more needs V W (λ t. (wanted t).0) s more)
    | inr held ↦ inr (up_more needs E F (λ t. (essential tt t).0) s held)
  ]
  same_target_by Down prune essential s target = (
    target.0,
    λ down. up_more needs E F (λ t. (essential tt t).0) s
        (target.1 (down_more needs W V (λ t. (wanted t).1) s down)),
  )
  same_target_by DownAll prune essential s target =
      (target.0, λ down. target.1 (down_more needs W V (λ t. (wanted t).1) s down))

  same_kept_by : (mode : Mode) (prune : Bool)
      → (MindsEssential mode prune → (s : ℕ) → E s ↔ F s) → (s : ℕ)
      → Kept needs E mode prune V s → Kept needs F mode prune W s
  same_kept_by Up false essential s kept = kept
  same_kept_by Up true essential s kept = (
    (essential tt s).0 kept.0,
    λ more. kept.1 (up_more needs W V (λ t. (wanted t).1) s more),
  )
  same_kept_by Down prune essential s kept =
      ((essential tt s).0 kept.0, down_more needs V W (λ t. (wanted t).0) s kept.1)
  same_kept_by DownAll prune essential s kept = kept

module _ (needs : List (List ℕ)) (IsUp E F V W : ℕ → Type 0) (mode : Mode) (prune : Bool)
    (essential : MindsEssential mode prune → (s : ℕ) → E s ↔ F s)
    (wanted : (s : ℕ) → V s ↔ W s) where
  essential_back : MindsEssential mode prune → (s : ℕ) → F s ↔ E s
  essential_back minds s = ((essential minds s).1, (essential minds s).0)

  wanted_back : (s : ℕ) → W s ↔ V s
  wanted_back s = ((wanted s).1, (wanted s).0)

  pub same_target : (s : ℕ)
      → Target needs IsUp E mode prune V s ↔ Target needs IsUp F mode prune W s
  same_target s = (
    same_target_by needs IsUp E F V W wanted mode prune essential s,
    same_target_by needs IsUp F E W V wanted_back mode prune essential_back s,
  )

  pub same_kept : (s : ℕ) → Kept needs E mode prune V s ↔ Kept needs F mode prune W s
  same_kept s = (
    same_kept_by needs IsUp E F V W wanted mode prune essential s,
    same_kept_by needs IsUp F E W V wanted_back mode prune essential_back s,
  )

-- what is kept is essential and up, and in the target
pub kept_essential : (needs : List (List ℕ)) (IsEssentialUp IsWanted : ℕ → Type 0) (mode : Mode)
    (prune : Bool) (s : ℕ) → Kept needs IsEssentialUp mode prune IsWanted s → IsEssentialUp s
kept_essential needs IsEssentialUp IsWanted Up false s kept = absurd kept
kept_essential needs IsEssentialUp IsWanted Up true s kept = kept.0
kept_essential needs IsEssentialUp IsWanted Down prune s kept = kept.0
kept_essential needs IsEssentialUp IsWanted DownAll prune s kept = absurd kept

pub kept_stays : (needs : List (List ℕ)) (IsUp IsEssentialUp IsWanted : ℕ → Type 0)
    → ((s : ℕ) → IsEssentialUp s → IsUp s)
    → (mode : Mode) (prune : Bool) (s : ℕ) → Kept needs IsEssentialUp mode prune IsWanted s
    → Target needs IsUp IsEssentialUp mode prune IsWanted s
kept_stays needs IsUp IsEssentialUp IsWanted up Up false s kept = absurd kept
kept_stays needs IsUp IsEssentialUp IsWanted up Up true s kept = inr (inl kept.0)
kept_stays needs IsUp IsEssentialUp IsWanted up Down prune s kept =
    (up s kept.0, λ down. inl kept.0)
kept_stays needs IsUp IsEssentialUp IsWanted up DownAll prune s kept = absurd kept

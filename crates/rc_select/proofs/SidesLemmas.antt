-- Sets that are computed from others, and plans that lead to them.
use Rattle.std.proofs.Common.{◌≡◌, ◌↔◌, ◌⊎◌, ⊎_elim, ℕ, Bool, List, inl, inr, subst, sym}
use Rattle.rc_model.specs.Names.{Has, Holds}
use Rattle.rc_model.proofs.SetMembers.{has_or_lacks}
use Rattle.rc_model.specs.Plan.{IsPlanTo, PlanSets}

-- what is left without what goes and is not held: what is there and, where it is to go, is held
pub left_over : (IsUp Goes IsHeld : ℕ → Type 0) (goes held gone left : List Bool) → Holds goes Goes
    → Holds held IsHeld → Holds gone (λ s. Has goes s × (Has held s → ⊥))
    → Holds left (λ s. IsUp s × (Has gone s → ⊥)) → Holds left (λ s. IsUp s × (Goes s → IsHeld s))
left_over IsUp Goes IsHeld goes held gone left holds_goes holds_held holds_gone holds_left s = (
  λ has. let h = (holds_left s).0 has in (
    h.0,
    λ g. elim (has_or_lacks held s) [
      | inl there ↦ (holds_held s).0 there
      | inr absent ↦ absurd (h.1 ((holds_gone s).1 ((holds_goes s).1 g, absent)))
    ],
  ),
  λ h. (holds_left s).1 (
    h.0,
    λ has. let g = (holds_gone s).0 has in
        g.1 ((holds_held s).1 (h.1 ((holds_goes s).0 g.0))),
  ),
)

-- the same facts make the same plan
pub leads_same : (up : List Bool) (T U K L : ℕ → Type 0) (plan : PlanSets) → IsPlanTo up T K plan
    → ((s : ℕ) → T s ↔ U s) → ((s : ℕ) → K s ↔ L s) → IsPlanTo up U L plan
leads_same up T U K L plan leads target kept = record {
  opening = leads.opening;
  lower = λ s. (
    λ has. let h = (leads.lower s).0 has in (h.0, λ u. h.1 ((target s).1 u)),
    λ h. (leads.lower s).1 (h.0, λ t. h.1 ((target s).0 t)),
  );
  raise = λ s. (
    λ has. let h = (leads.raise s).0 has in
        ((target s).0 h.0, h.1),
    λ h. (leads.raise s).1 ((target s).1 h.0, h.1),
  );
  kept = λ s. (λ has. (kept s).0 ((leads.kept s).0 has), λ l. (leads.kept s).1 ((kept s).1 l));
  lower_bound = leads.lower_bound;
  raise_bound = leads.raise_bound;
  kept_bound = leads.kept_bound;
}

-- the members of two sets together
pub joined : (P Q : ℕ → Type 0) (one other all : List Bool) → Holds one P → Holds other Q
    → Holds all (λ s. Has one s ⊎ Has other s) → Holds all (λ s. P s ⊎ Q s)
joined P Q one other all are also both s = (
  λ has. ⊎_elim (λ a. inl ((are s).0 a)) (λ b. inr ((also s).0 b)) ((both s).0 has),
  λ cases. (both s).1 (⊎_elim (λ p. inl ((are s).1 p)) (λ q. inr ((also s).1 q)) cases),
)

-- what a copy of a set is without others
pub without_those : (P : ℕ → Type 0) (set copied taken left : List Bool) → copied ≡ set
    → Holds taken P → Holds left (λ s. Has copied s × (Has taken s → ⊥))
    → Holds left (λ s. Has set s × (P s → ⊥))
without_those P set copied taken left same are rest s =
    let Copied : List Bool → Type 0 = λ members. Has members s in (
      λ has. let h = (rest s).0 has in (subst Copied same h.0, λ p. h.1 ((are s).1 p)),
      λ h. (rest s).1 (subst Copied (sym same) h.0, λ t. h.1 ((are s).0 t)),
    )

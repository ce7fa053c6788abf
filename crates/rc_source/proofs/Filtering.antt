-- The members of a list that pass a test.
use Rattle.std.proofs.Common.{◌≡◌, ◌∙◌, ◌↔◌, ⊎_elim, ℕ, Bool, true, false, cond, List, [], ◌∷◌}
use Rattle.std.proofs.Common.{Contains, filter, refl, sym, ap, true≢false}
use Rattle.rc_model.proofs.Members.{contains_later, none_contained}
use Rattle.rc_source.proofs.Members.{Contains-cons_cases, Contains-here}

module _ (p : List ℕ → Bool) where
  -- the members that pass a test
  member_step : (b : Bool) (x : List ℕ) (xs kept : List (List ℕ)) (name : List ℕ) → p x ≡ b
      → (Contains kept name ↔ (Contains xs name × (p name ≡ true)))
      → Contains (cond b (x ∷ kept) kept) name ↔ (Contains (x ∷ xs) name × (p name ≡ true))
  member_step true x xs kept name passes rest = (
    λ there. ⊎_elim
        (λ here. (Contains-here x xs name here, ap p here ∙ passes))
        (λ later. (contains_later x xs name ((rest.0 later).0), (rest.0 later).1))
        (Contains-cons_cases x kept name there),
    λ both. ⊎_elim (λ here. Contains-here x kept name here)
        (λ later. contains_later x kept name (rest.1 (later, both.1)))
        (Contains-cons_cases x xs name both.0),
  )
  member_step false x xs kept name fails rest = (
    λ there. (contains_later x xs name ((rest.0 there).0), (rest.0 there).1),
    λ both. ⊎_elim (λ here. absurd (true≢false (sym both.1 ∙ ap p here ∙ fails)))
        (λ later. rest.1 (later, both.1)) (Contains-cons_cases x xs name both.0),
  )

  pub Contains-filter : (xs : List (List ℕ)) (name : List ℕ)
      → Contains (filter p xs) name ↔ (Contains xs name × (p name ≡ true))
  Contains-filter [] name =
      (λ there. absurd (none_contained name there), λ both. absurd (none_contained name both.0))
  Contains-filter (x ∷ xs) name =
      member_step (p x) x xs (filter p xs) name refl (Contains-filter xs name)

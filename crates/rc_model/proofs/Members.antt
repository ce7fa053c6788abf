-- Members of lists: head by head, and by their places.
use Rattle.std.proofs.Common.{◌≡◌, ◌∙◌, ◌<◌, ◌⊎◌, inl, inr, ℕ, zero, suc, List, [], ◌∷◌, length}
use Rattle.std.proofs.Common.{slice_get, slice_index_or, Some, Contains, refl, ap, arith, get_or}
use Rattle.std.proofs.Common.{sym, subst}
use Rattle.std.proofs.lemmas.Option.{slice_get-get_or, slice_get_within, get_or_from_slice_get}

module _ {X : Type 0} where
  -- a list that begins with an element contains it, and what the rest contains, and nothing else
  pub contains_first : (x : X) (xs : List X) → Contains (x ∷ xs) x
  contains_first x xs = (0, omega arith, refl)

  pub contains_later : (x : X) (xs : List X) (y : X) → Contains xs y → Contains (x ∷ xs) y
  contains_later x xs y (k, within, here) = (suc k, omega arith, here)

  pub contains_cases : (x : X) (xs : List X) (y : X) → Contains (x ∷ xs) y → (x ≡ y) ⊎ Contains xs y
  contains_cases x xs y (zero, within, here) = inl here
  contains_cases x xs y (suc k, within, here) = inr (k, omega arith, here)

  pub none_contained : (y : X) → Contains [] y → ⊥
  none_contained y (k, within, here) = omega arith

  -- a list of one element contains no other
  pub only : (x y : X) → Contains (x ∷ []) y → y ≡ x
  only x y (k, within, here) =
      let first : k ≡ 0 = omega arith in
      sym (subst (λ n. get_or (x ∷ []) n y ≡ y) first here)

  -- what a list contains stands at a place of it, and the other way round
  pub place_of : (xs : List X) (x : X) → Contains xs x → (k : ℕ) × (slice_get xs k ≡ Some x)
  place_of xs x (k, within, here) = (k, slice_get-get_or xs k x within ∙ ap Some here)

  pub contains_at : (xs : List X) (k : ℕ) (x : X) → slice_get xs k ≡ Some x → Contains xs x
  contains_at xs k x at = (k, slice_get_within xs k x at, get_or_from_slice_get xs k x x at)

  -- what stands at a place
  pub at_place : (xs : List X) (k : ℕ) (x d : X) → slice_get xs k ≡ Some x
      → (k < length xs) × (slice_index_or xs k d ≡ x)
  at_place xs k x d at = (slice_get_within xs k x at, get_or_from_slice_get xs k x d at)

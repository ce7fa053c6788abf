-- Lists by their places.
use Rattle.std.proofs.Common.{◌≡◌, ◌∙◌, ◌+◌, ◌<◌, ℕ, suc, List, [], ◌∷◌, ◌++◌, length, take, map}
use Rattle.std.proofs.Common.{get_or, slice_get, Contains, All, Some, unwrap_or, ⊎_elim, sym, ap}
use Rattle.std.proofs.Common.{arith}
use Rattle.std.proofs.Math.Seq.{take-suc}
use Rattle.std.proofs.lemmas.List.{same_lists, get_or-map, length-map}
use Rattle.std.proofs.lemmas.Option.{slice_get_cases, slice_get-get_or, slice_get_within}
use Rattle.std.proofs.lemmas.Option.{get_or_from_slice_get, unwrap_or-slice_get}
pub use Rattle.rc_model.proofs.Members.{contains_at, place_of}
use Rattle.rc_model.specs.Names.{IsAscending}

module _ {X : Type 0} where
  -- lists with the same elements at the same places are one
  pub same_by_places : (xs ys : List X) → length xs ≡ length ys
      → ((k : ℕ) → k < length xs → slice_get xs k ≡ slice_get ys k) → xs ≡ ys
  same_by_places xs ys long same = same_lists xs ys long (λ k d within.
      sym (unwrap_or-slice_get xs k d) ∙ ap (λ o. unwrap_or o d) (same k within)
      ∙ unwrap_or-slice_get ys k d)

  -- one more element
  pub take_next : (xs : List X) (i : ℕ) (x : X) → slice_get xs i ≡ Some x
      → take (i + 1) xs ≡ take i xs ++ x ∷ []
  take_next xs i x there =
      let next : i + 1 ≡ suc i = omega arith in
      ap (λ n. take n xs) next ∙ take-suc xs i x (slice_get_within xs i x there)
      ∙ ap (λ y. take i xs ++ y ∷ []) (get_or_from_slice_get xs i x x there)

  -- what a map of a list contains comes from some place
  pub mapped_place : {Y : Type 0} (f : X → Y) (xs : List X) (y : Y) → Contains (map f xs) y
      → (k : ℕ) × (x : X) × (slice_get xs k ≡ Some x) × (f x ≡ y)
  mapped_place f xs y (k, within, here) =
      ⊎_elim
      (λ at. (k, at.0, at.2, sym (get_or-map f xs k at.0 y at.1 ∙ ap f at.3) ∙ here))
      (λ past. absurd (omega (arith, length-map xs f)))
      (slice_get_cases xs k).1

  -- what holds of each place holds of all
  pub all_places : (P : X → Type 0) (xs : List X)
      → ((k : ℕ) (x : X) → slice_get xs k ≡ Some x → P x) → All P xs
  all_places P xs each k d within = each k (get_or xs k d) (slice_get-get_or xs k d within)

-- ascending ids after the first ascend
pub rest_ascends : (x : ℕ) (xs : List ℕ) → IsAscending (x ∷ xs) → IsAscending xs
rest_ascends x xs up i j d first within = up (suc i) (suc j) d (omega arith) (omega arith)

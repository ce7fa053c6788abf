-- Words as texts, and words from a place on.
use Rattle.std.proofs.Common.{◌≡◌, ◌∙◌, ◌<◌, ◌≤◌, ◌+◌, ◌-◌, ℕ, List, [], ◌∷◌, ◌++◌, length, map}
use Rattle.std.proofs.Common.{take, drop, get_or, All, ap, sym, subst}
use Rattle.std.proofs.lemmas.List.{take_more, take_rest, take_all, get_or-map, length-map, drop-map}

module _ {X Y : Type 0} (f : X → Y) (xs : List X) (i : ℕ) where
  module _ (d : X) (within : i < length xs) where
    inside : i < length (map f xs)
    inside = subst (λ (n : ℕ). i < n) (sym (length-map xs f)) within

    -- what holds of each image holds of the one at a place
    pub image_at : (P : Y → Type 0) → All P (map f xs) → P (f (get_or xs i d))
    image_at P all = subst P (get_or-map f xs i d (f d) within) (all i (f d) inside)

    -- the images up to one, and that one
    pub images_more : take (i + 1) (map f xs) ≡ take i (map f xs) ++ f (get_or xs i d) ∷ []
    images_more =
        take_more (map f xs) i (f d) inside
        ∙ ap (λ y. take i (map f xs) ++ y ∷ []) (get_or-map f xs i d (f d) within)

  -- all images
  pub images_all : length xs ≤ i → take i (map f xs) ≡ map f xs
  images_all past = take_all i (map f xs) (subst (λ (n : ℕ). n ≤ i) (sym (length-map xs f)) past)

  -- the images from a place on
  pub images_from : map f (take (length xs - i) (drop i xs)) ≡ drop i (map f xs)
  images_from = ap (map f) (take_rest xs i) ∙ sym (drop-map f i xs)

-- Two lists side by side.
use Rattle.std.proofs.Common.{◌≡◌, ◌∙◌, ◌<◌, ◌+◌, ℕ, zero, suc, List, [], ◌∷◌, ◌++◌, length, take}
use Rattle.std.proofs.Common.{get_or, arith, refl, sym, ap, subst}
use Rattle.std.proofs.lemmas.List.{take_more}
use Rattle.std.specs.List.{AllZip}

module _ {A B : Type 0} (R : A → B → Type 0) where
  pub zip_length : (xs : List A) (ys : List B) → AllZip R xs ys → length xs ≡ length ys
  zip_length [] [] each = refl
  zip_length [] (y ∷ ys) each = absurd each
  zip_length (x ∷ xs) [] each = absurd each
  zip_length (x ∷ xs) (y ∷ ys) each =
      let rest : length xs ≡ length ys = zip_length xs ys each.1 in omega arith

  pub zip_at : (xs : List A) (ys : List B) (k : ℕ) (d : A) (e : B) → AllZip R xs ys → k < length xs
      → R (get_or xs k d) (get_or ys k e)
  zip_at [] ys k d e each within = absurd (omega arith)
  zip_at (x ∷ xs) [] k d e each within = absurd each
  zip_at (x ∷ xs) (y ∷ ys) zero d e each within = each.0
  zip_at (x ∷ xs) (y ∷ ys) (suc k) d e each within = zip_at xs ys k d e each.1 (omega arith)

  zip_push : (xs : List A) (ys : List B) (x : A) (y : B) → AllZip R xs ys → R x y
      → AllZip R (xs ++ x ∷ []) (ys ++ y ∷ [])
  zip_push [] [] x y each is = (is, tt)
  zip_push [] (b ∷ ys) x y each is = absurd each
  zip_push (a ∷ xs) [] x y each is = absurd each
  zip_push (a ∷ xs) (b ∷ ys) x y each is = (each.0, zip_push xs ys x y each.1 is)

  pub zip_more : (xs : List A) (ys : List B) (k : ℕ) (x : A) (y : B) → k < length xs
      → x ≡ get_or xs k x → AllZip R (take k xs) ys → R x y
      → AllZip R (take (k + 1) xs) (ys ++ y ∷ [])
  zip_more xs ys k x y within here each is =
      subst (λ (front : List A). AllZip R front (ys ++ y ∷ []))
      (sym (take_more xs k x within ∙ ap (λ (a : A). take k xs ++ a ∷ []) (sym here)))
      (zip_push (take k xs) ys x y each is)

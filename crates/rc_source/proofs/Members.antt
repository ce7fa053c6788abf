-- Membership in lists, head by head, and lists in byte order.
use Rattle.std.proofs.Common.{◌≡◌, ℕ, ◌+◌, ◌<◌, ◌⊎◌, ◌↔◌, ⊎_elim, inl, inr, true, false, List, []}
use Rattle.std.proofs.Common.{◌∷◌, ◌++◌, length, get_or, take, Contains, arith, append_assoc, refl}
use Rattle.std.proofs.Common.{sym, ap, subst, ◌∙◌}
use Rattle.std.proofs.lemmas.List.Elements.{Contains-append_cases, Contains-append_left}
use Rattle.std.proofs.lemmas.List.Elements.{Contains-append_right, Contains-get_or}
use Rattle.std.proofs.lemmas.List.{take_more}
use Rattle.rc_names.specs.Names.{Adds}
use Rattle.std.specs.Cmp.Lexicographic.{slice_cmp, texts_ties}
use Rattle.std.specs.Ordering.{nat_cmp, is_eq}
use Rattle.std.specs.Str.{bytes_eq}
use Rattle.std.specs.declared.cmp.Ordering.{Ordering}
use Rattle.std.proofs.lemmas.Slice.Eq.{bytes_eq-Decides}
use Rattle.rc_model.proofs.ByteOrder.{same_names}
use Rattle.rc_model.proofs.Members.{only}
use Rattle.rc_source.specs.Meaning.{ListsNames}

module _ {X : Type 0} where
  pub Contains-cons_cases : (y : X) (ys : List X) (x : X) → Contains (y ∷ ys) x
      → (x ≡ y) ⊎ Contains ys x
  Contains-cons_cases y ys x there =
      ⊎_elim (λ at. inl (only y x at)) (λ rest. inr rest)
      (Contains-append_cases (y ∷ []) ys x there)

  pub Contains-here : (y : X) (ys : List X) (x : X) → x ≡ y → Contains (y ∷ ys) x
  Contains-here y ys x same =
      subst (Contains (y ∷ ys)) (sym same) (Contains-get_or (y ∷ ys) 0 y (omega arith))

-- texts of which one stands before the other differ
pub differs : (a b : List ℕ) (o : Ordering) → slice_cmp nat_cmp a b ≡ o → is_eq o ≡ false
    → bytes_eq a b ≡ false
differs a b o here not_equal = texts_ties a b ∙ ap is_eq here ∙ not_equal

-- a text compares equal to itself
pub bytes_eq-refl : (a : List ℕ) → bytes_eq a a ≡ true
bytes_eq-refl a = (bytes_eq-Decides a a).1 refl

-- one more name goes in
pub adds_more : (old mid new : List (List ℕ)) (name : List ℕ) (names : List (List ℕ)) (i : ℕ)
    (d : List ℕ) → i < length names → name ≡ get_or names i d
    → ((text : List ℕ) → Contains mid text ↔ (Contains old text ⊎ Contains (take i names) text))
    → Adds mid name new
    → (text : List ℕ) → Contains new text ↔ (Contains old text ⊎ Contains (take (i + 1) names) text)
adds_more old mid new name names i d within here before adds text =
    let e = take_more names i d within in
    let x = get_or names i d in (
      λ there. ⊎_elim
          (λ earlier. ⊎_elim (λ at. inl at)
          (λ at. inr (subst (λ l. Contains l text) (sym e)
          (Contains-append_left (take i names) (x ∷ []) text at))) ((before text).0 earlier))
          (λ same. inr
          (subst (λ l. Contains l text) (sym e)
          (Contains-append_right (take i names) (x ∷ []) text
          (Contains-here x [] text (same ∙ here)))))
          ((adds text).0 there),
      λ either. ⊎_elim
          (λ at. (adds text).1 (inl ((before text).1 (inl at))))
          (λ at. ⊎_elim (λ earlier. (adds text).1 (inl ((before text).1 (inr earlier))))
          (λ last. (adds text).1 (inr (only x text last ∙ sym here)))
          (Contains-append_cases (take i names) (x ∷ []) text (subst (λ l. Contains l text) e at)))
          either,
    )

-- the first of what is left goes to the end of what is done
pub moved_on : {X : Type 0} (old new left rest all : List X) (x : X) → new ≡ old ++ x ∷ []
    → left ≡ x ∷ rest → old ++ left ≡ all → new ++ rest ≡ all
moved_on old new left rest all x pushed first whole =
    ap (λ l. l ++ rest) pushed ∙ append_assoc old (x ∷ []) rest ∙ ap (λ l. old ++ l) (sym first)
    ∙ whole

-- names that are listed are one list
pub listed_once : (P : List ℕ → Type 0) (xs ys : List (List ℕ)) → ListsNames P xs
    → ListsNames P ys → xs ≡ ys
listed_once P xs ys x y =
    same_names xs ys x.order y.order
    (λ name. (
      λ there. (y.same name).1 ((x.same name).0 there),
      λ there. (x.same name).1 ((y.same name).0 there),
    ))

-- Names in byte order: no name stands before itself, each stands at one place, and lists of the
-- same names are one.
use Rattle.std.proofs.Common.{◌≡◌, ◌≢◌, ◌∙◌, ◌<◌, ◌↔◌, ◌⊎◌, inl, inr, ℕ, suc, false, List, [], ◌∷◌}
use Rattle.std.proofs.Common.{get_or, slice_get, Some, All, Contains, refl, sym, ap, subst}
use Rattle.std.proofs.Common.{arith, true≢false}
use Rattle.std.proofs.lemmas.Bool.{cases_lt, cases_Bool}
use Rattle.std.proofs.lemmas.Cmp.{nat_list_cmp_total}
use Rattle.std.proofs.lemmas.Map.Text.{is_eq-slice_cmp}
use Rattle.std.proofs.lemmas.Option.{slice_get_within, get_or_from_slice_get}
use Rattle.std.proofs.lemmas.Slice.Eq.{bytes_eq-Decides}
use Rattle.std.specs.Cmp.Lexicographic.{slice_cmp}
use Rattle.std.specs.Ordering.{nat_cmp, is_eq, ordering_reverse}
use Rattle.std.specs.Str.{bytes_eq}
use Rattle.std.specs.declared.cmp.Ordering.TheVariants.{Less, Equal, Greater}
use Rattle.rc_model.proofs.Members.{contains_first, contains_later, contains_cases, none_contained}
use Rattle.rc_model.specs.Names.{IsBefore, IsInByteOrder}

-- two names are one or not
pub same_or_other : (a b : List ℕ) → (a ≡ b) ⊎ (a ≢ b)
same_or_other a b = elim (cases_Bool (bytes_eq a b)) [
  | inl same ↦ inl ((bytes_eq-Decides a b).0 same)
  | inr differ ↦ inr (λ same. true≢false (sym ((bytes_eq-Decides a b).1 same) ∙ differ))
]

-- a name is among others or not
pub listed_or_not : (names : List (List ℕ)) (name : List ℕ)
    → Contains names name ⊎ (Contains names name → ⊥)
listed_or_not [] name = inr (none_contained name)
listed_or_not (x ∷ names) name = elim (same_or_other x name) [
  | inl same ↦ inl (subst (Contains (x ∷ names)) same (contains_first x names))
  | inr differs ↦ elim (listed_or_not names name) [
    | inl later ↦ inl (contains_later x names name later)
    | inr none ↦
        inr (λ there. elim (contains_cases x names name there) [
          | inl same ↦ differs same
          | inr later ↦ none later
        ])
  ]
]

-- names that compare equal are one
pub same_text : (a b : List ℕ) → slice_cmp nat_cmp a b ≡ Equal → a ≡ b
same_text a b equal = (bytes_eq-Decides a b).0 (sym (is_eq-slice_cmp a b) ∙ ap is_eq equal)

-- a name before another is another
pub apart : (a b : List ℕ) → IsBefore a b → bytes_eq a b ≡ false
apart a b before = sym (is_eq-slice_cmp a b) ∙ ap is_eq before

-- of two names not both stand before the other
pub not_both : (a b : List ℕ) → IsBefore a b → IsBefore b a → ⊥
not_both a b up down =
    let bad : Less ≡ Greater =
    sym up ∙ nat_list_cmp_total.antisymm a b ∙ ap ordering_reverse down in cc

pub not_before_itself : (a : List ℕ) → IsBefore a a → ⊥
not_before_itself a before = not_both a a before before

module _ (name : List ℕ) (names : List (List ℕ)) (order : IsInByteOrder (name ∷ names)) where
  -- the names after the first are in order, and it stands before each
  pub order_tail : IsInByteOrder names
  order_tail i j d low within = order (suc i) (suc j) d (omega arith) (omega arith)

  pub order_head : All (IsBefore name) names
  order_head k d within = order 0 (suc k) d (omega arith) (omega arith)

  pub head_before : (other : List ℕ) → Contains names other → IsBefore name other
  head_before other (k, within, here) = subst (IsBefore name) here (order_head k other within)

-- of two places the lower has the earlier name
pub before_at : (names : List (List ℕ)) (i j : ℕ) (a b : List ℕ) → IsInByteOrder names
    → slice_get names i ≡ Some a → slice_get names j ≡ Some b → i < j → IsBefore a b
before_at names i j a b order at_i at_j low =
    subst (λ (x : List ℕ). IsBefore x b) (get_or_from_slice_get names i a b at_i)
    (subst (IsBefore (get_or names i b)) (get_or_from_slice_get names j b b at_j)
    (order i j b low (slice_get_within names j b at_j)))

-- a name stands at one place
pub one_place : (names : List (List ℕ)) (name : List ℕ) (i j : ℕ) → IsInByteOrder names
    → slice_get names i ≡ Some name → slice_get names j ≡ Some name → i ≡ j
one_place names name i j order at_i at_j = elim (cases_lt i j) [
  | inl low ↦ absurd (not_before_itself name (before_at names i j name name order at_i at_j low))
  | inr high ↦ elim (cases_lt j i) [
    | inl low ↦ absurd (not_before_itself name (before_at names j i name name order at_j at_i low))
    | inr same ↦ omega (arith, high, same)
  ]
]

-- the first names of lists in order with the same members
same_first : (x y : List ℕ) (xs ys : List (List ℕ)) → IsInByteOrder (x ∷ xs)
    → IsInByteOrder (y ∷ ys) → Contains (y ∷ ys) x → Contains (x ∷ xs) y → x ≡ y
same_first x y xs ys order_x order_y x_there y_there = elim (contains_cases y ys x x_there) [
  | inl same ↦ sym same
  | inr x_later ↦ elim (contains_cases x xs y y_there) [
    | inl same ↦ same
    | inr y_later ↦
        absurd (not_both x y (head_before x xs order_x y y_later)
        (head_before y ys order_y x x_later))
  ]
]

-- what stands after the first of one list stands after that of the other
tail_member : (x y : List ℕ) (xs ys : List (List ℕ)) → IsInByteOrder (x ∷ xs) → x ≡ y
    → ((name : List ℕ) → Contains (x ∷ xs) name → Contains (y ∷ ys) name)
    → (name : List ℕ) → Contains xs name → Contains ys name
tail_member x y xs ys order first within name there =
    elim (contains_cases y ys name (within name (contains_later x xs name there))) [
      | inl same ↦
          absurd (not_before_itself name
          (subst (λ (a : List ℕ). IsBefore a name) (first ∙ same)
          (head_before x xs order name there)))
      | inr later ↦ later
    ]

-- lists in order of the same names are one
pub same_names : (xs ys : List (List ℕ)) → IsInByteOrder xs → IsInByteOrder ys
    → ((name : List ℕ) → Contains xs name ↔ Contains ys name) → xs ≡ ys
same_names [] [] order_x order_y same = refl
same_names [] (y ∷ ys) order_x order_y same =
    absurd (none_contained y ((same y).1 (contains_first y ys)))
same_names (x ∷ xs) [] order_x order_y same =
    absurd (none_contained x ((same x).0 (contains_first x xs)))
same_names (x ∷ xs) (y ∷ ys) order_x order_y same =
    let first : x ≡ y = same_first x y xs ys order_x order_y ((same x).0 (contains_first x xs))
    ((same y).1 (contains_first y ys)) in
    let rest : xs ≡ ys = same_names xs ys (order_tail x xs order_x) (order_tail y ys order_y)
    (λ name. (
      tail_member x y xs ys order_x first (λ n. (same n).0) name,
      tail_member y x ys xs order_y (sym first) (λ n. (same n).1) name,
    )) in
    cc

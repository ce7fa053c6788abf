-- The least of names, place by place.
use Rattle.std.proofs.Common.{◌≡◌, ◌∙◌, ◌+◌, ◌<◌, ◌≤◌, ⊎_elim, ℕ, Bool, List, length, slice_get}
use Rattle.std.proofs.Common.{Contains, Some, true, sym, ap, subst, arith}
use Rattle.std.proofs.lemmas.Bool.{cases_lt}
use Rattle.std.proofs.lemmas.Cmp.{nat_list_cmp_total}
use Rattle.std.proofs.lemmas.Option.{slice_get_within}
use Rattle.std.specs.Cmp.Lexicographic.{slice_cmp}
use Rattle.std.specs.Ordering.{nat_cmp, is_lt}
use Rattle.rc_model.specs.Names.{IsBefore}
use Rattle.rc_model.proofs.ByteOrder.{not_before_itself}
use Rattle.rc_db.proofs.Listing.{less_from}
use Rattle.rc_model.proofs.Places.{contains_at, place_of}
use Rattle.rc_compile.specs.Along.{IsLeast}

-- none of the first so many names stands before the one at a place
pub record IsLowest (names : List (List ℕ)) (count least : ℕ) : Type 0 where
  pub within : least < length names
  pub lowest : (j : ℕ) (a b : List ℕ) → j < count → slice_get names j ≡ Some a
      → slice_get names least ≡ Some b → IsBefore a b → ⊥

pub first_lowest : (names : List (List ℕ)) → 0 < length names → IsLowest names 1 0
first_lowest names some = record {
  within = some;
  lowest = λ j a b low at_a at_b before.
      let first : j ≡ 0 = omega arith in
      let there : slice_get names 0 ≡ Some a = subst (λ n. slice_get names n ≡ Some a) first at_a in
      let same : a ≡ b = cc in
      not_before_itself b (subst (λ x. IsBefore x b) same before);
}

module _ (names : List (List ℕ)) (place least : ℕ) (x y : List ℕ)
    (lowest : IsLowest names place least) (at_x : slice_get names place ≡ Some x)
    (at_y : slice_get names least ≡ Some y) where
  -- the next name is before the least so far
  pub lower : IsBefore x y → IsLowest names (place + 1) place
  lower less = record {
    within = slice_get_within names place x at_x;
    lowest = λ j a b low at_a at_b before.
        let here : b ≡ x = cc in
        let under : IsBefore a x = subst (IsBefore a) here before in
        ⊎_elim
        (λ (passed : j < place). lowest.lowest j a y passed at_a at_y
        (nat_list_cmp_total.trans a x y under less))
        (λ high.
        let same : j ≡ place = omega arith in
        let there : slice_get names place ≡ Some a =
        subst (λ n. slice_get names n ≡ Some a) same at_a in
        let one : a ≡ x = cc in
        not_before_itself x (subst (λ n. IsBefore n x) one under))
        (cases_lt j place);
  }

  -- it is not
  pub not_lower : (IsBefore x y → ⊥) → IsLowest names (place + 1) least
  not_lower not_less = record {
    within = lowest.within;
    lowest = λ j a b low at_a at_b before.
        ⊎_elim
        (λ (passed : j < place). lowest.lowest j a b passed at_a at_b before)
        (λ high.
        let same : j ≡ place = omega arith in
        let there : slice_get names place ≡ Some a =
        subst (λ n. slice_get names n ≡ Some a) same at_a in
        let one : a ≡ x = cc in
        let other : b ≡ y = cc in
        not_less (subst (IsBefore x) other (subst (λ n. IsBefore n b) one before)))
        (cases_lt j place);
  }

-- the least of all
pub lowest_is_least : (names : List (List ℕ)) (count least : ℕ) → length names ≤ count
    → IsLowest names count least → (name : List ℕ) → slice_get names least ≡ Some name
    → IsLeast (Contains names) name
lowest_is_least names count least all lowest name there = (
  contains_at names least name there,
  λ other within before.
      let at = place_of names other within in
      let low : at.0 < length names = slice_get_within names at.0 other at.1 in
      lowest.lowest at.0 other name (omega arith) at.1 there before,
)

-- what a test of texts says
pub test_less : (a b : List ℕ) (answer : Bool) → answer ≡ is_lt (slice_cmp nat_cmp a b)
    → answer ≡ true → IsBefore a b
test_less a b answer is passed = less_from a b (sym is ∙ passed)

pub test_not_less : (a b : List ℕ) (answer : Bool) → answer ≡ is_lt (slice_cmp nat_cmp a b)
    → (answer ≡ true → ⊥) → IsBefore a b → ⊥
test_not_less a b answer is failed before = failed (is ∙ ap is_lt before)

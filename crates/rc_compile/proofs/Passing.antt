-- What holds of each name that a loop has passed.
use Rattle.std.proofs.Common.{◌≡◌, ◌+◌, ◌<◌, ◌≤◌, ⊎_elim, ℕ, Bool, true, false, not, List, length}
use Rattle.std.proofs.Common.{get_or, slice_get, Contains, Some, refl, subst, arith}
use Rattle.std.proofs.lemmas.Bool.{cases_lt}
use Rattle.std.proofs.lemmas.Option.{slice_get_read, slice_get_within}
use Rattle.rc_model.proofs.Places.{place_of}

module _ {X : Type 0} where
  -- what was read stands there
  pub stands : (xs : List X) (i : ℕ) (x : X) → i < length xs → x ≡ get_or xs i x
      → slice_get xs i ≡ Some x
  stands xs i x within is = slice_get_read xs (length xs) i x refl within is

  -- this holds of each of the first so many
  abbrev pub Passed : (X → Type 0) → List X → ℕ → Type 0
  Passed P xs count = (k : ℕ) (x : X) → k < count → slice_get xs k ≡ Some x → P x

  pub passed_next : (P : X → Type 0) (xs : List X) (i : ℕ) (x : X) → slice_get xs i ≡ Some x
      → Passed P xs i → P x → Passed P xs (i + 1)
  passed_next P xs i x here before holds k y low at = ⊎_elim
      (λ (less : k < i). before k y less at)
      (λ high.
      let same : k ≡ i = omega arith in
      let there : slice_get xs i ≡ Some y = subst (λ n. slice_get xs n ≡ Some y) same at in
      let one : x ≡ y = cc in
      subst P one holds)
      (cases_lt k i)

  pub passed_all : (P : X → Type 0) (xs : List X) (i : ℕ) → length xs ≤ i → Passed P xs i → (x : X)
      → Contains xs x → P x
  passed_all P xs i all before x within =
      let at = place_of xs x within in
      let low : at.0 < length xs = slice_get_within xs at.0 x at.1 in
      before at.0 x (omega arith) at.1

-- a test that fails, turned round
pub not_passed : (b : Bool) → (b ≡ true → ⊥) → not b ≡ true
not_passed true fails = absurd (fails refl)
not_passed false fails = refl

pub passed_not : (b : Bool) → not b ≡ true → b ≡ true → ⊥
passed_not true turned passed = let bad : false ≡ true = turned in cc
passed_not false turned passed = let bad : false ≡ true = passed in cc

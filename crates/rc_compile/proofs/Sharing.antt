-- Names that two definitions give to bundles.
use Rattle.std.proofs.Common.{◌≡◌, ◌+◌, ◌<◌, ◌≤◌, ◌⊎◌, ◌↔◌, ⊎_elim, inl, inr, ℕ, Bool, List, length}
use Rattle.std.proofs.Common.{slice_get, Contains, Some, sym, subst, arith}
use Rattle.std.proofs.lemmas.Bool.{cases_lt}
use Rattle.std.proofs.lemmas.Option.{slice_get_within}
use Rattle.rc_model.specs.Names.{IsInByteOrder, Has, Holds}
use Rattle.rc_model.proofs.ByteOrder.{one_place}
use Rattle.rc_model.proofs.Places.{contains_at, place_of}
use Rattle.rc_source.specs.Meaning.{Meaning}
use Rattle.rc_compile.specs.Standing.{IsBundle}
use Rattle.rc_compile.specs.declared.tables.Which.TheVariants.{Bundles}
use Rattle.rc_compile.specs.Given.{Gives}
use Rattle.rc_compile.specs.Book.{GivesAt, HasNamed, IsShared}
use Rattle.rc_compile.proofs.Givens.{IsBelow, one_given, given_is}

pub holds_as : (set : List Bool) (P Q : ℕ → Type 0) → Holds set P
    → ((s : ℕ) → P s ↔ Q s) → Holds set Q
holds_as set P Q holds same s =
    (λ has. (same s).0 ((holds s).0 has), λ q. (holds s).1 ((same s).1 q))

-- the place of the name that an entry gives
pub gives_at : (names : List (List ℕ)) (m : Meaning) (name : List ℕ) (id : ℕ) → IsInByteOrder names
    → Gives Bundles m name → slice_get names id ≡ Some name → (s : ℕ) → GivesAt names m s ↔ (s ≡ id)
gives_at names m name id order gives at s = (
  λ (n, there, also). one_place names name s id order
      (subst (λ x. slice_get names s ≡ Some x) (one_given Bundles m n name also gives) there) at,
  λ same. (name, subst (λ k. slice_get names k ≡ Some name) (sym same) at, gives),
)

pub gives_nowhere : (names : List (List ℕ)) (m : Meaning) (name : List ℕ) → Gives Bundles m name
    → (Contains names name → ⊥) → (s : ℕ) → GivesAt names m s → ⊥
gives_nowhere names m name gives missing s (n, there, also) =
    missing (subst (Contains names) (one_given Bundles m n name also gives)
    (contains_at names s n there))

module _ (ms : List Meaning) (names : List (List ℕ)) where
  -- two of the first so many give the name at a place
  abbrev pub TwiceBelow : ℕ → ℕ → Type 0
  TwiceBelow count s = (j : ℕ) × (b : Meaning) × (j < count) × (slice_get ms j ≡ Some b)
      × IsBelow (λ a. GivesAt names a s) ms j × GivesAt names b s

  pub none_twice : (set : List Bool) → ((s : ℕ) → Has set s → ⊥) → Holds set (TwiceBelow 0)
  none_twice set none s =
      (λ has. absurd (none s has), λ (j, b, low, at, before, gives). absurd (omega (arith, low)))

  pub twice_next : (i : ℕ) (m : Meaning) (seen old new : List Bool) → slice_get ms i ≡ Some m
      → Holds seen (λ s. IsBelow (λ x. GivesAt names x s) ms i) → Holds old (TwiceBelow i)
      → Holds new (λ s. Has old s ⊎ (Has seen s × GivesAt names m s))
      → Holds new (TwiceBelow (i + 1))
  twice_next i m seen old new here saw before more s = (
    λ has. ⊎_elim
        (λ passed. let (j, b, low, at, earlier, gives) = (before s).0 passed in
        (j, b, omega (arith, low), at, earlier, gives))
        (λ (had, gives). (i, m, omega arith, here, (saw s).0 had, gives))
        ((more s).0 has),
    λ (j, b, low, at, earlier, gives). (more s).1 (⊎_elim
        (λ (less : j < i). inl ((before s).1 (j, b, less, at, earlier, gives)))
        (λ high.
        let same : j ≡ i = omega (arith, low, high) in
        let there : slice_get ms i ≡ Some b = subst (λ n. slice_get ms n ≡ Some b) same at in
        let one : b ≡ m = cc (there, here) in
        inr (
          (saw s).1 (subst (IsBelow (λ x. GivesAt names x s) ms) same earlier),
          subst (λ x. GivesAt names x s) one gives,
        ))
        (cases_lt j i)),
  )

  pub twice_whole : (i : ℕ) (set : List Bool) → length ms ≤ i
      → ((name : List ℕ) → IsBundle ms name → Contains names name) → Holds set (TwiceBelow i)
      → (name : List ℕ) → HasNamed names set name ↔ IsShared ms name
  twice_whole i set all table twice name = (
    λ (s, at, has).
        let (j, b, low, at_b, (k, a, low_k, at_a, (n1, there1, gives_a)), (n2, there2, gives_b)) =
        (twice s).0 has in
        let one : n1 ≡ name = cc (there1, at) in
        let two : n2 ≡ name = cc (there2, at) in (
          k,
          j,
          a,
          b,
          low_k,
          at_a,
          at_b,
          subst (Gives Bundles a) one gives_a,
          subst (Gives Bundles b) two gives_b,
        ),
    λ (k, j, a, b, low, at_a, at_b, gives_a, gives_b).
        let place =
        place_of names name
        (table name ((given_is Bundles ms name).0 (a, contains_at ms k a at_a, gives_a))) in
        let within : j < length ms = slice_get_within ms j b at_b in (
          place.0,
          place.1,
          (twice place.0).1 (
            j,
            b,
            omega arith,
            at_b,
            (k, a, low, at_a, (name, place.1, gives_a)),
            (name, place.1, gives_b),
          ),
        ),
  )

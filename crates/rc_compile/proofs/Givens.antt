-- Names that definitions give, definition by definition.
use Rattle.std.proofs.Common.{◌≡◌, ◌≢◌, ◌∙◌, ◌+◌, ◌<◌, ◌≤◌, ◌⊎◌, ◌↔◌, ⊎_elim, inl, inr, ℕ, zero}
use Rattle.std.proofs.Common.{suc, List, ◌∷◌, length, get_or, slice_get, Contains, All, AllPairs}
use Rattle.std.proofs.Common.{Some, true, sym, subst, arith}
use Rattle.std.proofs.lemmas.Bool.{cases_lt}
use Rattle.std.proofs.lemmas.Cmp.{nat_list_eq_equiv}
use Rattle.std.proofs.lemmas.List.Elements.{Contains-get_or}
use Rattle.std.proofs.lemmas.Map.Made.{IsDistinct-from_AllPairs, length-le_from_is_member}
use Rattle.std.proofs.lemmas.Map.Made.{is_member-Decides}
use Rattle.std.proofs.lemmas.Option.{slice_get_within}
use Rattle.std.proofs.lemmas.Slice.Eq.{bytes_eq-Decides}
use Rattle.std.specs.Str.{bytes_eq}
use Rattle.std.specs.Cmp.{IsEquivalence}
use Rattle.std.specs.Set.{is_member}
use Rattle.rc_names.specs.Names.{Adds}
use Rattle.rc_model.specs.Names.{AreNames, IsBefore}
use Rattle.rc_model.specs.declared.Kind.TheVariants.{Longrun, Bundle}
use Rattle.rc_model.proofs.ByteOrder.{not_before_itself}
use Rattle.rc_model.proofs.Places.{contains_at, place_of}
use Rattle.rc_source.specs.Meaning.{Meaning}
use Rattle.rc_compile.specs.declared.tables.Which.{Which}
use Rattle.rc_compile.specs.declared.tables.Which.TheVariants.{Services, Bundles}
use Rattle.rc_compile.specs.CompileFaults.{AreTooMany}
use Rattle.rc_compile.specs.Given.{Gives, IsNameOf, IsFull}

-- an entry among the first so many of which this holds
abbrev pub IsBelow : (Meaning → Type 0) → List Meaning → ℕ → Type 0
IsBelow P ms count = (k : ℕ) × (m : Meaning) × (k < count) × (slice_get ms k ≡ Some m) × P m

module _ (P : Meaning → Type 0) (ms : List Meaning) where
  pub below_next : (i : ℕ) (m : Meaning) → slice_get ms i ≡ Some m → IsBelow P ms (i + 1)
      → IsBelow P ms i ⊎ P m
  below_next i m here (k, x, low, at, holds) = ⊎_elim
      (λ (less : k < i). inl (k, x, less, at, holds))
      (λ high.
      let same : k ≡ i = omega arith in
      let there : slice_get ms i ≡ Some x = subst (λ n. slice_get ms n ≡ Some x) same at in
      let e : x ≡ m = cc in
      inr (subst P e holds))
      (cases_lt k i)

  pub below_more : (i : ℕ) → IsBelow P ms i → IsBelow P ms (i + 1)
  below_more i (k, x, low, at, holds) = (k, x, omega arith, at, holds)

  pub below_here : (i : ℕ) (m : Meaning) → slice_get ms i ≡ Some m → P m → IsBelow P ms (i + 1)
  below_here i m here holds = (i, m, omega arith, here, holds)

  pub below_all : (i : ℕ) → IsBelow P ms i → (m : Meaning) × Contains ms m × P m
  below_all i (k, m, low, at, holds) = (m, contains_at ms k m at, holds)

  pub all_below : (m : Meaning) → Contains ms m → P m → IsBelow P ms (length ms)
  all_below m there holds =
      let at = place_of ms m there in (at.0, m, slice_get_within ms at.0 m at.1, at.1, holds)

-- what a loop over entries has seen: of each thing, whether this holds of it for some of the first
-- so many
module _ {X : Type 0} (P : Meaning → X → Type 0) (ms : List Meaning) where
  abbrev pub SeenBelow : (X → Type 0) → ℕ → Type 0
  SeenBelow Seen count = (x : X) → Seen x ↔ IsBelow (λ m. P m x) ms count

  pub seen_none : (Seen : X → Type 0) → ((x : X) → Seen x → ⊥) → SeenBelow Seen 0
  seen_none Seen none x =
      (λ seen. absurd (none x seen), λ (k, m, low, at, holds). absurd (omega (arith, low)))

  pub seen_next : (Old New : X → Type 0) (i : ℕ) (m : Meaning) → slice_get ms i ≡ Some m
      → SeenBelow Old i → ((x : X) → New x ↔ (Old x ⊎ P m x)) → SeenBelow New (i + 1)
  seen_next Old New i m here before more x =
      let Q : Meaning → Type 0 = λ y. P y x in (
        λ new. ⊎_elim (λ old. below_more Q ms i ((before x).0 old))
            (λ now. below_here Q ms i m here now) ((more x).0 new),
        λ below. (more x).1
            (⊎_elim (λ passed. inl ((before x).1 passed)) (λ now. inr now)
            (below_next Q ms i m here below)),
      )

  pub seen_whole : (Seen : X → Type 0) (i : ℕ) → length ms ≤ i → SeenBelow Seen i → (x : X)
      → Seen x ↔ ((m : Meaning) × Contains ms m × P m x)
  seen_whole Seen i all before x =
      let Q : Meaning → Type 0 = λ y. P y x in (
        λ seen. below_all Q ms i ((before x).0 seen),
        λ (m, there, holds).
            let below = all_below Q ms m there holds in
            let low : below.0 < length ms = below.2 in
            (before x).1 (below.0, below.1, omega arith, below.3, below.4),
      )

texts_equal : IsEquivalence bytes_eq
texts_equal = nat_list_eq_equiv

module _ (P : List ℕ → Type 0) (names : List (List ℕ)) (are : AreNames names) where
  -- a full table and one name that is not in it are too many
  pub full_is_many : (name : List ℕ) → ((n : List ℕ) → Contains names n → P n) → P name
      → (Contains names name → ⊥) → 4096 ≤ length names → AreTooMany P
  full_is_many name each here new full = (name ∷ names, distinct, all, omega arith)
    where
      distinct : AllPairs (λ a b. a ≢ b) (name ∷ names)
      distinct zero zero d low within = absurd (omega arith)
      distinct zero (suc j) d low within =
          λ same. new (subst (Contains names) (sym same) (Contains-get_or names j d (omega arith)))
      distinct (suc i) zero d low within = absurd (omega arith)
      distinct (suc i) (suc j) d low within = λ same.
          not_before_itself (get_or names j d)
          (subst (λ n. IsBefore n (get_or names j d)) same
          (are.order i j d (omega arith) (omega arith)))

      all : All P (name ∷ names)
      all zero d within = here
      all (suc k) d within = each (get_or names k d) (Contains-get_or names k d (omega arith))

  -- a table that has all of them is not too many
  pub few_in_table : ((n : List ℕ) → P n → Contains names n) → AreTooMany P → ⊥
  few_in_table all (many, distinct, each, above) =
      let short : length many ≤ length names = length-le_from_is_member texts_equal many names
      (IsDistinct-from_AllPairs bytes_eq-Decides many distinct) inside in
      let few : length names ≤ 4096 = are.few in
      omega arith
    where
      inside : (q : List ℕ) → is_member bytes_eq many q ≡ true → is_member bytes_eq names q ≡ true
      inside q there = let at = (is_member-Decides bytes_eq-Decides many q).0 there in
          (is_member-Decides bytes_eq-Decides names q).1 (all q (subst P at.2 (each at.0 q at.1)))

-- an entry gives one name
pub one_given : (which : Which) (m : Meaning) (a b : List ℕ) → Gives which m a
    → Gives which m b → a ≡ b
one_given Services m a b (x, ha) (y, hb) = sym ha ∙ hb
one_given Bundles m a b (inl ha) (inl hb) = sym ha.1 ∙ hb.1
one_given Bundles m a b (inl ha) (inr hb) = let bad : Bundle ≡ Longrun = sym ha.0 ∙ hb.longrun in cc
one_given Bundles m a b (inr ha) (inl hb) = let bad : Bundle ≡ Longrun = sym hb.0 ∙ ha.longrun in cc
one_given Bundles m a b (inr ha) (inr hb) =
    let same : Some a ≡ Some b = sym ha.named ∙ hb.named in cc

-- the names that entries give are those of services, or of bundles
pub given_is : (which : Which) (ms : List Meaning) (name : List ℕ)
    → ((m : Meaning) × Contains ms m × Gives which m name) ↔ IsNameOf which ms name
given_is Services ms name = (
  λ (m, there, (kind, named)). (m, there, named, kind),
  λ (m, there, named, kind). (m, there, (kind, named)),
)
given_is Bundles ms name = (
  λ (m, there, gives). ⊎_elim (λ (kind, named). inl (m, there, named, kind))
      (λ names. inr (m, there, names)) gives,
  λ bundle. ⊎_elim (λ (m, there, named, kind). (m, there, inl (kind, named)))
      (λ (m, there, names). (m, there, inr names)) bundle,
)

-- a table of what some entries give is full, and one entry gives another name: they give too many
pub too_many : (which : Which) (ms : List Meaning) (names : List (List ℕ)) (i : ℕ) (m : Meaning)
    → AreNames names → slice_get ms i ≡ Some m
    → ((name : List ℕ) → Contains names name ↔ IsBelow (λ x. Gives which x name) ms i)
    → IsFull names (Gives which m) → AreTooMany (IsNameOf which ms)
too_many which ms names i m are here same (name, given, new, full) =
    full_is_many (IsNameOf which ms) names are name
    (λ n there. (given_is which ms n).0 (below_all (λ x. Gives which x n) ms i ((same n).0 there)))
    ((given_is which ms name).0 (m, contains_at ms i m here, given)) new full

-- the names of a table to which the name goes that an entry gives
pub given_adds : (which : Which) (m : Meaning) (old new : List (List ℕ)) (name : List ℕ)
    → Gives which m name → Adds old name new
    → (n : List ℕ) → Contains new n ↔ (Contains old n ⊎ Gives which m n)
given_adds which m old new name given adds n = (
  λ there. ⊎_elim (λ before. inl before) (λ same. inr (subst (Gives which m) (sym same) given))
      ((adds n).0 there),
  λ cases. (adds n).1
      (⊎_elim (λ before. inl before) (λ gives. inr (one_given which m n name gives given)) cases),
)

-- a table of what all entries give
pub given_whole : (which : Which) (ms : List Meaning) (names : List (List ℕ)) (i : ℕ)
    → length ms ≤ i → SeenBelow (Gives which) ms (Contains names) i → (n : List ℕ)
    → Contains names n ↔ IsNameOf which ms n
given_whole which ms names i all before n =
    let seen = seen_whole (Gives which) ms (Contains names) i all before n in (
      λ there. (given_is which ms n).0 (seen.0 there),
      λ named. seen.1 ((given_is which ms n).1 named),
    )

-- Pairs that go into a draft, list by list.
use Rattle.std.proofs.Common.{◌≡◌, ◌∙◌, ◌+◌, ◌<◌, ◌≤◌, ◌⊎◌, ◌↔◌, ⊎_elim, inl, inr, ℕ, Bool, List}
use Rattle.std.proofs.Common.{[], length, get_or, take, Contains, All, refl, sym, subst, arith}
use Rattle.std.proofs.lemmas.Bool.{cases_lt}
use Rattle.std.proofs.lemmas.List.{take_all, get_or_read, get_or_default}
use Rattle.std.proofs.lemmas.List.Elements.{Contains-get_or}
use Rattle.rc_model.specs.Names.{Has}
use Rattle.rc_model.proofs.SetMembers.{has_within}
use Rattle.rc_compile.proofs.Mentioned.{part_next, part_none}

-- what holds of the pairs of a draft that began as another and has gained these
abbrev pub Gained : (ℕ → ℕ → Type 0) → (ℕ → ℕ → Type 0) → (ℕ → ℕ → Type 0) → Type 0
Gained Old Part New = (s t : ℕ) → New s t ↔ (Old s t ⊎ Part s t)

-- one more gain
pub gained : (Old Mid New Part One More : ℕ → ℕ → Type 0) → Gained Old Part Mid → Gained Mid One New
    → Gained Part One More → Gained Old More New
gained Old Mid New Part One More before now parts s t = (
  λ new. ⊎_elim
      (λ mid. ⊎_elim (λ old. inl old) (λ part. inr ((parts s t).1 (inl part))) ((before s t).0 mid))
      (λ one. inr ((parts s t).1 (inr one))) ((now s t).0 new),
  λ cases. (now s t).1
      (⊎_elim (λ old. inl ((before s t).1 (inl old)))
      (λ more. ⊎_elim (λ part. inl ((before s t).1 (inr part))) (λ one. inr one)
      ((parts s t).0 more)) cases),
)

-- the same gain, said otherwise
pub gained_as : (Old New Part More : ℕ → ℕ → Type 0) → Gained Old Part New
    → ((s t : ℕ) → Part s t ↔ More s t) → Gained Old More New
gained_as Old New Part More before same s t = (
  λ new. ⊎_elim (λ old. inl old) (λ part. inr ((same s t).0 part)) ((before s t).0 new),
  λ cases. (before s t).1 (⊎_elim (λ old. inl old) (λ more. inr ((same s t).1 more)) cases),
)

-- nothing is gained yet
pub nothing_gained : (Old Part : ℕ → ℕ → Type 0) → ((s t : ℕ) → Part s t → ⊥) → Gained Old Part Old
nothing_gained Old Part none s t =
    (λ old. inl old, λ cases. ⊎_elim (λ old. old) (λ part. absurd (none s t part)) cases)

-- pairs of one service with what stands beside an element of a list
abbrev pub Beside : (ℕ → ℕ → Type 0) → ℕ → List ℕ → ℕ → ℕ → Type 0
Beside P service xs s t = (s ≡ service) × ((b : ℕ) × Contains xs b × P b t)

-- one more element of the list
pub one_more : (P : ℕ → ℕ → Type 0) (service : ℕ) (xs : List ℕ) (i x : ℕ) → i < length xs
    → x ≡ get_or xs i 0
    → Gained (Beside P service (take i xs)) (λ s t. (s ≡ service) × P x t)
    (Beside P service (take (i + 1) xs))
one_more P service xs i x within here s t =
    let next = part_next xs i x within (here ∙ get_or_default xs i 0 x within) in (
      λ (same, (b, there, holds)). ⊎_elim (λ before. inl (same, (b, before, holds)))
          (λ at. inr (same, subst (λ n. P n t) at holds)) ((next b).0 there),
      λ cases. ⊎_elim
          (λ (same, (b, before, holds)). (same, (b, (next b).1 (inl before), holds)))
          (λ (same, holds). (same, (x, (next x).1 (inr refl), holds)))
          cases,
    )

-- none of the list was passed, or all of it
pub none_yet : (P : ℕ → ℕ → Type 0) (service : ℕ) (xs : List ℕ) (Old : ℕ → ℕ → Type 0)
    → Gained Old (Beside P service (take 0 xs)) Old
none_yet P service xs Old =
    nothing_gained Old (Beside P service (take 0 xs))
    (λ s t (same, (b, there, holds)). part_none xs b there)

pub all_of : (P : ℕ → ℕ → Type 0) (service : ℕ) (xs : List ℕ) (i : ℕ) → length xs ≤ i → (s t : ℕ)
    → Beside P service (take i xs) s t ↔ Beside P service xs s t
all_of P service xs i past s t =
    let e = take_all i xs past in
    let B : List ℕ → Type 0 = λ l. Beside P service l s t in
    (λ h. subst B e h, λ h. subst B (sym e) h)

-- pairs of the services passed: one more service
pub one_passed : (P : ℕ → ℕ → Type 0) (i : ℕ)
    → Gained (λ s t. (s < i) × P s t) (λ s t. (s ≡ i) × P i t) (λ s t. (s < i + 1) × P s t)
one_passed P i s t = (
  λ (low, holds). ⊎_elim
      (λ (less : s < i). inl (less, holds))
      (λ above. let same : s ≡ i = omega arith in inr (same, subst (λ n. P n t) same holds))
      (cases_lt s i),
  λ cases. ⊎_elim
      (λ (less, holds). (omega arith, holds))
      (λ (same, holds). let back : i ≡ s = sym same in (omega arith, subst (λ n. P n t) back holds))
      cases,
)

-- all services were passed
pub all_passed : (P : ℕ → ℕ → Type 0) (i : ℕ) → ((s t : ℕ) → P s t → s < i) → (s t : ℕ)
    → ((s < i) × P s t) ↔ P s t
all_passed P i within s t = (λ (low, holds). holds, λ holds. (within s t holds, holds))

-- pairs of one service, by what is the same for it
pub for_one : (P Q : ℕ → Type 0) (i : ℕ) → ((t : ℕ) → P t ↔ Q t) → (s t : ℕ)
    → ((s ≡ i) × P t) ↔ ((s ≡ i) × Q t)
for_one P Q i same s t = (λ (at, h). (at, (same t).0 h), λ (at, h). (at, (same t).1 h))

-- the set at a place, by what was read there
pub set_read : (sets : List (List Bool)) (b : ℕ) (set : List Bool) → b < length sets
    → set ≡ get_or sets b set → get_or sets b [] ≡ set
set_read sets b set within is = sym (get_or_read sets b set within is [])

-- members of a set are below its bound
pub listed_below : (set : List Bool) (ids : List ℕ) (bound : ℕ) → length set ≡ bound
    → ((s : ℕ) → Contains ids s ↔ Has set s) → All (λ t. t < bound) ids
listed_below set ids bound long same k d within =
    let has : Has set (get_or ids k d) =
    (same (get_or ids k d)).0 (Contains-get_or ids k d within) in
    let low = has_within set (get_or ids k d) has in omega arith

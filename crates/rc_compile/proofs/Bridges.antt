-- What definitions without flaws in their pipes are.
use Rattle.std.proofs.Common.{◌≡◌, ◌≢◌, ◌⊎◌, inl, inr, ℕ, List, [], ◌∷◌}
use Rattle.std.proofs.Common.{Contains, Option, Some, None, refl, sym, subst}
use Rattle.std.proofs.lemmas.Option.{same_Some}
use Rattle.rc_model.specs.declared.Kind.{Kind}
use Rattle.rc_model.specs.declared.Kind.TheVariants.{Oneshot, Longrun, Bundle}
use Rattle.rc_model.proofs.ByteOrder.{same_or_other, listed_or_not}
use Rattle.rc_model.proofs.Members.{contains_later, none_contained}
use Rattle.rc_source.specs.Meaning.{Meaning, AreMeanings}
use Rattle.rc_source.proofs.Members.{Contains-cons_cases, Contains-here}
use Rattle.rc_compile.specs.Pipelines.{IsDefined, IsLongrun, WritesTo, ReadsFrom}
use Rattle.rc_compile.specs.Sets.{ArePiped, AreApart}
use Rattle.rc_compile.proofs.Meanings.{only_one}
use Rattle.rc_compile.specs.CompileFaults.{HasWrongType, HasNoMatch, HasTakenName}

-- whether the meaning of a name is such
defined_or_not : (P : Meaning → Type 0) → ((m : Meaning) → P m ⊎ (P m → ⊥))
    → (ms : List Meaning) (name : List ℕ) → IsDefined ms P name ⊎ (IsDefined ms P name → ⊥)
defined_or_not P test [] name = inr (λ found. none_contained found.0 found.1)
defined_or_not P test (m ∷ ms) name = elim (defined_or_not P test ms name) [
  | inl found ↦ inl (found.0, contains_later m ms found.0 found.1, found.2, found.3)
  | inr none ↦ elim (same_or_other m.name name) [
    | inr differ ↦ inr (λ found. elim (Contains-cons_cases m ms found.0 found.1) [
      | inl first ↦ differ (subst (λ (x : Meaning). x.name ≡ name) first found.2)
      | inr later ↦ none (found.0, later, found.2, found.3)
    ])
    | inl called ↦ elim (test m) [
      | inl holds ↦ inl (m, Contains-here m ms m refl, called, holds)
      | inr fails ↦ inr (λ found. elim (Contains-cons_cases m ms found.0 found.1) [
        | inl first ↦ fails (subst P first found.3)
        | inr later ↦ none (found.0, later, found.2, found.3)
      ])
    ]
  ]
]

is_longrun_or_not : (kind : Kind) → (kind ≡ Longrun) ⊎ (kind ≢ Longrun)
is_longrun_or_not Oneshot = inr (λ e. let bad : Oneshot ≡ Longrun = e in cc)
is_longrun_or_not Longrun = inl refl
is_longrun_or_not Bundle = inr (λ e. let bad : Bundle ≡ Longrun = e in cc)

is_some_or_not : (o : Option (List ℕ)) (name : List ℕ) → (o ≡ Some name) ⊎ (o ≢ Some name)
is_some_or_not None name = inr (λ e. let bad : None ≡ Some name = e in cc)
is_some_or_not (Some x) name = elim (same_or_other x name) [
  | inl same ↦ inl (λ n. Some (same n))
  | inr differ ↦ inr (λ e. differ (same_Some x name e))
]

longrun_or_not : (ms : List Meaning) (name : List ℕ) → IsLongrun ms name ⊎ (IsLongrun ms name → ⊥)
longrun_or_not ms name =
    defined_or_not (λ m. m.kind ≡ Longrun) (λ m. is_longrun_or_not m.kind) ms name

writes_or_not : (ms : List Meaning) (a b : List ℕ) → WritesTo ms a b ⊎ (WritesTo ms a b → ⊥)
writes_or_not ms a b =
    defined_or_not (λ m. m.producer_for ≡ Some b) (λ m. is_some_or_not m.producer_for b) ms a

reads_or_not : (ms : List Meaning) (a b : List ℕ) → ReadsFrom ms a b ⊎ (ReadsFrom ms a b → ⊥)
reads_or_not ms a b =
    defined_or_not (λ m. Contains m.consumer_for b) (λ m. listed_or_not m.consumer_for b) ms a

-- where no type is wrong both sides of a pipe are longruns
pub both_longruns : (ms : List Meaning) → ((s : List ℕ) → HasWrongType ms s → ⊥) → (s t : List ℕ)
    → WritesTo ms s t → IsLongrun ms s × IsLongrun ms t
both_longruns ms none s t writes = elim (longrun_or_not ms s) [
  | inl first ↦ elim (longrun_or_not ms t) [
    | inl second ↦ (first, second)
    | inr other ↦ absurd (none s (t, inl writes, λ both. other both.1))
  ]
  | inr other ↦ absurd (none s (t, inl writes, λ both. other both.0))
]

pub are_piped : (ms : List Meaning) → ((s : List ℕ) → HasWrongType ms s → ⊥)
    → ((s : List ℕ) → HasNoMatch ms s → ⊥) → ArePiped ms
are_piped ms right matched = record {
  longruns = both_longruns ms right;
  both = λ s t. (
    λ writes. elim (reads_or_not ms t s) [
      | inl reads ↦ reads
      | inr not_so ↦ absurd (matched s (t, inl (writes, not_so)))
    ],
    λ reads. elim (writes_or_not ms s t) [
      | inl writes ↦ writes
      | inr not_so ↦ absurd (matched t (s, inr (reads, not_so)))
    ],
  );
}

-- where no name of a pipeline is taken no service has the name of a bundle
pub are_apart : (ms : List Meaning) → AreMeanings ms → ((s : List ℕ) → HasTakenName ms s → ⊥)
    → AreApart ms
are_apart ms are free name (m, there, called, service) (inl bundle) =
    let own : IsDefined ms (λ x. x.kind ≡ Bundle) m.name =
    subst (IsDefined ms (λ x. x.kind ≡ Bundle)) (sym called) bundle in
    service (only_one ms are (λ x. x.kind ≡ Bundle) m there own)
are_apart ms are free name (m, there, called, service) (inr (last, within, names)) =
    free last.name (name, (last, within, refl, names), inl (m, there, called, tt))

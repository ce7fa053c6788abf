-- Services by the places of their names.
use Rattle.std.proofs.Common.{◌≡◌, ◌∙◌, ℕ, ◌+◌, ◌<◌, ◌≤◌, inl, inr, List, [], ◌∷◌, ◌++◌, length}
use Rattle.std.proofs.Common.{map, set, get_or, slice_get, slice_index, Some, Contains, All, IfSome}
use Rattle.std.proofs.Common.{sym, ap, arith}
use Rattle.std.proofs.lemmas.Bool.{cases_lt, cases_eq}
use Rattle.std.proofs.lemmas.List.{get_or-set_same, get_or-set_other, length-set, length_push}
use Rattle.std.proofs.lemmas.List.{get_or_append_left, get_or_push, length-map, get_or-map}
use Rattle.std.proofs.lemmas.List.Elements.{All-contains}
use Rattle.std.proofs.lemmas.Option.{slice_get-get_or, slice_get_within, get_or_from_slice_get}
use Rattle.std.proofs.lemmas.Option.{same_Some}
use Rattle.rc_model.specs.Names.{IsInByteOrder}
use Rattle.rc_model.specs.Database.{Service}
use Rattle.rc_model.proofs.Places.{place_of, contains_at}
use Rattle.rc_model.proofs.ByteOrder.{one_place}
use Rattle.rc_source.specs.Meaning.{Meaning}
use Rattle.rc_source.specs.Said.{meaning_of}
use Rattle.rc_source.specs.declared.definition.Definition.{Definition}
use Rattle.rc_compile.specs.Compiled.{IsAsDefined}
use Rattle.rc_compile.specs.Placed.{ArePlacesOf, AreAsDefined}

-- the meaning at a place of definitions
pub meaning_at : (definitions : List Definition) (i : ℕ) (d : Definition) → i < length definitions
    → d ≡ get_or definitions i d → slice_get (map meaning_of definitions) i ≡ Some (meaning_of d)
meaning_at definitions i d low is =
    slice_get-get_or (map meaning_of definitions) i (meaning_of d)
    (omega (arith, length-map definitions meaning_of))
    ∙ ap (λ m. Some m) (get_or-map meaning_of definitions i d (meaning_of d) low
    ∙ ap meaning_of (sym is))

-- beside the names of the definitions passed stand places of meanings of those names
pub record ArePlacedBelow (ms : List Meaning) (names : List (List ℕ)) (i : ℕ)
    (places : List ℕ) : Type 0 where
  pub long : length places ≡ length names
  pub placed : (k s : ℕ) (m : Meaning) → k < i → slice_get ms k ≡ Some m
      → slice_get names s ≡ Some m.name
      → (found : Meaning) × (slice_get ms (slice_index places s) ≡ Some found)
      × (found.name ≡ m.name)

-- none is passed at first
pub placed_none : (ms : List Meaning) (names : List (List ℕ)) (places : List ℕ)
    → length places ≡ length names → ArePlacedBelow ms names 0 places
placed_none ms names places long =
    record { long = long; placed = λ k s m low at_k at_s. absurd (omega arith) }

-- one more definition, whose name is in the table
pub placed_more : (ms : List Meaning) (names : List (List ℕ)) (i id : ℕ) (places : List ℕ)
    (one : Meaning) → IsInByteOrder names → ArePlacedBelow ms names i places
    → slice_get ms i ≡ Some one → slice_get names id ≡ Some one.name
    → ArePlacedBelow ms names (i + 1) (set places id i)
placed_more ms names i id places one up before at_i at_id = record {
  long = length-set places id i ∙ before.long;
  placed = λ k s m low at_k at_s. elim (cases_eq s id) [
    | inl same ↦
        let within : id < length places =
        omega (arith, slice_get_within names id one.name at_id, before.long) in
        let put : slice_index (set places id i) s ≡ i =
        ap (slice_index (set places id i)) same ∙ get_or-set_same places id i 0 within in
        let called : one.name ≡ m.name =
        same_Some one.name m.name (sym at_id ∙ ap (slice_get names) (sym same) ∙ at_s) in
        (one, ap (slice_get ms) put ∙ at_i, called)
    | inr other ↦
        let kept : slice_index (set places id i) s ≡ slice_index places s =
        get_or-set_other places id s i 0 other in
        elim (cases_lt k i) [
          | inl below ↦
              let found = before.placed k s m below at_k at_s in
              (found.0, ap (slice_get ms) kept ∙ found.1, found.2)
          | inr high ↦
              let here : k ≡ i = omega arith in
              let same : m ≡ one = same_Some m one (sym at_k ∙ ap (slice_get ms) here ∙ at_i) in
              let at_one : slice_get names s ≡ Some one.name =
              at_s ∙ ap (λ (x : Meaning). Some x.name) same in
              absurd (other (one_place names one.name s id up at_one at_id))
        ]
  ];
}

-- or is not
pub placed_passed : (ms : List Meaning) (names : List (List ℕ)) (i : ℕ) (places : List ℕ)
    (one : Meaning) → ArePlacedBelow ms names i places → slice_get ms i ≡ Some one
    → (Contains names one.name → ⊥)
    → ArePlacedBelow ms names (i + 1) places
placed_passed ms names i places one before at_i missing = record {
  long = before.long;
  placed = λ k s m low at_k at_s. elim (cases_lt k i) [
    | inl below ↦ before.placed k s m below at_k at_s
    | inr high ↦
        let here : k ≡ i = omega arith in
        let same : m ≡ one = same_Some m one (sym at_k ∙ ap (slice_get ms) here ∙ at_i) in
        absurd
        (missing (contains_at names s one.name (at_s ∙ ap (λ (x : Meaning). Some x.name) same)))
  ];
}

-- all names have a place once all definitions are passed
pub placed_all : (ms : List Meaning) (names : List (List ℕ)) (i : ℕ) (places : List ℕ)
    → ArePlacedBelow ms names i places → length ms ≤ i
    → ((name : List ℕ) → Contains names name → (m : Meaning) × Contains ms m × (m.name ≡ name))
    → ArePlacesOf ms names places
placed_all ms names i places below past known = record {
  long = below.long;
  defined = λ s name at_s.
      let m = known name (contains_at names s name at_s) in
      let place = place_of ms m.0 m.1 in
      let found = below.placed place.0 s m.0
      (omega (arith, slice_get_within ms place.0 m.0 place.1)) place.1
      (at_s ∙ ap (λ (x : List ℕ). Some x) (sym m.2)) in
      (found.0, found.1, found.2 ∙ m.2);
}

-- the place beside a name is that of a definition
pub place_within : (definitions : List Definition) (names : List (List ℕ)) (places : List ℕ) (i : ℕ)
    → ArePlacesOf (map meaning_of definitions) names places → i < length places
    → slice_index places i < length definitions
place_within definitions names places i are low =
    let at = slice_get-get_or names i [] (omega (arith, are.long)) in
    let found = are.defined i (get_or names i []) at in
    omega (
      arith,
      slice_get_within (map meaning_of definitions) (slice_index places i) found.0
          found.1,
      length-map definitions meaning_of,
    )

pub known_at : (definitions : List Definition) (names : List (List ℕ)) (i : ℕ) (d : Definition)
    → i < length definitions → d ≡ get_or definitions i d
    → All (λ m. IfSome m.producer_for (Contains names)) (map meaning_of definitions)
    → IfSome (meaning_of d).producer_for (Contains names)
known_at definitions names i d low is known =
    All-contains (λ m. IfSome m.producer_for (Contains names)) (map meaning_of definitions)
    (meaning_of d) known
    (contains_at (map meaning_of definitions) i (meaning_of d) (meaning_at definitions i d low is))

-- the services of the first names
pub record AreDefinedBelow (ms : List Meaning) (names : List (List ℕ)) (i : ℕ)
    (services : List Service) : Type 0 where
  pub long : length services ≡ i
  pub each : (s : ℕ) (name : List ℕ) → s < i → slice_get names s ≡ Some name
      → (m : Meaning) × (service : Service) × Contains ms m × (m.name ≡ name)
      × (slice_get services s ≡ Some service) × IsAsDefined names m service

pub defined_none : (ms : List Meaning) (names : List (List ℕ)) (services : List Service)
    → services ≡ [] → AreDefinedBelow ms names 0 services
defined_none ms names services empty =
    record { long = ap length empty; each = λ s name low at. absurd (omega arith) }

got_pushed : (services : List Service) (one : Service) (s : ℕ) → s ≡ length services
    → slice_get (services ++ one ∷ []) s ≡ Some one
got_pushed services one s same =
    slice_get-get_or (services ++ one ∷ []) s one (omega (arith, length_push services one, same))
    ∙ ap (λ x. Some x) (get_or_push services one one s (sym same))

got_before : (services : List Service) (one other : Service) (s : ℕ)
    → slice_get services s ≡ Some other → slice_get (services ++ one ∷ []) s ≡ Some other
got_before services one other s at =
    let low : s < length services = slice_get_within services s other at in
    slice_get-get_or (services ++ one ∷ []) s other (omega (arith, length_push services one))
    ∙ ap (λ x. Some x)
    (get_or_append_left services (one ∷ []) other s low
    ∙ get_or_from_slice_get services s other other at)

pub defined_more : (ms : List Meaning) (names : List (List ℕ)) (places : List ℕ) (i : ℕ)
    (services new : List Service) (m : Meaning) (one : Service) → ArePlacesOf ms names places
    → AreDefinedBelow ms names i services → i < length places
    → slice_get ms (slice_index places i) ≡ Some m → IsAsDefined names m one
    → new ≡ services ++ one ∷ [] → AreDefinedBelow ms names (i + 1) new
defined_more ms names places i services new m one are before low at_place as_defined pushed =
    record {
      long = omega (arith, ap length pushed, length_push services one, before.long);
      each = λ s name s_low at_s. elim (cases_lt s i) [
        | inl below ↦
            let found = before.each s name below at_s in (
              found.0,
              found.1,
              found.2,
              found.3,
              ap (λ (xs : List Service). slice_get xs s) pushed
                  ∙ got_before services one found.1 s found.4,
              found.5,
            )
        | inr high ↦
            let here : s ≡ i = omega arith in
            let found = are.defined s name at_s in
            let same : found.0 ≡ m =
            same_Some found.0 m (sym found.1 ∙ ap (λ k. slice_get ms (slice_index places k)) here
            ∙ at_place) in (
              m,
              one,
              contains_at ms (slice_index places i) m at_place,
              sym (ap (λ (x : Meaning). x.name) same) ∙ found.2,
              ap (λ (xs : List Service). slice_get xs s) pushed
                  ∙ got_pushed services one s (here ∙ sym before.long),
              as_defined,
            )
      ];
    }

pub defined_all : (ms : List Meaning) (names : List (List ℕ)) (places : List ℕ) (i : ℕ)
    (services : List Service) → ArePlacesOf ms names places → AreDefinedBelow ms names i services
    → i ≤ length places → length places ≤ i → AreAsDefined ms names services
defined_all ms names places i services are below most least = record {
  long = omega (arith, below.long, are.long);
  each = λ s name at_s. below.each s name
      (omega (arith, slice_get_within names s name at_s, are.long)) at_s;
}

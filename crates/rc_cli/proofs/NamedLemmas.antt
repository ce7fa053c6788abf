-- Words that name services, one by one.
use Rattle.std.proofs.Common.{◌≡◌, ℕ, ◌+◌, ◌<◌, ◌⊎◌, inl, inr, List, Bool, [], ◌∷◌, ◌++◌, Some}
use Rattle.std.proofs.Common.{length, map, take, drop, slice_get, get_or, Contains, sym, subst}
use Rattle.std.proofs.lemmas.List.Elements.{Contains-push, Contains-push_cases}
use Rattle.std.proofs.lemmas.List.Elements.{Contains-append_left, All-push}
use Rattle.std.proofs.lemmas.Option.{slice_get_within, get_or_from_slice_get}
use Rattle.rc_model.specs.Names.{Has, Holds, IsInByteOrder}
use Rattle.rc_model.proofs.ByteOrder.{one_place}
use Rattle.rc_model.proofs.Mapped.{cut_at}
use Rattle.rc_cli.specs.Named.{AreNamed, IsFirstUnknown, IsNamed}

-- one more word that names a service
pub named_one : (names words : List (List ℕ)) (word : List ℕ) (id : ℕ) (old new : List Bool)
    → IsInByteOrder names → slice_get names id ≡ Some word
    → Holds old (IsNamed names words) → Holds new (λ s. Has old s ⊎ (s ≡ id))
    → Holds new (IsNamed names (words ++ word ∷ []))
named_one names words word id old new order at before after s = (
  λ has. elim ((after s).0 has) [
    | inl had ↦
        let named = (before s).0 had in
        (named.0, named.1, Contains-append_left words (word ∷ []) named.0 named.2)
    | inr same ↦
        (word, subst (λ n. slice_get names n ≡ Some word) (sym same) at, Contains-push words word)
  ],
  λ named. elim (Contains-push_cases words word named.0 named.2) [
    | inl earlier ↦ (after s).1 (inl ((before s).1 (named.0, named.1, earlier)))
    | inr same ↦
        (after s).1
        (inr (one_place names word s id order
        (subst (λ (x : List ℕ). slice_get names s ≡ Some x) (sym same) named.1) at))
  ],
)

-- each word so far and one more is a name
pub known_one : (names words : List (List ℕ)) (word : List ℕ) (id : ℕ)
    → slice_get names id ≡ Some word → AreNamed names words → AreNamed names (words ++ word ∷ [])
known_one names words word id at known =
    All-push (Contains names) words word known (
      id,
      slice_get_within names id word at,
      get_or_from_slice_get names id word word at,
    )

-- the first word that is unknown, where those before are known
pub first_unknown : {X : Type 0} (f : X → List ℕ) (names : List (List ℕ)) (xs : List X) (i : ℕ)
    (d : X) → i < length xs → AreNamed names (take i (map f xs))
    → (Contains names (f (get_or xs i d)) → ⊥) → IsFirstUnknown names (map f xs) (f (get_or xs i d))
first_unknown f names xs i d within known missing =
    (take i (map f xs), drop (i + 1) (map f xs), cut_at f xs i d within, known, missing)

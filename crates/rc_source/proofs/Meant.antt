-- The names of definitions, one by one.
use Rattle.std.proofs.Common.{◌≡◌, ◌≢◌, ◌↔◌, ⊎_elim, inl, inr, List, [], ◌∷◌, ◌++◌, All, Contains}
use Rattle.std.proofs.Common.{ℕ, sym, subst}
use Rattle.std.proofs.lemmas.List.{map-append}
use Rattle.std.proofs.lemmas.List.Elements.{All-nil, All-cons, All-push, Contains-append_cases}
use Rattle.std.proofs.lemmas.List.Elements.{Contains-append_left, Contains-append_right}
use Rattle.std.proofs.lemmas.List.Quantifiers.{all_pairs_push}
use Rattle.rc_names.specs.Names.{Adds}
use Rattle.rc_model.proofs.Members.{contains_later, only}
use Rattle.rc_source.specs.Meaning.{Meaning, IsMeaning, AreMeanings}
use Rattle.rc_source.specs.Said.{AreFound, meant}
use Rattle.rc_source.proofs.Members.{Contains-here}

-- a name that is not among theirs is none of theirs
free_of : (ms : List Meaning) (m : Meaning) → (Contains (meant ms) m.name → ⊥)
    → All (λ a. a.name ≢ m.name) ms
free_of [] m free = All-nil (λ a. a.name ≢ m.name)
free_of (a ∷ ms) m free = All-cons (λ a. a.name ≢ m.name) a ms
    (λ same. free (Contains-here a.name (meant ms) m.name (sym same)))
    (free_of ms m (λ there. free (contains_later a.name (meant ms) m.name there)))

-- one more meaning, of a new name
found_more : (ms : List Meaning) (m : Meaning) → AreMeanings ms → IsMeaning m
    → (Contains (meant ms) m.name → ⊥) → AreMeanings (ms ++ m ∷ [])
found_more ms m are is free = record {
  each = All-push IsMeaning ms m are.each is;
  distinct = all_pairs_push (λ a b. a.name ≢ b.name) ms m are.distinct (free_of ms m free);
}

-- one more name among theirs
meant_more : (ms : List Meaning) (m : Meaning) (name : List ℕ)
    → Contains (meant (ms ++ m ∷ [])) name ↔ Contains (meant ms ++ m.name ∷ []) name
meant_more ms m name =
    let all : meant (ms ++ m ∷ []) ≡ meant ms ++ m.name ∷ [] =
    map-append (λ a. a.name) ms (m ∷ []) in (
      λ there. subst (λ names. Contains names name) all there,
      λ there. subst (λ names. Contains names name) (sym all) there,
    )

-- one more meaning, and its name beside the others
pub added_to : (ms : List Meaning) (m : Meaning) (old new : List (List ℕ)) → AreFound ms old
    → IsMeaning m → (Contains (meant ms) m.name → ⊥) → Adds old m.name new
    → AreFound (ms ++ m ∷ []) new
added_to ms m old new found is free adds = record {
  meanings = found_more ms m found.meanings is free;
  all = λ name. (
    λ there. (meant_more ms m name).1
        (⊎_elim (λ before. Contains-append_left (meant ms) (m.name ∷ []) name
        ((found.all name).0 before))
        (λ same. Contains-append_right (meant ms) (m.name ∷ []) name
        (Contains-here m.name [] name same)) ((adds name).0 there)),
    λ there. (adds name).1
        (⊎_elim (λ before. inl ((found.all name).1 before)) (λ last. inr (only m.name name last))
        (Contains-append_cases (meant ms) (m.name ∷ []) name ((meant_more ms m name).0 there))),
  );
}

-- Bundles that are defined and removed.
use Rattle.std.proofs.Common.{◌≡◌, inl, inr, ℕ, Bool, List, [], ◌∷◌, ◌++◌, length, get_or, Contains}
use Rattle.std.proofs.Common.{Option, Some, None, sym, ap, subst, ◌∙◌}
use Rattle.std.proofs.lemmas.List.Elements.{Contains-push, Contains-push_cases}
use Rattle.std.proofs.lemmas.List.Elements.{Contains-append_left}
use Rattle.std.proofs.lemmas.Option.{slice_get-get_or}
use Rattle.rc_model.proofs.ByteOrder.{same_or_other}
use Rattle.rc_model.specs.Database.{Bundles, value_of, IsTable, HaveBound}
use Rattle.rc_model.specs.Line.{Removes, IsChangedAt}
use Rattle.rc_db.proofs.Words.{bound_of_value}
use Rattle.rc_bundle.proofs.Places.{value_at}

-- where all values have a bound, the table has it
pub below_from_values : (t : Bundles) (bound : ℕ) → IsTable t
    → ((name : List ℕ) (set : List Bool) → value_of t name ≡ Some set → length set ≡ bound)
    → HaveBound bound t
below_from_values t bound table each = λ k d within.
    each (get_or t k d).0 (get_or t k d).1
    (value_at t table.order k (get_or t k d).0 (get_or t k d).1 (slice_get-get_or t k d within))

-- a change at one name keeps the bound
pub changed_below : (old new : Bundles) (bound : ℕ) (name : List ℕ) (set : List Bool) → IsTable new
    → HaveBound bound old → length set ≡ bound → IsChangedAt old name (Some set) new
    → HaveBound bound new
changed_below old new bound name set table below fits change =
    below_from_values new bound table (λ other value is. elim (same_or_other other name) [
      | inl same ↦
          let e : ◌≡◌ {A = Option (List Bool)} (Some value) (Some set) =
          sym is ∙ ap (value_of new) same ∙ change.here in
          let e2 : value ≡ set = cc in
          ap length e2 ∙ fits
      | inr apart ↦
          bound_of_value bound old other value below (sym (change.others other apart) ∙ is)
    ])

-- one more name is removed
pub removes_more : (old new newer : Bundles) (words : List (List ℕ)) (word : List ℕ)
    → Removes old words new → IsChangedAt new word None newer
    → Removes old (words ++ word ∷ []) newer
removes_more old new newer words word removes change = record {
  gone = λ name there. elim (same_or_other name word) [
    | inl same ↦ ap (value_of newer) same ∙ change.here
    | inr apart ↦ elim (Contains-push_cases words word name there) [
      | inl was ↦ change.others name apart ∙ removes.gone name was
      | inr e ↦ absurd (apart (sym e))
    ]
  ];
  others = λ name absent.
      change.others name
      (λ same. absent (subst (Contains (words ++ word ∷ [])) (sym same) (Contains-push words word)))
      ∙ removes.others name (λ was. absent (Contains-append_left words (word ∷ []) name was));
}

-- what is left after a removal has its old value
pub removed_below : (old new : Bundles) (words : List (List ℕ)) → IsTable new
    → Removes old words new → (bound : ℕ) → HaveBound bound old → HaveBound bound new
removed_below old new words table removes bound below =
    below_from_values new bound table (λ name set is.
    bound_of_value bound old name set below
    (sym (removes.others name (λ there. let bad : ◌≡◌ {A = Option (List Bool)} None (Some set) =
    sym (removes.gone name there) ∙ is in cc)) ∙ is))

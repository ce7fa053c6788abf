-- What a table shows after a name that comes last went in.
use Rattle.std.proofs.Common.{◌≡◌, ◌∙◌, ℕ, ◌<◌, List, [], ◌∷◌, ◌++◌, length, map, All, Contains}
use Rattle.std.proofs.Common.{arith, sym, ap, subst, get_or, false}
use Rattle.std.proofs.lemmas.List.{length-map, length_push, map-append}
use Rattle.std.proofs.lemmas.List.Elements.{All-contains, All-push}
use Rattle.std.proofs.lemmas.List.Quantifiers.{all_pairs_push}
use Rattle.std.specs.Map.{keys_of, values_of}
use Rattle.std.specs.Str.{bytes_eq}
use Rattle.indexmap.proofs.SortedLemmas.{absent_pushes}
use Rattle.indexmap.specs.IndexMap.{insert_entry}
use Rattle.rc_model.proofs.ByteOrder.{not_before_itself}
use Rattle.rc_model.specs.Names.{IsName, IsBefore, AreNames}
use Rattle.rc_names.proofs.Inserting.{none_same}

-- names with one more that comes after all of them
pub names_pushed : (texts : List (List ℕ)) (name : List ℕ) → AreNames texts → length texts < 4096
    → IsName name → All (λ other. IsBefore other name) texts → AreNames (texts ++ name ∷ [])
names_pushed texts name held room good last = record {
  order = all_pairs_push IsBefore texts name held.order last;
  each = All-push IsName texts name held.each good;
  few = omega (arith, length_push texts name);
}

module _ {K : Type 0} (bytes : K → List ℕ) where
  -- the table shows its keys' texts, which are the old names and then this one
  pub record HasLast (ks : List K) (old : List (List ℕ)) (name : List ℕ) (new : List (List ℕ))
      : Type 0 where
    pub shown : map bytes ks ≡ new
    pub names : AreNames new
    pub is : new ≡ old ++ name ∷ []

  -- what an insert of a name that comes last leaves of a table that shows these names
  pub last_after : (old new : List (K × List ℕ)) (key : K) (names : List (List ℕ)) (name : List ℕ)
      → values_of old ≡ names → map bytes (keys_of old) ≡ values_of old
      → AreNames (values_of old) → length names < 4096 → IsName name → bytes key ≡ name
      → All (λ other. IsBefore other name) names
      → new ≡ insert_entry (λ x y. bytes_eq (bytes x) (bytes y)) old key name
      → HasLast (keys_of new) names name (values_of new)
  last_after old new key names name view seen held few good shows all_before entries =
      let Few : List (List ℕ) → Type 0 = λ texts. length texts < 4096 in
      let Last : List (List ℕ) → Type 0 = λ texts. All (λ other. IsBefore other name) texts in
      let room : length (values_of old) < 4096 = subst Few (sym view) few in
      let last : All (λ other. IsBefore other name) (values_of old) =
      subst Last (sym view) all_before in
      let long : length (keys_of old) ≡ length old = length-map old (λ e. e.0) in
      let fresh : Contains (values_of old) name → ⊥ = λ there. not_before_itself name
      (All-contains (λ other. IsBefore other name) (values_of old) name last there) in
      let none : (j : ℕ) (d : K) → j < length old
      → bytes_eq (bytes key) (bytes (get_or (keys_of old) j d)) ≡ false =
      λ j d inside.
      none_same bytes (keys_of old) (values_of old) key name seen shows fresh j d (omega arith) in
      let pushed : new ≡ old ++ (key, name) ∷ [] =
      entries ∙ absent_pushes (λ x y. bytes_eq (bytes x) (bytes y)) key name old none in
      let values : values_of new ≡ values_of old ++ name ∷ [] =
      ap values_of pushed ∙ map-append (λ e. e.1) old ((key, name) ∷ []) in
      let texts : map bytes (keys_of new) ≡ values_of old ++ name ∷ [] =
      ap (λ es. map bytes (keys_of es)) pushed
      ∙ ap (map bytes) (map-append (λ e. e.0) old ((key, name) ∷ []))
      ∙ map-append bytes (keys_of old) (key ∷ []) ∙ (λ n. seen n ++ shows n ∷ []) in
      record {
        shown = texts ∙ sym values;
        names = subst AreNames (sym values) (names_pushed (values_of old) name held room good last);
        is = values ∙ ap (λ (texts : List (List ℕ)). texts ++ name ∷ []) view;
      }

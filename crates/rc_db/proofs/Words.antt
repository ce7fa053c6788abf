-- What words stand for, word by word.
use Rattle.std.proofs.Common.{◌≡◌, ◌∙◌, ◌+◌, ◌<◌, ◌⊎◌, ⊎_elim, inl, inr, ℕ, zero, suc, Bool, true}
use Rattle.std.proofs.Common.{false, cond, List, [], ◌∷◌, ◌++◌, length, take, map, get_or}
use Rattle.std.proofs.Common.{slice_get, Contains, Some, None, is_some, IsTrue, refl, sym, ap}
use Rattle.std.proofs.Common.{subst, arith}
use Rattle.std.proofs.lemmas.List.{length-take, get_or-take}
use Rattle.std.proofs.lemmas.List.Elements.{Contains-push, Contains-push_cases}
use Rattle.std.proofs.lemmas.List.Elements.{Contains-append_left}
use Rattle.std.proofs.lemmas.Option.{slice_get-map, slice_get-get_or, slice_get_read}
use Rattle.std.proofs.lemmas.Option.{slice_get_within}
use Rattle.std.proofs.lemmas.Slice.Eq.{bytes_eq-Decides}
use Rattle.std.specs.Option.{option_map}
use Rattle.std.specs.Str.{bytes_eq}
use Rattle.rc_model.specs.Names.{Has, Holds}
use Rattle.rc_model.specs.Database.{Bundles, names_of, value_of, HaveBound, IsFirst, Selected}
use Rattle.rc_model.specs.Database.{StandsFor}
use Rattle.rc_model.proofs.Places.{place_of, take_next}
use Rattle.rc_db.proofs.Values.{value_of-some}

-- the name of a bundle has a set
pub value_of-named : (table : Bundles) (name : List ℕ) → Contains (names_of table) name
    → (set : List Bool) × (value_of table name ≡ Some set)
value_of-named table name there =
    let at = place_of (names_of table) name there in go table at.0 at.1
  where
    go : (t : Bundles) (k : ℕ) → slice_get (names_of t) k ≡ Some name
        → (set : List Bool) × (value_of t name ≡ Some set)
    go [] k at_k = absurd (omega (arith, slice_get_within (names_of []) k name at_k))
    go (bundle ∷ rest) zero at_k =
        let same : name ≡ bundle.0 = cc in (
          bundle.1,
          ap (λ b. cond b (Some bundle.1) (value_of rest name))
              ((bytes_eq-Decides name bundle.0).1 same),
        )
    go (bundle ∷ rest) (suc k) at_k = either (bytes_eq name bundle.0) (go rest k at_k)
      where
        either : (b : Bool) → (set : List Bool) × (value_of rest name ≡ Some set)
            → (set : List Bool) × (cond b (Some bundle.1) (value_of rest name) ≡ Some set)
        either true later = (bundle.1, refl)
        either false later = later

pub is_some-value_of : (table : Bundles) (name : List ℕ) → Contains (names_of table) name
    → IsTrue (is_some (value_of table name))
is_some-value_of table name there =
    let value = value_of-named table name there in ap is_some value.1

pub unnamed : (table : Bundles) (name : List ℕ) → value_of table name ≡ None
    → Contains (names_of table) name → ⊥
unnamed table name none there = let value = value_of-named table name there in cc (none, value.1)

-- the set of a name has the bound of all sets
pub bound_of_value : (bound : ℕ) (table : Bundles) (name : List ℕ) (set : List Bool)
    → HaveBound bound table → value_of table name ≡ Some set → length set ≡ bound
bound_of_value bound table name set below found =
    let at = value_of-some table name set found in
    let within : at.0 < length table = slice_get_within table at.0 (name, set) at.1 in
    let here : get_or table at.0 (name, set) ≡ (name, set) =
    cc (slice_get-get_or table at.0 (name, set) within, at.1) in
    let P : List ℕ × List Bool → Type 0 = λ bundle. length bundle.1 ≡ bound in
    subst P here (below at.0 (name, set) within)

-- what a map of a list has at a place
pub mapped_at : {X Y : Type 0} (f : X → Y) (xs : List X) (i : ℕ) (x : X) → i < length xs
    → x ≡ get_or xs i x → slice_get (map f xs) i ≡ Some (f x)
mapped_at f xs i x within here =
    slice_get-map f xs i ∙ ap (option_map f) (slice_get_read xs (length xs) i x refl within here)

-- the first word of which a fact fails
pub first_of : (Known : List ℕ → Type 0) (words : List (List ℕ)) (place : ℕ) (word : List ℕ)
    → slice_get words place ≡ Some word → (Known word → ⊥)
    → ((k : ℕ) (before : List ℕ) → k < place → slice_get words k ≡ Some before → Known before)
    → IsFirst (λ w. Known w → ⊥) words place
first_of Known words place word there fails each = (
  word,
  there,
  fails,
  λ k d within unknown.
      let inside : place < length words = slice_get_within words place word there in
      let low : k < place = omega (arith, length-take place words) in
      let P : List ℕ → Type 0 = λ w. Known w in
      unknown (subst P (sym (get_or-take place words k d low))
      (each k (get_or words k d) low (slice_get-get_or words k d (omega arith)))),
)

-- a set that has what some words stand for, and then what the next one stands for, has what all of
-- them stand for
pub one_more_word : (names : List (List ℕ)) (table : Bundles) (words : List (List ℕ)) (i : ℕ)
    (word : List ℕ) (old mid new : List Bool) → slice_get words i ≡ Some word
    → Holds old (Selected names table (take i words))
    → Holds mid (λ s. Has old s ⊎ (slice_get names s ≡ Some word))
    → Holds new (λ s. Has mid s
    ⊎ ((bundle : List Bool) × (value_of table word ≡ Some bundle) × Has bundle s))
    → Holds new (Selected names table (take (i + 1) words))
one_more_word names table words i word old mid new there holds with_service with_bundle s =
    let next : take (i + 1) words ≡ take i words ++ word ∷ [] = take_next words i word there in
    let Meant : List (List ℕ) → Type 0 = λ ws. Selected names table ws s in (
      λ has. subst Meant (sym next) (⊎_elim
          (λ in_mid. ⊎_elim
          (λ in_old. let meant = (holds s).0 in_old in
          (meant.0, Contains-append_left (take i words) (word ∷ []) meant.0 meant.1, meant.2))
          (λ here. (word, Contains-push (take i words) word, inl here))
          ((with_service s).0 in_mid))
          (λ of_bundle. (word, Contains-push (take i words) word, inr of_bundle))
          ((with_bundle s).0 has)),
      λ meant_next.
          let meant = subst Meant next meant_next in
          let Stands : List ℕ → Type 0 = λ w. StandsFor names table w s in
          ⊎_elim
          (λ before. (with_bundle s).1
          (inl ((with_service s).1 (inl ((holds s).1 (meant.0, before, meant.2))))))
          (λ is. ⊎_elim
          (λ of_service. (with_bundle s).1 (inl ((with_service s).1 (inr of_service))))
          (λ of_bundle. (with_bundle s).1 (inr of_bundle))
          (subst Stands (sym is) meant.2))
          (Contains-push_cases (take i words) word meant.0 meant.1),
    )

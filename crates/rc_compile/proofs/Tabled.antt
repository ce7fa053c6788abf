-- Tables of bundles that are filled name by name.
use Rattle.std.proofs.Common.{◌≡◌, ◌≢◌, ◌∙◌, ℕ, ◌+◌, ◌<◌, ◌≤◌, ◌⊎◌, ◌↔◌, inl, inr, Bool, true}
use Rattle.std.proofs.Common.{false, cond, List, [], ◌∷◌, ◌++◌, length, take, get_or, slice_get}
use Rattle.std.proofs.Common.{slice_index_or, Some, Contains, refl, sym, ap, subst, arith}
use Rattle.std.specs.Str.{bytes_eq}
use Rattle.std.proofs.lemmas.Bool.{cases_lt}
use Rattle.std.proofs.lemmas.List.{length-map, length-take, get_or-take, take_more, take_all}
use Rattle.std.proofs.lemmas.List.Elements.{Contains-push, Contains-push_cases}
use Rattle.std.proofs.lemmas.List.Elements.{Contains-append_left, All-cons, All-nil, All-contains}
use Rattle.std.proofs.lemmas.Option.{get_or_from_slice_get, same_Some, slice_get_within}
use Rattle.std.proofs.lemmas.Slice.Eq.{bytes_eq-Decides}
use Rattle.rc_model.specs.Line.{IsChangedAt}
use Rattle.rc_model.specs.Names.{IsBefore, IsInByteOrder, Has}
use Rattle.rc_model.specs.Database.{Bundles, names_of, value_of, HaveBound, IsTable}
use Rattle.rc_db.proofs.Words.{value_of-named}
use Rattle.rc_db.proofs.Values.{named_by_value}
use Rattle.rc_model.proofs.ByteOrder.{order_head, order_tail, same_names, not_before_itself}
use Rattle.rc_model.proofs.ByteOrder.{one_place, same_or_other}
use Rattle.rc_model.proofs.Members.{place_of}
use Rattle.rc_compile.specs.Joining.{AllWithin}
use Rattle.rc_compile.specs.Sets.{AreSetsOf}

-- the names of a table in which one name was given a set
names_after : (old new : Bundles) (name : List ℕ) (value : List Bool)
    → IsChangedAt old name (Some value) new → (other : List ℕ)
    → Contains (names_of new) other ↔ (Contains (names_of old) other ⊎ (other ≡ name))
names_after old new name value changed other = elim (same_or_other other name) [
  | inl same ↦ (
    λ there. inr same,
    λ either. subst (Contains (names_of new)) (sym same)
        (named_by_value new name value changed.here),
  )
  | inr differ ↦ (
    λ there. let found = value_of-named new other there in
        inl (named_by_value old other found.0 (sym (changed.others other differ) ∙ found.1)),
    λ either. elim either [
      | inl there ↦
          let found = value_of-named old other there in
          named_by_value new other found.0 (changed.others other differ ∙ found.1)
      | inr same ↦ absurd (differ same)
    ],
  )
]

order_take : (names : List (List ℕ)) (n : ℕ) → IsInByteOrder names → IsInByteOrder (take n names)
order_take names n up i j d lower within =
    let j_n : j < n = omega (arith, length-take n names) in
    let i_n : i < n = omega arith in
    subst (λ x. IsBefore x (get_or (take n names) j d)) (sym (get_or-take n names i d i_n))
    (subst (IsBefore (get_or names i d)) (sym (get_or-take n names j d j_n))
    (up i j d lower (omega (arith, length-take n names))))

-- the names so far, each with the set at its place
pub record IsFilled (names : List (List ℕ)) (sets : List (List Bool)) (k : ℕ)
    (table : Bundles) : Type 0 where
  pub named : names_of table ≡ take k names
  pub valued : (b : ℕ) (name : List ℕ) → b < k → slice_get names b ≡ Some name
      → value_of table name ≡ Some (slice_index_or sets b [])

pub filled_none : (names : List (List ℕ)) (sets : List (List Bool)) (table : Bundles) → table ≡ []
    → IsFilled names sets 0 table
filled_none names sets table empty =
    record { named = ap names_of empty; valued = λ b name low at. absurd (omega arith) }

-- there is room for one more
pub filled_room : (names : List (List ℕ)) (sets : List (List Bool)) (k : ℕ) (table : Bundles)
    → IsFilled names sets k table → k < length names → length names ≤ 4096 → length table < 4096
filled_room names sets k table filled low few =
    let long : length (names_of table) ≡ length table = length-map table (λ bundle. bundle.0) in
    let same : length (names_of table) ≡ length (take k names) = ap length filled.named in
    omega (arith, length-take k names)

-- one more bundle
pub filled_more : (names : List (List ℕ)) (sets : List (List Bool)) (k : ℕ) (old new : Bundles)
    (name : List ℕ) (set : List Bool) → IsInByteOrder names → IsFilled names sets k old
    → k < length names
    → slice_get names k ≡ Some name → set ≡ slice_index_or sets k []
    → IsChangedAt old name (Some set) new → IsTable new → IsFilled names sets (k + 1) new
filled_more names sets k old new name set up filled low at is changed table =
    let next : take (k + 1) names ≡ take k names ++ name ∷ [] = take_more names k name low
    ∙ ap (λ (x : List ℕ). take k names ++ x ∷ []) (get_or_from_slice_get names k name name at) in
    let In : List (List ℕ) → List ℕ → Type 0 = λ xs x. Contains xs x in
    record {
      named =
          same_names (names_of new) (take (k + 1) names) table.order (order_take names (k + 1) up)
          (λ other. (
            λ there. subst (λ xs. In xs other) (sym next)
                (elim ((names_after old new name set changed other).0 there) [
                  | inl was ↦
                      Contains-append_left (take k names) (name ∷ []) other
                      (subst (λ xs. In xs other) filled.named was)
                  | inr now ↦
                      subst (In (take k names ++ name ∷ [])) (sym now)
                      (Contains-push (take k names) name)
                ]),
            λ there. (names_after old new name set changed other).1
                (elim (Contains-push_cases (take k names) name other
                (subst (λ xs. In xs other) next there)) [
                  | inl earlier ↦ inl (subst (λ xs. In xs other) (sym filled.named) earlier)
                  | inr last ↦ inr (sym last)
                ]),
          ));
      valued = λ b other b_low at_b. elim (cases_lt b k) [
        | inl below ↦
            let differ : other ≢ name =
            λ same. (let place : b ≡ k = one_place names name b k up (at_b
            ∙ ap (λ (x : List ℕ). Some x) same) at in absurd (omega arith)) in
            changed.others other differ ∙ filled.valued b other below at_b
        | inr high ↦
            let here : b ≡ k = omega arith in
            let same : other ≡ name =
            same_Some other name (sym at_b ∙ ap (slice_get names) here ∙ at) in
            ap (value_of new) same ∙ changed.here
            ∙ ap (λ (x : List Bool). Some x) (is ∙ ap (λ y. slice_index_or sets y []) (sym here))
      ];
    }

-- all sets of a table have a bound that all its values have
below_by_values : (bound : ℕ) (table : Bundles) → IsInByteOrder (names_of table)
    → ((name : List ℕ) (value : List Bool) → value_of table name ≡ Some value
    → length value ≡ bound) → HaveBound bound table
below_by_values bound [] up each =
    All-nil (λ (bundle : List ℕ × List Bool). length bundle.1 ≡ bound)
below_by_values bound (bundle ∷ rest) up each =
    All-cons (λ (b : List ℕ × List Bool). length b.1 ≡ bound) bundle rest
    (each bundle.0 bundle.1
    (ap (λ test. cond test (Some bundle.1) (value_of rest bundle.0))
    ((bytes_eq-Decides bundle.0 bundle.0).1 refl)))
    (below_by_values bound rest (order_tail bundle.0 (names_of rest) up)
    (λ name value found. each name value (by (bytes_eq name bundle.0) name refl value found)))
  where
    by : (test : Bool) → (name : List ℕ) → bytes_eq name bundle.0 ≡ test → (value : List Bool)
        → value_of rest name ≡ Some value
        → cond test (Some bundle.1) (value_of rest name) ≡ Some value
    by true name same value found =
        let there = named_by_value rest name value found in
        let before : IsBefore bundle.0 name = All-contains (IsBefore bundle.0) (names_of rest) name
        (order_head bundle.0 (names_of rest) up) there in
        absurd (not_before_itself name
        (subst (λ x. IsBefore x name) (sym ((bytes_eq-Decides name bundle.0).0 same)) before))
    by false name same value found = found

-- the sets of a filled table have the bound of all sets
pub filled_below : (names : List (List ℕ)) (sets : List (List Bool)) (k : ℕ) (table : Bundles)
    → IsInByteOrder names → IsFilled names sets k table → length names ≤ k
    → length sets ≡ length names
    → (bound : ℕ) → AllWithin bound sets → HaveBound bound table
filled_below names sets k table up filled past long bound within =
    let same : names_of table ≡ names = filled.named ∙ take_all k names past in
    below_by_values bound table (subst IsInByteOrder (sym same) up) (λ name value found.
    let there : Contains names name =
    subst (λ (xs : List (List ℕ)). Contains xs name) same (named_by_value table name value found) in
    let place = place_of names name there in
    let low : place.0 < length names = slice_get_within names place.0 name place.1 in
    let is : value ≡ slice_index_or sets place.0 [] =
    same_Some value (slice_index_or sets place.0 [])
    (sym found ∙ filled.valued place.0 name (omega arith) place.1) in
    ap length is ∙ within place.0 [] (omega arith))

-- what holds of the names holds of those of their table
pub tabled_names : (names : List (List ℕ)) (table : Bundles) (P : List ℕ → Type 0)
    → ((name : List ℕ) → Contains names name ↔ P name) → names_of table ≡ names → (name : List ℕ)
    → Contains (names_of table) name ↔ P name
tabled_names names table P is same name =
    subst (λ (xs : List (List ℕ)). Contains xs name ↔ P name) (sym same) (is name)

-- the values of a table are the sets at the places of their names
pub tabled_sets : (names services : List (List ℕ)) (sets : List (List Bool)) (table : Bundles)
    (R : List ℕ → List ℕ → Type 0) → AreSetsOf R names services sets → names_of table ≡ names
    → ((b : ℕ) (name : List ℕ) → slice_get names b ≡ Some name
    → value_of table name ≡ Some (slice_index_or sets b []))
    → (name a : List ℕ) (set : List Bool) (s : ℕ) → value_of table name ≡ Some set
    → slice_get services s ≡ Some a → Has set s ↔ R name a
tabled_sets names services sets table R are same values name a set s found at_s =
    let there : Contains names name =
    subst (λ (xs : List (List ℕ)). Contains xs name) same (named_by_value table name set found) in
    let place = place_of names name there in
    let is : set ≡ slice_index_or sets place.0 [] =
    same_Some set (slice_index_or sets place.0 []) (sym found ∙ values place.0 name place.1) in
    subst (λ x. Has x s ↔ R name a) (sym is) (are place.0 s name a place.1 at_s)

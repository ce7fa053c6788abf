-- What a table has under each name after a change, and that it stays a table.
use Rattle.std.proofs.Common.{◌≡◌, ◌∙◌, ◌<◌, ◌≤◌, ℕ, zero, suc, Bool, true, false, cond, List, []}
use Rattle.std.proofs.Common.{◌∷◌, ◌++◌, length, get_or, take, drop, insert, remove, set as put}
use Rattle.std.proofs.Common.{slice_get, Contains, Option, Some, None, All, refl, ap, sym, subst}
use Rattle.std.proofs.Common.{arith, length-take}
use Rattle.std.proofs.lemmas.Cmp.{nat_list_eq_equiv}
use Rattle.std.proofs.lemmas.List.{take-append-drop, take-map, get_or-take}
use Rattle.std.proofs.lemmas.List.Elements.{Contains-append_right}
use Rattle.std.proofs.lemmas.List.Kept.{AllPairs-cons}
use Rattle.std.proofs.lemmas.Map.{lookup-remove_entry}
use Rattle.std.proofs.lemmas.Map.Views.{All-map-remove_entry}
use Rattle.std.proofs.lemmas.Option.{slice_get-map, slice_get_within, get_or_from_slice_get}
use Rattle.std.proofs.lemmas.Slice.Eq.{bytes_eq-Decides}
use Rattle.std.specs.List.{IsDistinct, AllByRecursion}
use Rattle.std.specs.Map.{lookup, remove_entry}
use Rattle.std.specs.Option.{option_map}
use Rattle.std.specs.Str.{bytes_eq}
use Rattle.rc_model.specs.Line.{IsChangedAt}
use Rattle.rc_model.specs.Names.{IsName, IsBefore, IsInByteOrder}
use Rattle.rc_model.specs.Database.{Bundles, names_of, value_of, IsTable}
use Rattle.rc_model.proofs.ByteOrder.{apart, order_tail, order_head}

-- a look-up is the first entry's value
pub value_of-lookup : (table : Bundles) (name : List ℕ)
    → value_of table name ≡ lookup (bytes_eq name) table
value_of-lookup [] name = refl
value_of-lookup (bundle ∷ rest) name =
    ap (λ v. cond (bytes_eq name bundle.0) (Some bundle.1) v) (value_of-lookup rest name)

-- a name that no bundle has stands for no set, and the other way round
pub value_of-absent : (table : Bundles) (name : List ℕ) → (Contains (names_of table) name → ⊥)
    → value_of table name ≡ None
value_of-absent [] name absent = refl
value_of-absent (bundle ∷ rest) name absent =
    by (bytes_eq name bundle.0) refl
    (value_of-absent rest name
    (λ there. absent (Contains-append_right (bundle.0 ∷ []) (names_of rest) name there)))
  where
    by : (b : Bool) → bytes_eq name bundle.0 ≡ b → value_of rest name ≡ None
        → cond b (Some bundle.1) (value_of rest name) ≡ None
    by true e none = absurd (absent (0, omega arith, sym ((bytes_eq-Decides name bundle.0).0 e)))
    by false e none = none

-- the set of a name is a bundle of that name
pub value_of-some : (table : Bundles) (name : List ℕ) (set : List Bool)
    → value_of table name ≡ Some set → (k : ℕ) × (slice_get table k ≡ Some (name, set))
value_of-some [] name set found = let bad : None ≡ Some set = found in cc
value_of-some (bundle ∷ rest) name set found =
    by (bytes_eq name bundle.0) refl found (value_of-some rest name set)
  where
    by : (b : Bool) → bytes_eq name bundle.0 ≡ b
        → cond b (Some bundle.1) (value_of rest name) ≡ Some set
        → (value_of rest name ≡ Some set → (k : ℕ) × (slice_get rest k ≡ Some (name, set)))
        → (k : ℕ) × (slice_get (bundle ∷ rest) k ≡ Some (name, set))
    by true e found later = (
      0,
      (let same : name ≡ bundle.0 = (bytes_eq-Decides name bundle.0).0 e in
          let value : bundle.1 ≡ set = cc in λ i. Some (sym same i, value i)),
    )
    by false e found later = let there = later found in (suc there.0, there.1)

pub named_by_value : (table : Bundles) (name : List ℕ) (set : List Bool)
    → value_of table name ≡ Some set → Contains (names_of table) name
named_by_value table name set found =
    let there = value_of-some table name set found in
    let shown : slice_get (names_of table) there.0 ≡ Some name = slice_get-map (λ bundle. bundle.0)
    table there.0 ∙ ap (option_map (λ bundle. bundle.0)) there.1 in (
      there.0,
      slice_get_within (names_of table) there.0 name shown,
      get_or_from_slice_get (names_of table) there.0 name name shown,
    )

-- two tests that never pass together may change places
swap : {X : Type 0} (a b : Bool) (x y r : X) → (a ≡ true → b ≡ true → ⊥)
    → cond a x (cond b y r) ≡ cond b y (cond a x r)
swap true true x y r apart = absurd (apart refl refl)
swap true false x y r apart = refl
swap false b x y r apart = refl

-- the first of two equal tests counts
twice : {X : Type 0} (b : Bool) (x y r : X) → cond b x (cond b y r) ≡ cond b x r
twice true x y r = refl
twice false x y r = refl

-- a name is no two names
not_both : (q a b : List ℕ) → bytes_eq a b ≡ false → bytes_eq q a ≡ true → bytes_eq q b ≡ true → ⊥
not_both q a b differ is_a is_b =
    let at_a : q ≡ a = (bytes_eq-Decides q a).0 is_a in
    let at_b : q ≡ b = (bytes_eq-Decides q b).0 is_b in
    let same : bytes_eq a b ≡ true = (bytes_eq-Decides a b).1 (sym at_a ∙ at_b) in
    cc

-- the table has this under the name, and the old values elsewhere
pub record IsNow (old : Bundles) (name : List ℕ) (value : Option (List Bool))
    (new : Bundles) : Type 0 where
  pub at : (q : List ℕ) → value_of new q ≡ cond (bytes_eq q name) value (value_of old q)

pub changed_at : (old new : Bundles) (name : List ℕ) (value : Option (List Bool))
    → IsNow old name value new → IsChangedAt old name value new
changed_at old new name value now = record {
  here =
      now.at name ∙ ap (λ b. cond b value (value_of old name))
      ((bytes_eq-Decides name name).1 refl);
  others = λ q differ. now.at q ∙ ap (λ b. cond b value (value_of old q))
      (is_false (bytes_eq q name) (λ e. differ ((bytes_eq-Decides q name).0 e)));
}
  where
    is_false : (b : Bool) → (b ≡ true → ⊥) → b ≡ false
    is_false true h = absurd (h refl)
    is_false false h = refl

module _ (bundle : List ℕ × List Bool) (rest : Bundles) (order : IsInByteOrder (names_of
    (bundle ∷ rest))) where
  later_order : IsInByteOrder (names_of rest)
  later_order = order_tail bundle.0 (names_of rest) order

  -- the first bundle's name is no later one's
  is_later : (i : ℕ) (name : List ℕ) → slice_get (names_of rest) i ≡ Some name
      → bytes_eq bundle.0 name ≡ false
  is_later i name there =
      let head = order_head bundle.0 (names_of rest) order i name (slice_get_within
      (names_of rest) i name there) in
      let P : List ℕ → Type 0 = λ n. IsBefore bundle.0 n in
      apart bundle.0 name (subst P (get_or_from_slice_get (names_of rest) i name name there) head)

-- the name of a place, and the set there, are a bundle
pub value_at : (table : Bundles) (i : ℕ) (name : List ℕ) (set : List Bool)
    → IsInByteOrder (names_of table) → slice_get table i ≡ Some (name, set)
    → value_of table name ≡ Some set
value_at [] i name set order there = let bad : None ≡ Some (name, set) = there in cc
value_at (bundle ∷ rest) zero name set order there =
    let same : bundle ≡ (name, set) = cc in
    subst (λ (b : List ℕ × List Bool). cond (bytes_eq name b.0) (Some b.1)
    (value_of rest name) ≡ Some set) (sym same)
    (ap (λ b. cond b (Some set) (value_of rest name)) ((bytes_eq-Decides name name).1 refl))
value_at (bundle ∷ rest) (suc i) name set order there =
    let tail : slice_get rest i ≡ Some (name, set) = there in
    let shown : slice_get (names_of rest) i ≡ Some name = slice_get-map (λ b. b.0) rest i
    ∙ ap (option_map (λ b. b.0)) tail in
    let differ : bytes_eq name bundle.0 ≡ false = nat_list_eq_equiv.symm name bundle.0
    ∙ is_later bundle rest order i name shown in
    ap (λ b. cond b (Some bundle.1) (value_of rest name)) differ
    ∙ value_at rest i name set (later_order bundle rest order) tail

-- a set written at the place of its name
pub set_at : (table : Bundles) (i : ℕ) (name : List ℕ) (set : List Bool)
    → IsInByteOrder (names_of table) → slice_get (names_of table) i ≡ Some name
    → IsNow table name (Some set) (put table i (name, set))
set_at table i name set order there = record { at = λ q. go table i order there q }
  where
    go : (t : Bundles) (i : ℕ) → IsInByteOrder (names_of t) → slice_get (names_of t) i ≡ Some name
        → (q : List ℕ)
        → value_of (put t i (name, set)) q ≡ cond (bytes_eq q name) (Some set) (value_of t q)
    go [] i order there q = absurd (omega (arith, slice_get_within (names_of []) i name there))
    go (bundle ∷ rest) zero order there q =
        let same : bundle.0 ≡ name = cc in
        rw same (sym (twice (bytes_eq q name) (Some set) (Some bundle.1) (value_of rest q)))
    go (bundle ∷ rest) (suc i) order there q =
        let tail : slice_get (names_of rest) i ≡ Some name = there in
        ap (λ v. cond (bytes_eq q bundle.0) (Some bundle.1) v) (go rest i
        (later_order bundle rest order) tail q)
        ∙ swap (bytes_eq q bundle.0) (bytes_eq q name) (Some bundle.1) (Some set)
        (value_of rest q) (not_both q bundle.0 name (is_later bundle rest order i name tail))

pub names_of-put : (table : Bundles) (i : ℕ) (name : List ℕ) (set : List Bool)
    → slice_get (names_of table) i ≡ Some name → names_of (put table i (name, set)) ≡ names_of table
names_of-put [] i name set there = refl
names_of-put (bundle ∷ rest) zero name set there = let same : bundle.0 ≡ name =
    cc in ap (λ n. n ∷ names_of rest) (sym same)
names_of-put (bundle ∷ rest) (suc i) name set there =
    ap (λ ns. bundle.0 ∷ ns) (names_of-put rest i name set there)

-- a bundle put in between
put_between : (before after : Bundles) (name : List ℕ) (set : List Bool)
    → value_of (before ++ after) name ≡ None → (q : List ℕ)
    → value_of (before ++ (name, set) ∷ after) q ≡ cond (bytes_eq q name) (Some set)
    (value_of (before ++ after) q)
put_between [] after name set fresh q = refl
put_between (bundle ∷ rest) after name set fresh q =
    let other : bytes_eq name bundle.0 ≡ false = misses (bytes_eq name bundle.0) fresh in
    let later : value_of (rest ++ after) name ≡ None =
    sym (ap (λ b. cond b (Some bundle.1) (value_of (rest ++ after) name)) other) ∙ fresh in
    ap (λ v. cond (bytes_eq q bundle.0) (Some bundle.1) v) (put_between rest after name set later q)
    ∙ swap (bytes_eq q bundle.0) (bytes_eq q name) (Some bundle.1) (Some set)
    (value_of (rest ++ after) q)
    (λ is_b is_n. not_both q name bundle.0 other is_n is_b)
  where
    misses : (b : Bool) → cond b (Some bundle.1) (value_of (rest ++ after) name) ≡ None → b ≡ false
    misses true none = let bad : Some bundle.1 ≡ None = none in cc
    misses false none = refl

-- a new bundle
pub insert_new : (table : Bundles) (i : ℕ) (name : List ℕ) (set : List Bool)
    → value_of table name ≡ None → IsNow table name (Some set) (insert table i (name, set))
insert_new table i name set fresh =
    let whole : take i table ++ drop i table ≡ table = take-append-drop i table in
    let none : value_of (take i table ++ drop i table) name ≡ None =
    ap (λ t. value_of t name) whole ∙ fresh in
    record {
      at = λ q. put_between (take i table) (drop i table) name set none q
          ∙ ap (λ t. cond (bytes_eq q name) (Some set) (value_of t q)) whole;
    }

-- names in byte order are distinct to a test by bytes
distinct : (names : List (List ℕ)) → IsInByteOrder names → IsDistinct bytes_eq names
unfolding IsDistinct
distinct [] order = tt
distinct (name ∷ names) order =
    (differ names (order_head name names order), distinct names (order_tail name names order))
  where
    differ : (ns : List (List ℕ)) → All (IsBefore name) ns
        → AllByRecursion (λ y. bytes_eq name y ≡ false) ns
    differ [] all = tt
    differ (n ∷ ns) all = (
      apart name n (all 0 n (omega arith)),
      differ ns (λ k d within. all (suc k) d (omega arith)),
    )

-- what is removed at the place of a name is its bundle
pub remove_at : (table : Bundles) (i : ℕ) (name : List ℕ) → IsInByteOrder (names_of table)
    → slice_get (names_of table) i ≡ Some name
    → remove table i ≡ remove_entry (bytes_eq name) table
remove_at [] i name order there = absurd (omega (
  arith,
  slice_get_within
      (names_of []) i name there,
))
remove_at (bundle ∷ rest) zero name order there =
    let same : bundle.0 ≡ name = cc in
    ap (λ b. cond b rest (bundle ∷ remove_entry (bytes_eq name) rest)) (sym
    ((bytes_eq-Decides name bundle.0).1 (sym same)))
remove_at (bundle ∷ rest) (suc i) name order there =
    let tail : slice_get (names_of rest) i ≡ Some name = there in
    let differ : bytes_eq name bundle.0 ≡ false = nat_list_eq_equiv.symm name bundle.0
    ∙ is_later bundle rest order i name tail in
    ap (λ t. bundle ∷ t) (remove_at rest i name (later_order bundle rest order) tail)
    ∙ ap (λ b. cond b rest (bundle ∷ remove_entry (bytes_eq name) rest)) (sym differ)

-- a bundle taken out
pub take_out : (table : Bundles) (name : List ℕ) → IsInByteOrder (names_of table)
    → IsNow table name None (remove_entry (bytes_eq name) table)
take_out table name order =
    record {
      at = λ q. value_of-lookup (remove_entry (bytes_eq name) table) q
          ∙ lookup-remove_entry nat_list_eq_equiv (bytes_eq name)
          (λ x y same. ap (λ n. bytes_eq n y) ((bytes_eq-Decides name x).0 same)) q table
          (distinct (names_of table) order)
          ∙ turned q
          ∙ ap (λ v. cond (bytes_eq q name) None v) (sym (value_of-lookup table q));
    }
  where
    turned : (q : List ℕ) → cond (bytes_eq name q) None (lookup (bytes_eq q) table)
        ≡ cond (bytes_eq q name) None (lookup (bytes_eq q) table)
    turned q = ap (λ b. cond b None (lookup (bytes_eq q) table)) (nat_list_eq_equiv.symm name q)

order_without : (test : List ℕ → Bool) (table : Bundles) → IsInByteOrder (names_of table)
    → IsInByteOrder (names_of (remove_entry test table))
order_without test [] order = order
order_without test (bundle ∷ rest) order =
    by (test bundle.0)
    (AllPairs-cons IsBefore bundle.0 (names_of (remove_entry test rest))
    (All-map-remove_entry test (λ b. b.0) (IsBefore bundle.0) rest
    (order_head bundle.0 (names_of rest) order))
    (order_without test rest (order_tail bundle.0 (names_of rest) order)))
  where
    by : (b : Bool) → IsInByteOrder (bundle.0 ∷ names_of (remove_entry test rest))
        → IsInByteOrder (names_of (cond b rest (bundle ∷ remove_entry test rest)))
    by true kept = order_tail bundle.0 (names_of rest) order
    by false kept = kept

length_without : (test : List ℕ → Bool) (table : Bundles)
    → length (remove_entry test table) ≤ length table
length_without test [] = omega arith
length_without test (bundle ∷ rest) = by (test bundle.0) (length_without test rest)
  where
    by : (b : Bool) → length (remove_entry test rest) ≤ length rest
        → length (cond b rest (bundle ∷ remove_entry test rest)) ≤ suc (length rest)
    by true less = omega arith
    by false less = omega arith

pub table_without : (test : List ℕ → Bool) (table : Bundles) → IsTable table
    → IsTable (remove_entry test table)
table_without test table held = record {
  order = order_without test table held.order;
  each = All-map-remove_entry test (λ b. b.0) IsName table held.each;
  few = let less : length (remove_entry test table) ≤ length table = length_without test table in
      let most : length table ≤ 4096 = held.few in omega arith;
}

-- the bundles before a place have names before that of the bundle there
pub names_before : (table : Bundles) (i : ℕ) (bundle : List ℕ × List Bool)
    → IsInByteOrder (names_of table) → slice_get table i ≡ Some bundle
    → All (λ other. IsBefore other bundle.0) (names_of (take i table))
names_before table i bundle order there k d within =
    let shown : slice_get (names_of table) i ≡ Some bundle.0 =
    slice_get-map (λ b. b.0) table i ∙ ap (option_map (λ b. b.0)) there in
    let inside : i < length (names_of table) = slice_get_within (names_of table) i bundle.0 shown in
    let cut : names_of (take i table) ≡ take i (names_of table) =
    sym (take-map (λ b. b.0) i table) in
    let low : k < i = omega (arith, length-take i (names_of table), ap length cut) in
    let Last : List ℕ → Type 0 = λ n. IsBefore (get_or (names_of (take i table)) k d) n in
    let First : List ℕ → Type 0 = λ n. IsBefore n (get_or (names_of table) i d) in
    subst Last (get_or_from_slice_get (names_of table) i bundle.0 d shown)
    (subst First (sym (ap (λ ns. get_or ns k d) cut ∙ get_or-take i (names_of table) k d low))
    (order k i d low inside))

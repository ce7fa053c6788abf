-- What a table shows once `insert_sorted` put a new name in.
use Rattle.std.proofs.Common.{◌≡◌, ℕ, ◌+◌, ◌<◌, ◌≤◌, ◌⊎◌, ◌↔◌, ⊎_elim, inl, inr, Bool, false}
use Rattle.std.proofs.Common.{List, [], ◌∷◌, length, get_or, map, insert}
use Rattle.std.proofs.Common.{Contains, All, arith, refl, sym, ap, subst, ◌∙◌, true≢false}
use Rattle.std.proofs.lemmas.Bool.{cases_lt, le-ltb, false_from_ne_true}
use Rattle.std.proofs.lemmas.Cmp.{nat_list_cmp_total}
use Rattle.std.proofs.lemmas.List.{get_or-map, length-map}
use Rattle.std.proofs.lemmas.List.Edits.{length-insert}
use Rattle.std.proofs.lemmas.List.Elements.{All-cons, Contains-append_cases, Contains-append_right}
use Rattle.std.proofs.lemmas.List.Elements.{Contains-get_or}
use Rattle.std.proofs.lemmas.List.Sorted.{sorted_far, ranks_by, IsPermutation-insert}
use Rattle.std.proofs.lemmas.List.Sorted.{IsPermutation-sym, All-permutation, Contains-permutation}
use Rattle.std.proofs.lemmas.List.Sums.{passes_at_first, prefix_len-le-length}
use Rattle.std.proofs.lemmas.Map.Keys.{apart_from_distinct}
use Rattle.std.proofs.lemmas.Option.{slice_get_cases}
use Rattle.std.proofs.lemmas.Slice.Eq.{bytes_eq-Decides}
use Rattle.std.specs.Cmp.Lexicographic.{slice_cmp}
use Rattle.std.specs.List.{position_or_len, IsDistinct}
use Rattle.std.specs.List.Sorted.{IsSorted}
use Rattle.std.specs.Map.{keys_of, values_of}
use Rattle.std.specs.Ordering.{nat_cmp, is_lt, ordering_reverse}
use Rattle.std.specs.Str.{bytes_eq}
use Rattle.std.specs.declared.cmp.Ordering.TheVariants.{Less}
use Rattle.indexmap.proofs.MoveLemmas.{push_moved}
use Rattle.indexmap.proofs.SortedLemmas.{absent_pushes}
use Rattle.indexmap.specs.IndexMap.{move_index, insert_entry, index_before}
use Rattle.rc_model.specs.Names.{IsName, IsInByteOrder, AreNames}
use Rattle.rc_model.proofs.Members.{only}
use Rattle.rc_model.proofs.Mapped.{map-insert}
use Rattle.rc_model.proofs.Texts.{before_from}
use Rattle.rc_names.specs.Names.{Adds}

module _ {X : Type 0} where
  -- an insert adds one element
  Contains-insert : (xs : List X) (i : ℕ) (x y : X)
      → Contains (insert xs i x) y ↔ (Contains xs y ⊎ (y ≡ x))
  Contains-insert xs i x y =
      let moved = IsPermutation-insert xs i x in (
        λ there. ⊎_elim (λ at. inr (only x y at)) (λ rest. inl rest)
            (Contains-append_cases (x ∷ []) xs y (Contains-permutation (insert xs i x) (x ∷ xs) y
            (IsPermutation-sym (x ∷ xs) (insert xs i x) moved) there)),
        λ cases. Contains-permutation (x ∷ xs) (insert xs i x) y moved
            (⊎_elim (λ rest. Contains-append_right (x ∷ []) xs y rest) (λ at. subst (Contains
            (x ∷ xs)) (sym at) (Contains-get_or (x ∷ xs) 0 x (omega arith))) cases),
      )

module _ {K V : Type 0} (same : K → K → Bool) (es : List (K × V)) (key : K) (value : V) where
  -- `insert_sorted` puts a new key in at the place that it answers
  pub insert_sorted-new : (to i : ℕ) → ((j : ℕ) (d : K) → j < length es
      → same key (get_or (keys_of es) j d) ≡ false)
      → i ≤ length (keys_of es) → to ≡ index_before (position_or_len (same key) (keys_of es)) i
      → (to ≤ length es) × (move_index (insert_entry same es key value) (position_or_len (same key)
      (keys_of es)) to ≡ insert es to (key, value))
  insert_sorted-new to i none within place =
      let ks = keys_of es in
      let p = position_or_len (same key) ks in
      let long : length ks ≡ length es = length-map es (λ e. e.0) in
      let most : p ≤ length ks = prefix_len-le-length _ ks in
      let at_end : p ≡ length es =
      ⊎_elim
      (λ found. absurd (true≢false (sym (passes_at_first (same key) ks key found)
      ∙ none p key (omega arith))))
      (λ past. omega arith)
      (cases_lt p (length ks)) in
      let below : i ≤ p = omega arith in
      let goes : to ≡ i = place ∙ (rw (le-ltb p i below) refl) in
      let pushed = absent_pushes same key value es none in
      let moved = push_moved es (key, value) i (omega arith) in
      (omega arith, rw (pushed, at_end, goes) moved)

module _ {K : Type 0} (bytes : K → List ℕ) where
  -- keys whose texts are in byte order are sorted by their bytes
  pub IsSorted-from_order : (ks : List K) → IsInByteOrder (map bytes ks)
      → IsSorted (λ x y. slice_cmp nat_cmp (bytes x) (bytes y)) ks
  IsSorted-from_order ks order = λ k d low within.
      let inside : k + 1 < length (map bytes ks) = omega (arith, length-map ks bytes) in
      let here : k < length ks = omega arith in
      let up = order k (k + 1) (bytes d) (omega arith) inside in
      let before : slice_cmp nat_cmp (bytes (get_or ks k d)) (bytes (get_or ks (k + 1) d)) ≡ Less =
      rw (
        sym (get_or-map bytes ks k d (bytes d) here),
        sym (get_or-map bytes ks (k + 1) d
            (bytes d) within),
      ) up in
      ap is_lt (nat_list_cmp_total.antisymm (bytes (get_or ks (k + 1) d)) (bytes (get_or ks k d))
      ∙ ap ordering_reverse before)

  -- keys that are sorted by their bytes and differ show texts in byte order
  pub IsInByteOrder-from_sorted : (ks : List K)
      → IsSorted (λ x y. slice_cmp nat_cmp (bytes x) (bytes y)) ks
      → IsDistinct (λ x y. bytes_eq (bytes x) (bytes y)) ks → IsInByteOrder (map bytes ks)
  IsInByteOrder-from_sorted ks sorted distinct = λ i j d first within.
      let inside : j < length ks = omega (arith, length-map ks bytes) in
      let here : i < length ks = omega arith in
      ⊎_elim
      (λ at.
      let up = sorted_far (λ x y. is_lt (slice_cmp nat_cmp (bytes x) (bytes y)))
      (ranks_by nat_list_cmp_total bytes) ks sorted i j at.0 (omega arith) inside in
      let apart =
      apart_from_distinct (λ x y. bytes_eq (bytes x) (bytes y)) ks i j at.0 distinct first inside in
      rw (get_or-map bytes ks i at.0 d here, get_or-map bytes ks j at.0 d inside) (before_from
      (bytes (get_or ks i at.0)) (bytes (get_or ks j at.0)) up apart))
      (λ past. absurd (omega arith))
      (slice_get_cases ks j).1

  -- the table shows its keys' texts, which are the old names and this one
  pub record HasGrown (ks : List K) (old : List (List ℕ)) (name : List ℕ)
      (new : List (List ℕ)) : Type 0 where
    pub shown : map bytes ks ≡ new
    pub names : AreNames new
    pub adds : Adds old name new
    pub longer : length new ≡ length old + 1

  -- a new name is no key's text
  pub none_same : (ks : List K) (texts : List (List ℕ)) (key : K) (name : List ℕ)
      → map bytes ks ≡ texts → bytes key ≡ name → (Contains texts name → ⊥)
      → (j : ℕ) (d : K) → j < length ks → bytes_eq (bytes key) (bytes (get_or ks j d)) ≡ false
  none_same ks texts key name seen shows fresh j d within =
      false_from_ne_true (bytes_eq (bytes key) (bytes (get_or ks j d))) (λ equal.
      let here : get_or (map bytes ks) j (bytes d) ≡ name =
      get_or-map bytes ks j d (bytes d) within
      ∙ sym ((bytes_eq-Decides (bytes key) (bytes (get_or ks j d))).0 equal) ∙ shows in
      let inside : j < length (map bytes ks) = omega (arith, length-map ks bytes) in
      fresh (subst (λ xs. Contains xs name) seen (subst (Contains (map bytes ks)) here
      (Contains-get_or (map bytes ks) j (bytes d) inside))))

  -- what `insert_sorted` of a new name leaves: a table of the old names and this one
  pub names_after : (old new : List (K × List ℕ)) (key : K) (name : List ℕ) (to i : ℕ)
      → map bytes (keys_of old) ≡ values_of old → AreNames (values_of old)
      → length (values_of old) < 4096
      → IsName name → bytes key ≡ name → (Contains (values_of old) name → ⊥)
      → i ≤ length (keys_of old) → to ≡ index_before (position_or_len (λ k. bytes_eq (bytes key)
      (bytes k)) (keys_of old)) i
      → new ≡ move_index (insert_entry (λ x y. bytes_eq (bytes x) (bytes y)) old key name)
      (position_or_len (λ k. bytes_eq (bytes key) (bytes k)) (keys_of old)) to
      → IsSorted (λ x y. slice_cmp nat_cmp (bytes x) (bytes y)) (keys_of new)
      → IsDistinct (λ x y. bytes_eq (bytes x) (bytes y)) (keys_of new)
      → HasGrown (keys_of new) (values_of old) name (values_of new)
  names_after old new key name to i seen held room good shows fresh within place entries
      sorted distinct =
      let long : length (keys_of old) ≡ length old = length-map old (λ e. e.0) in
      let as_long : length (values_of old) ≡ length old = length-map old (λ e. e.1) in
      let none : (j : ℕ) (d : K) → j < length old
      → bytes_eq (bytes key) (bytes (get_or (keys_of old) j d)) ≡ false =
      λ j d inside. none_same (keys_of old) (values_of old) key name seen shows fresh j d
      (omega arith) in
      let put =
      insert_sorted-new (λ x y. bytes_eq (bytes x) (bytes y)) old key name to i none within place in
      let fits : to ≤ length (values_of old) = omega arith in
      let grown : new ≡ insert old to (key, name) = entries ∙ put.1 in
      let values : values_of new ≡ insert (values_of old) to name =
      ap values_of grown ∙ map-insert (λ e. e.1) old to (key, name) in
      let texts : map bytes (keys_of new) ≡ insert (values_of old) to name =
      ap (λ es. map bytes (keys_of es)) grown ∙ ap (map bytes) (map-insert (λ e. e.0) old to
      (key, name))
      ∙ map-insert bytes (keys_of old) to key ∙ (λ n. insert (seen n) to (shows n)) in
      let longer : length (values_of new) ≡ length (values_of old) + 1 =
      ap length values ∙ length-insert (values_of old) to name fits in
      record {
        shown = texts ∙ sym values;
        names = record {
          order = subst IsInByteOrder (texts ∙ sym values) (IsInByteOrder-from_sorted
              (keys_of new) sorted distinct);
          each = subst (All IsName) (sym values)
              (All-permutation IsName (name ∷ values_of old) (insert (values_of old) to name)
              (IsPermutation-insert (values_of old) to name)
              (All-cons IsName name (values_of old) good held.each));
          few = omega arith;
        };
        adds = λ text. subst (λ xs. Contains xs text ↔ (Contains (values_of old) text ⊎
            (text ≡ name))) (sym values) (Contains-insert (values_of old) to name text);
        longer = longer;
      }

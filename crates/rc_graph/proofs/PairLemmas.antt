-- An id is put into an ascending list, and a pair into the table of lists.
use Rattle.std.proofs.Common.{◌≡◌, ◌∙◌, ℕ, ◌+◌, ◌<◌, ◌≤◌, ◌⊎◌, ◌↔◌, List, [], ◌∷◌, ◌++◌, Contains}
use Rattle.std.proofs.Common.{inl, inr, arith, sym, subst, slice_index_or, slice_set, length}
use Rattle.std.proofs.Common.{length-set, zero, suc, Ok, Err, ◌-◌, Result, IsOk, OnOk, OnErr}
use Rattle.std.specs.List.{insert}
use Rattle.smallvec.specs.SmallVec.{SmallVec}
use Rattle.std.specs.List.Sorted.{IsBinarySearchResult}
use Rattle.std.specs.Ordering.{nat_cmp}
use Rattle.std.proofs.lemmas.Bool.{cases_order, cases_eq, cases_lt}
use Rattle.std.proofs.lemmas.List.{get_or_default, map-set, set-get_or, get_or-set_same}
use Rattle.std.proofs.lemmas.List.{get_or-set_other}
use Rattle.std.proofs.lemmas.List.Elements.{Contains-append_cases, Contains-append_left}
use Rattle.std.proofs.lemmas.List.Elements.{Contains-append_right, Contains-get_or, Contains-push}
use Rattle.std.proofs.lemmas.List.Elements.{Contains-push_cases}
use Rattle.std.proofs.lemmas.List.Quantifiers.{all_pairs_push}
use Rattle.std.proofs.lemmas.List.Edits.{length-insert, get_or-insert_below, get_or-insert_at}
use Rattle.std.proofs.lemmas.List.Edits.{get_or-insert_above}
use Rattle.std.proofs.lemmas.List.Sorted.{IsPermutation-insert, IsPermutation-sym}
use Rattle.std.proofs.lemmas.List.Sorted.{Contains-permutation, searched}
use Rattle.rc_model.specs.Names.{IsAscending}
use Rattle.rc_model.specs.Graph.{Needs, AreNeeds}
use Rattle.rc_graph.specs.Rows.{rows}
use Rattle.rc_graph.proofs.RowLemmas.{row_at, length-rows}

insert_at : (xs : List ℕ) (i y d k : ℕ) → i ≤ length xs → k ≡ i
    → slice_index_or (insert xs i y) k d ≡ y
insert_at xs i y d k le e = rw e (get_or-insert_at xs i y d le)

insert_above : (xs : List ℕ) (i y d k j : ℕ) → i ≤ length xs → i ≤ j → k ≡ j + 1
    → slice_index_or (insert xs i y) k d ≡ slice_index_or xs j d
insert_above xs i y d k j le h e = rw e (get_or-insert_above xs i y d j h le)

-- an id put in between the lower ones and the higher ones
pub ascending_insert : (xs : List ℕ) (i y : ℕ) → i ≤ length xs → IsAscending xs
    → ((k d : ℕ) → k < i → slice_index_or xs k d < y)
    → ((k d : ℕ) → i ≤ k → k < length xs → y < slice_index_or xs k d) → IsAscending (insert xs i y)
ascending_insert xs i y le up below above a b d h in_range =
    let n : length (insert xs i y) ≡ length xs + 1 = length-insert xs i y le in
    elim (cases_order b i) [
      | inl b_at ↦
          rw (insert_at xs i y d b le b_at, get_or-insert_below xs i y d a (omega arith) le)
          (below a d (omega arith))
      | inr (inl b_low) ↦
          rw (
            get_or-insert_below xs i y d b b_low le,
            get_or-insert_below xs i y d a (omega arith) le,
          ) (up a b d h (omega arith))
      | inr (inr b_high) ↦
          rw (insert_above xs i y d b (b - 1) le (omega arith) (omega arith))
          (elim (cases_order a i) [
            | inl a_at ↦
                rw (insert_at xs i y d a le a_at) (above (b - 1) d (omega arith) (omega arith))
            | inr (inl a_low) ↦
                rw (get_or-insert_below xs i y d a a_low le)
                (up a (b - 1) d (omega arith) (omega arith))
            | inr (inr a_high) ↦
                rw (insert_above xs i y d a (a - 1) le (omega arith) (omega arith))
                (up (a - 1) (b - 1) d (omega arith) (omega arith))
          ])
    ]

-- a place for an id among others: those before it are lower, and those from it on are higher
pub record IsGap (xs : List ℕ) (i y : ℕ) : Type 0 where
  pub within : i ≤ length xs
  pub below : (k d : ℕ) → k < i → slice_index_or xs k d < y
  pub above : (k d : ℕ) → i ≤ k → k < length xs → y < slice_index_or xs k d

-- ascending ones do not fall
rising : (xs : List ℕ) → IsAscending xs → (a b : ℕ) → a ≤ b → b < length xs
    → slice_index_or xs a 0 ≤ slice_index_or xs b 0
rising xs up a b le h = elim (cases_lt a b) [
  | inl low ↦
      let up_here : slice_index_or xs a 0 < slice_index_or xs b 0 = up a b 0 low h in omega arith
  | inr high ↦ let same : a ≡ b = omega arith in rw same (omega arith)
]

-- where a search among ascending ones ended with a find
pub found_searched : (xs slice : List ℕ) (y i : ℕ) → IsAscending xs → slice ≡ xs
    → IsBinarySearchResult (λ x. nat_cmp x y) slice (Ok i) → Contains xs y
found_searched xs slice y i up same search_ended =
    let found =
    searched xs y (Ok i)
    (let P : List ℕ → Type 0 = λ s. IsBinarySearchResult (λ x. nat_cmp x y) s (Ok i) in
    subst P same search_ended) (rising xs up) in
    (i, found.0, get_or_default xs i y 0 found.0 ∙ found.1)

-- one that is there is no new one
pub none_new : (xs : List ℕ) (y : ℕ) → Contains xs y → (s : ℕ)
    → Contains xs s ↔ (Contains xs s ⊎ (s ≡ y))
none_new xs y there s = (
  λ has. inl has,
  λ h. elim h [
    | inl old ↦ old
    | inr same ↦ subst (Contains xs) (sym same) there
  ],
)

-- where a search among ascending ones ended without a find
pub gap_searched : (xs slice : List ℕ) (y i : ℕ) → IsAscending xs → slice ≡ xs
    → IsBinarySearchResult (λ x. nat_cmp x y) slice (Err i) → IsGap xs i y
gap_searched xs slice y i up same search_ended =
    let found =
    searched xs y (Err i)
    (let P : List ℕ → Type 0 = λ s. IsBinarySearchResult (λ x. nat_cmp x y) s (Err i) in
    subst P same search_ended) (rising xs up) in
    record {
      within = found.0;
      below = λ k d h. let low : slice_index_or xs k 0 < y = found.1 k h in
          rw (get_or_default xs k d 0 (let le : i ≤ length xs = found.0 in omega arith)) low;
      above = λ k d h in_range. rw (get_or_default xs k d 0 in_range) (found.2 k h in_range);
    }

-- the id put in there
pub ascending_gap : (xs : List ℕ) (i y : ℕ) → IsAscending xs → IsGap xs i y
    → IsAscending (insert xs i y)
ascending_gap xs i y up gap = ascending_insert xs i y gap.within up gap.below gap.above

-- an id that has such a place is not among them
pub gap_lacks : (xs : List ℕ) (i y : ℕ) → IsGap xs i y → Contains xs y → ⊥
gap_lacks xs i y gap has = elim (cases_lt has.0 i) [
  | inl low ↦ let less : slice_index_or xs has.0 y < y = gap.below has.0 y low in
      omega (arith, has.2)
  | inr high ↦ let more : y < slice_index_or xs has.0 y = gap.above has.0 y (omega arith) has.1 in
      omega (arith, has.2)
]

-- a list of one has that one
pub one_only : (y s : ℕ) → Contains (y ∷ []) s → s ≡ y
one_only y s (zero, low, is) = sym is
one_only y s (suc k, low, is) = absurd (omega arith)

-- the table with a row changed
rows_set : (vectors : List (SmallVec ℕ)) (i : ℕ) (v : SmallVec ℕ)
    → rows (slice_set vectors i v) ≡ slice_set (rows vectors) i v.items
rows_set vectors i v = map-set (λ v. v.items) vectors i v

-- what is in a list after an insert
pub contains_insert : (xs : List ℕ) (i y s : ℕ)
    → Contains (insert xs i y) s ↔ (Contains xs s ⊎ (s ≡ y))
contains_insert xs i y s = (
  λ h. elim (Contains-append_cases (y ∷ []) xs s
      (Contains-permutation (insert xs i y) (y ∷ xs) s
      (IsPermutation-sym (y ∷ xs) (insert xs i y) (IsPermutation-insert xs i y)) h)) [
        | inl one ↦ inr (one_only y s one)
        | inr old ↦ inl old
      ],
  λ h. Contains-permutation (y ∷ xs) (insert xs i y) s (IsPermutation-insert xs i y) (elim h [
    | inl old ↦ Contains-append_right (y ∷ []) xs s old
    | inr same ↦ (0, omega arith, sym same)
  ]),
)

-- a row of a table of which one row was changed
row_same : (lists : List (List ℕ)) (i s : ℕ) (row : List ℕ) → i < length lists → s ≡ i
    → slice_index_or (slice_set lists i row) s [] ≡ row
row_same lists i s row h same = rw same (get_or-set_same lists i row [] h)

row_other : (lists : List (List ℕ)) (i s : ℕ) (row : List ℕ) → (s ≡ i → ⊥)
    → slice_index_or (slice_set lists i row) s [] ≡ slice_index_or lists s []
row_other lists i s row other = get_or-set_other lists i s row [] other

-- ascending lists of services after a change of one
put_lists : (lists : List (List ℕ)) (from : ℕ) (row : List ℕ) → AreNeeds lists → from < length lists
    → IsAscending row → ((t : ℕ) → Contains row t → t < length lists)
    → AreNeeds (slice_set lists from row)
put_lists lists from row needs h up known =
    let n : length (slice_set lists from row) ≡ length lists = length-set lists from row in
    record {
      few = rw n needs.few;
      ascending = λ s. elim (cases_eq s from) [
        | inl same ↦ rw (row_same lists from s row h same) up
        | inr other ↦ rw (row_other lists from s row other) (needs.ascending s)
      ];
      known = λ s t. rw n (elim (cases_eq s from) [
        | inl same ↦ rw (row_same lists from s row h same) (known t)
        | inr other ↦ rw (row_other lists from s row other) (needs.known s t)
      ]);
    }

-- which pairs there are after a change of one row
put_pairs : (lists : List (List ℕ)) (from to : ℕ) (row : List ℕ) → from < length lists
    → ((t : ℕ) → Contains row t ↔ (Needs lists from t ⊎ (t ≡ to))) → (s t : ℕ)
    → Needs (slice_set lists from row) s t ↔ (Needs lists s t ⊎ ((s ≡ from) × (t ≡ to)))
put_pairs lists from to row h members s t = elim (cases_eq s from) [
  | inl same ↦ rw (row_same lists from s row h same) (
    (λ has. elim ((members t).0 has) [ inl old ↦ inl (rw same old) | inr new ↦ inr (same, new) ]),
    (λ has. (members t).1 (elim has [ inl old ↦ inl (rw same at old) | inr new ↦ inr new.1 ])),
  )
  | inr other ↦
      rw (row_other lists from s row other)
      (inl, (λ has. elim has [ inl old ↦ old | inr new ↦ absurd (other new.0) ]))
]

-- the lists of a table of vectors, one of which took a service in, or stayed as it was, out of
-- memory
pub lists_put : {T E : Type 0} (vectors : List (SmallVec ℕ)) (from to : ℕ) (d v : SmallVec ℕ)
    (r : Result T E) → AreNeeds (rows vectors) → from < length vectors → to < length vectors
    → IsAscending v.items
    → OnOk r
    ((t : ℕ) → Contains v.items t ↔ (Contains (slice_index_or vectors from d).items t ⊎ (t ≡ to)))
    → OnErr r (v.items ≡ (slice_index_or vectors from d).items)
    → AreNeeds (rows (slice_set vectors from v))
lists_put vectors from to d v (Ok x) needs from_in to_in up members err =
    let n : length (rows vectors) ≡ length vectors = length-rows vectors in
    rw (rows_set vectors from v)
    (put_lists (rows vectors) from v.items needs (omega arith) up (λ t h. elim ((members t).0 h) [
      | inl old ↦ needs.known from t (rw (row_at vectors from d from_in) old)
      | inr new ↦ omega arith
    ]))
lists_put vectors from to d v (Err e) needs from_in to_in up members err =
    let n : length (rows vectors) ≡ length vectors = length-rows vectors in
    rw (rows_set vectors from v)
    (put_lists (rows vectors) from v.items needs (omega arith) up
    (λ t h. needs.known from t (rw (row_at vectors from d from_in, ← err) h)))

-- its pairs
pub pairs_put : {T E : Type 0} (vectors : List (SmallVec ℕ)) (from to : ℕ) (d v : SmallVec ℕ)
    (r : Result T E) → from < length vectors
    → OnOk r
    ((t : ℕ) → Contains v.items t ↔ (Contains (slice_index_or vectors from d).items t ⊎ (t ≡ to)))
    → OnOk r
    ((s t : ℕ)
    → Needs (rows (slice_set vectors from v)) s t
    ↔ (Needs (rows vectors) s t ⊎ ((s ≡ from) × (t ≡ to))))
pairs_put vectors from to d v (Ok x) from_in members =
    let n : length (rows vectors) ≡ length vectors = length-rows vectors in
    rw (rows_set vectors from v)
    (put_pairs (rows vectors) from to v.items (omega arith)
    (rw (row_at vectors from d from_in) members))
pairs_put vectors from to d v (Err e) from_in members = tt

-- the table as it was, where a row was written as it was
rows_same : (vectors : List (SmallVec ℕ)) (from : ℕ) (d v : SmallVec ℕ) → from < length vectors
    → v.items ≡ (slice_index_or vectors from d).items
    → rows (slice_set vectors from v) ≡ rows vectors
rows_same vectors from d v from_in same =
    rows_set vectors from v
    ∙ (rw (same, ← row_at vectors from d from_in) (set-get_or (rows vectors) from []))

-- its lists are as they were where memory was lacking
pub rows_kept : {T E : Type 0} (vectors : List (SmallVec ℕ)) (from : ℕ) (d v : SmallVec ℕ)
    (r : Result T E) → from < length vectors
    → OnErr r (v.items ≡ (slice_index_or vectors from d).items)
    → OnErr r (rows (slice_set vectors from v) ≡ rows vectors)
rows_kept vectors from d v (Ok x) from_in err = tt
rows_kept vectors from d v (Err e) from_in err = rows_same vectors from d v from_in err

-- and where the pair was there
pub rows_again : {T E : Type 0} (vectors : List (SmallVec ℕ)) (from to : ℕ) (d v : SmallVec ℕ)
    (r : Result T E) → from < length vectors
    → (Contains (slice_index_or vectors from d).items to
    → IsOk r × (v.items ≡ (slice_index_or vectors from d).items)) → Needs (rows vectors) from to
    → IsOk r × (rows (slice_set vectors from v) ≡ rows vectors)
rows_again vectors from to d v r from_in again needs =
    let was = again (rw (row_at vectors from d from_in) at needs) in
    (was.0, rows_same vectors from d v from_in was.1)

-- each vector of the table is ascending
pub row_ascending : (vectors : List (SmallVec ℕ)) (s : ℕ) (d : SmallVec ℕ) → s < length vectors
    → AreNeeds (rows vectors) → IsAscending (slice_index_or vectors s d).items
row_ascending vectors s d h needs = rw (← row_at vectors s d h) (needs.ascending s)

-- an id after lower ones
pub ascending_push : (xs : List ℕ) (y : ℕ) → IsAscending xs → ((s : ℕ) → Contains xs s → s < y)
    → IsAscending (xs ++ y ∷ [])
ascending_push xs y up lower =
    all_pairs_push (λ a b. a < b) xs y up
    (λ k d h. lower (slice_index_or xs k d) (Contains-get_or xs k d h))

-- what is in the list then
pub contains_push : (xs : List ℕ) (y s : ℕ) → Contains (xs ++ y ∷ []) s ↔ (Contains xs s ⊎ (s ≡ y))
contains_push xs y s = (
  λ h. elim (Contains-push_cases xs y s h) [ inl old ↦ inl old | inr new ↦ inr (sym new) ],
  λ h. elim h [
    | inl old ↦ Contains-append_left xs (y ∷ []) s old
    | inr new ↦ subst (Contains (xs ++ y ∷ [])) (sym new) (Contains-push xs y)
  ],
)

-- what is lower than the pairs of a table is lower than those of its vector
pub row_lower : (vectors : List (SmallVec ℕ)) (s : ℕ) (d : SmallVec ℕ) (bound : ℕ)
    → s < length vectors → ((t : ℕ) → Needs (rows vectors) s t → t < bound) → (t : ℕ)
    → Contains (slice_index_or vectors s d).items t → t < bound
row_lower vectors s d bound h lower t has = lower t (rw (row_at vectors s d h) has)

-- where ids are all below one, none is it
pub below_lacks : (ids : List ℕ) (id : ℕ) → ((s : ℕ) → Contains ids s → s < id)
    → Contains ids id → ⊥
below_lacks ids id below has = let low : id < id = below id has in omega arith

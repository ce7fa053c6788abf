-- The lists of a table in one list, each behind its length: one more of them, and that they can be
-- read back.
use Rattle.std.proofs.Common.{◌≡◌, ◌∙◌, ℕ, ◌+◌, ◌<◌, ◌≤◌, List, [], ◌∷◌, ◌++◌, length, take}
use Rattle.std.proofs.Common.{slice_index_or, refl, sym, ap, subst, arith, append_assoc}
use Rattle.std.proofs.lemmas.List.{take_all, take_more, flat_map_more}
use Rattle.smallvec.specs.SmallVec.{SmallVec}
use Rattle.rc_model.specs.Names.{IsAscending}
use Rattle.rc_model.specs.Graph.{AreNeeds}
use Rattle.rc_model.proofs.Lists.{cut_once}
use Rattle.rc_graph.specs.Flat.{flat_of}
use Rattle.rc_graph.specs.Rows.{rows}
use Rattle.rc_graph.proofs.RowLemmas.{length-rows, row_is, row_known, short_list}

-- a list of the table is no longer than there may be services
pub row_few : (vectors : List (SmallVec ℕ)) (s : ℕ) (vector : SmallVec ℕ)
    → AreNeeds (rows vectors) → s < length vectors → vector ≡ slice_index_or vectors s vector
    → length vector.items ≤ 4096
row_few vectors s vector lists within is =
    let row : slice_index_or (rows vectors) s [] ≡ vector.items =
    row_is vectors s vector vector.items within is refl in
    let short = short_list vector.items (length vectors)
    (subst IsAscending row (lists.ascending s))
    (row_known vectors s vector.items (length vectors) row lists.known refl) in
    omega (arith, short, lists.few, length-rows vectors)

-- one more list is in
pub one_flat : (vectors : List (SmallVec ℕ)) (i : ℕ) (vector : SmallVec ℕ) (count : ℕ)
    (list before mid after : List ℕ) → i < length vectors → vector ≡ slice_index_or vectors i vector
    → count ≡ length vector.items → list ≡ vector.items → before ≡ flat_of (take i (rows vectors))
    → mid ≡ before ++ count ∷ [] → after ≡ mid ++ list
    → after ≡ flat_of (take (i + 1) (rows vectors))
one_flat vectors i vector count list before mid after within is counted same so_far begun grown =
    let row : slice_index_or (rows vectors) i [] ≡ vector.items =
    row_is vectors i vector vector.items within is refl in
    let low : i < length (rows vectors) = rw (length-rows vectors) within in
    let more : take (i + 1) (rows vectors) ≡ take i (rows vectors) ++ vector.items ∷ [] =
    take_more (rows vectors) i [] low ∙ ap (λ x. take i (rows vectors) ++ x ∷ []) row in
    let behind : flat_of (take i (rows vectors)) ++ length vector.items ∷ vector.items
    ≡ flat_of (take i (rows vectors) ++ vector.items ∷ []) =
    flat_map_more (λ (x : List ℕ). length x ∷ x) [] (take i (rows vectors)) vector.items in
    let joined : (before ++ count ∷ []) ++ list ≡ before ++ count ∷ list =
    append_assoc before (count ∷ []) list in
    let parts : before ++ count ∷ list
    ≡ flat_of (take i (rows vectors)) ++ length vector.items ∷ vector.items = cc in
    grown ∙ (ap (λ x. x ++ list) begun ∙ (joined ∙ (parts ∙ (behind ∙ ap flat_of (sym more)))))

-- all are
pub all_flat : (vectors : List (SmallVec ℕ)) (i : ℕ) (flat : List ℕ) → length vectors ≤ i
    → flat ≡ flat_of (take i (rows vectors)) → flat ≡ flat_of (rows vectors)
all_flat vectors i flat past so_far =
    so_far ∙ ap flat_of (take_all i (rows vectors) (rw (length-rows vectors) past))

-- the lists can be read back
pub flat_determines : (a b : List (List ℕ)) → flat_of a ≡ flat_of b → a ≡ b
flat_determines [] [] same = refl
flat_determines [] (q ∷ b) same = cc
flat_determines (r ∷ a) [] same = cc
flat_determines (r ∷ a) (q ∷ b) same =
    let long : length r ≡ length q = cc in
    let rest : r ++ flat_of a ≡ q ++ flat_of b = cc in
    let parts = cut_once r q (flat_of a) (flat_of b) long rest in
    let first : r ≡ q = parts.0 in
    let later : a ≡ b = flat_determines a b parts.1 in
    cc

-- Lists in a table of short vectors: what a row holds, and rows that are counted or added.
use Rattle.std.proofs.Common.{◌≡◌, ◌∙◌, inl, inr, ℕ, ◌+◌, ◌<◌, ◌↔◌, List, [], All, Contains, length}
use Rattle.std.proofs.Common.{map, replicate, take, slice_index, slice_index_or, ◌∷◌, ◌++◌, ◌≤◌}
use Rattle.std.proofs.Common.{◌-◌, zero, suc, refl, arith, ap, sym, subst}
use Rattle.smallvec.specs.SmallVec.{SmallVec}
use Rattle.std.proofs.lemmas.List.{get_or-map, length-map, map_more, map_push, replicate_more}
use Rattle.std.proofs.lemmas.List.{take_all}
use Rattle.std.proofs.lemmas.List.Elements.{Contains-get_or}
use Rattle.std.proofs.lemmas.Bool.{cases_lt, cases_eq}
use Rattle.rc_model.specs.Names.{IsAscending}
use Rattle.rc_model.specs.Graph.{Needs, AreServices}
use Rattle.rc_model.proofs.Members.{none_contained}
use Rattle.rc_graph.specs.Needs.{IsReverse}
use Rattle.rc_graph.specs.Rows.{rows}

-- the list in a vector of the table
pub row_at : (vectors : List (SmallVec ℕ)) (s : ℕ) (d : SmallVec ℕ) → s < length vectors
    → slice_index_or (rows vectors) s [] ≡ (slice_index_or vectors s d).items
row_at vectors s d h = get_or-map (λ v. v.items) vectors s d [] h

-- as many lists as vectors
pub length-rows : (vectors : List (SmallVec ℕ)) → length (rows vectors) ≡ length vectors
length-rows vectors = length-map vectors (λ v. v.items)

-- who is in a table that the vectors hold is in what was lent of them
pub lent_known : (lent own : List (SmallVec ℕ)) (table : List (List ℕ)) (s : ℕ) → lent ≡ own
    → rows own ≡ table → s < length table → s < length lent
lent_known lent own table s same is low =
    subst (λ n. s < n)
    (sym (ap (λ (t : List (List ℕ)). length t) is)
    ∙ (length-rows own ∙ sym (ap (λ (t : List (SmallVec ℕ)). length t) same))) low

-- what was lent of one table is as long as another
pub lent_long : (lent own other : List (SmallVec ℕ)) → lent ≡ own
    → length (rows own) ≡ length (rows other) → length lent ≡ length other
lent_long lent own other same few =
    ap (λ (t : List (SmallVec ℕ)). length t) same
    ∙ (sym (length-rows own) ∙ (few ∙ length-rows other))

-- a list that was read from the table
pub row_is : (vectors : List (SmallVec ℕ)) (s : ℕ) (vector : SmallVec ℕ) (list : List ℕ)
    → s < length vectors → vector ≡ slice_index_or vectors s vector → list ≡ vector.items
    → slice_index_or (rows vectors) s [] ≡ list
row_is vectors s vector list within is same =
    row_at vectors s vector within ∙ (ap (λ v. v.items) (sym is) ∙ sym same)

-- what that list has is what the service needs
pub row_needs : (vectors : List (SmallVec ℕ)) (s : ℕ) (list : List ℕ)
    → slice_index_or (rows vectors) s [] ≡ list → (t : ℕ)
    → Needs (rows vectors) s t ↔ Contains list t
row_needs vectors s list e t = (
  λ h. subst (λ (xs : List ℕ). Contains xs t) e h,
  λ h. subst (λ (xs : List ℕ). Contains xs t) (sym e) h,
)

-- and each of them is a service
pub row_known : (vectors : List (SmallVec ℕ)) (s : ℕ) (list : List ℕ) (bound : ℕ)
    → slice_index_or (rows vectors) s [] ≡ list → AreServices (rows vectors)
    → bound ≡ length vectors
    → All (λ t. t < bound) list
row_known vectors s list bound e known few k d within =
    let low : slice_index_or list k d < length (rows vectors) =
    known s _ ((row_needs vectors s list e _).1 (Contains-get_or list k d within)) in
    subst (λ n. slice_index_or list k d < n) (length-rows vectors ∙ sym few) low

-- one more list is counted
pub one_counted : (vectors : List (SmallVec ℕ)) (i : ℕ) (vector : SmallVec ℕ) (count : ℕ)
    (before after : List ℕ) → i < length vectors → vector ≡ slice_index_or vectors i vector
    → count ≡ length vector.items
    → before ≡ map (λ (list : List ℕ). length list) (take i (rows vectors))
    → after ≡ before ++ count ∷ []
    → after ≡ map (λ (list : List ℕ). length list) (take (i + 1) (rows vectors))
one_counted vectors i vector count before after within is counted so_far grown =
    let row : slice_index_or (rows vectors) i [] ≡ vector.items =
    row_is vectors i vector vector.items within is refl in
    grown ∙ (ap (λ (list : List ℕ). list ++ count ∷ []) so_far
    ∙ (ap (λ n. map (λ (list : List ℕ). length list) (take i (rows vectors)) ++ n ∷ [])
    (counted ∙ sym (ap (λ (list : List ℕ). length list) row))
    ∙ sym (map_more (λ (list : List ℕ). length list) (rows vectors) i []
    (rw (length-rows vectors) within))))

-- all are
pub all_counted : (vectors : List (SmallVec ℕ)) (i : ℕ) (counts : List ℕ) → length vectors ≤ i
    → counts ≡ map (λ (list : List ℕ). length list) (take i (rows vectors))
    → counts ≡ map (λ (list : List ℕ). length list) (rows vectors)
all_counted vectors i counts past so_far =
    so_far ∙ ap (map (λ (list : List ℕ). length list))
    (take_all i (rows vectors) (rw (length-rows vectors) past))

-- one more empty list
pub one_empty : (lists new : List (SmallVec ℕ)) (row : SmallVec ℕ) (n : ℕ)
    → rows lists ≡ replicate n [] → new ≡ lists ++ row ∷ [] → row.items ≡ []
    → rows new ≡ replicate (n + 1) []
one_empty lists new row n before grown empty =
    ap rows grown ∙ (map_push (λ (v : SmallVec ℕ). v.items) lists row
    ∙ (ap (λ (t : List (List ℕ)). t ++ row.items ∷ []) before
    ∙ (ap (λ (list : List ℕ). replicate n [] ++ list ∷ []) empty ∙ replicate_more n [])))

-- as many as were asked for
pub all_empty : (lists : List (SmallVec ℕ)) (n asked : ℕ) → rows lists ≡ replicate n [] → n ≤ asked
    → asked ≤ n → rows lists ≡ replicate asked []
all_empty lists n asked before low high = let same : n ≡ asked = omega arith in rw (← same) before

-- empty lists list nothing
pub no_need : (n s t : ℕ) → Needs (replicate n []) s t → ⊥
no_need zero s t there = none_contained t there
no_need (suc n) zero t there = none_contained t there
no_need (suc n) (suc s) t there = no_need n s t there

-- past the end nothing is listed
pub no_row : (needs : List (List ℕ)) (s : ℕ) → length needs ≤ s → slice_index_or needs s [] ≡ []
no_row [] s past = refl
no_row (row ∷ needs) zero past = absurd (omega arith)
no_row (row ∷ needs) (suc s) past = no_row needs s (omega arith)

-- who needs something is a service
pub needer_known : (needs : List (List ℕ)) (s t : ℕ) → Needs needs s t → s < length needs
needer_known needs s t need = elim (cases_lt s (length needs)) [
  | inl within ↦ within
  | inr past ↦
      let empty : Contains [] t =
      subst (λ (xs : List ℕ). Contains xs t) (no_row needs s past) need in
      let bad : empty.0 < 0 = empty.1 in
      absurd (omega arith)
]

-- the lists the other way round name services too
pub reverse_known : (needs needed_by : List (List ℕ)) → IsReverse needs needed_by
    → AreServices needed_by
reverse_known needs needed_by reverse t s h =
    let low : s < length needs = needer_known needs s t ((reverse.same s t).0 h) in
    omega (arith, reverse.few)

-- an ascending list has no number below its place
pub at_least : (list : List ℕ) (k : ℕ) → IsAscending list → k < length list → k ≤ slice_index list k
at_least list zero up within = omega arith
at_least list (suc k) up within =
    let before : k < suc k = omega arith in
    let less : slice_index_or list k 0 < slice_index_or list (suc k) 0 =
    up k (suc k) 0 before within in
    let far : k ≤ slice_index list k = at_least list k up (omega arith) in
    omega (arith, less, far)

-- and no more of them than there are below a bound
pub short_list : (list : List ℕ) (bound : ℕ) → IsAscending list → All (λ (t : ℕ). t < bound) list
    → length list ≤ bound
short_list list bound up known = elim (cases_eq (length list) 0) [
  | inl none ↦ omega arith
  | inr some ↦
      let last = length list - 1 in
      let within : last < length list = omega arith in
      let far : last ≤ slice_index list last = at_least list last up within in
      let low : slice_index list last < bound = known last 0 within in
      omega (arith, far, low)
]

-- Lists in a table of vectors: what a row holds, and empty rows that are added.
use Rattle.std.proofs.Common.{◌≡◌, ◌∙◌, ℕ, ◌+◌, ◌<◌, ◌≤◌, ◌↔◌, List, [], ◌∷◌, ◌++◌, All, Contains}
use Rattle.std.proofs.Common.{length, replicate, slice_index_or, ap, sym, subst, arith}
use Rattle.std.specs.Global.{Vec}
use Rattle.std.proofs.lemmas.List.{get_or-map, length-map, map_push, replicate_more}
use Rattle.std.proofs.lemmas.List.Elements.{Contains-get_or}
use Rattle.rc_model.specs.Graph.{Needs, AreServices}
use Rattle.rc_compile.specs.Rows.{rows}

-- the list in a vector of the table
pub row_at : (vectors : List (Vec ℕ)) (s : ℕ) (d : Vec ℕ) → s < length vectors
    → slice_index_or (rows vectors) s [] ≡ (slice_index_or vectors s d).items
row_at vectors s d h = get_or-map (λ v. v.items) vectors s d [] h

-- as many lists as vectors
pub length-rows : (vectors : List (Vec ℕ)) → length (rows vectors) ≡ length vectors
length-rows vectors = length-map vectors (λ v. v.items)

-- a list that was read from the table
pub row_is : (vectors : List (Vec ℕ)) (s : ℕ) (vector : Vec ℕ) (list : List ℕ)
    → s < length vectors → vector ≡ slice_index_or vectors s vector → list ≡ vector.items
    → slice_index_or (rows vectors) s [] ≡ list
row_is vectors s vector list within is same =
    row_at vectors s vector within ∙ (ap (λ v. v.items) (sym is) ∙ sym same)

-- what that list has is what the entry needs
pub row_needs : (vectors : List (Vec ℕ)) (s : ℕ) (list : List ℕ)
    → slice_index_or (rows vectors) s [] ≡ list → (t : ℕ)
    → Needs (rows vectors) s t ↔ Contains list t
row_needs vectors s list e t = (
  λ h. subst (λ (xs : List ℕ). Contains xs t) e h,
  λ h. subst (λ (xs : List ℕ). Contains xs t) (sym e) h,
)

-- and each of them is an entry
pub row_known : (vectors : List (Vec ℕ)) (s : ℕ) (list : List ℕ) (bound : ℕ)
    → slice_index_or (rows vectors) s [] ≡ list → AreServices (rows vectors)
    → bound ≡ length vectors → All (λ t. t < bound) list
row_known vectors s list bound e known few k d within =
    let low : slice_index_or list k d < length (rows vectors) =
    known s _ ((row_needs vectors s list e _).1 (Contains-get_or list k d within)) in
    subst (λ n. slice_index_or list k d < n) (length-rows vectors ∙ sym few) low

-- one more empty list
pub one_empty : (lists new : List (Vec ℕ)) (row : Vec ℕ) (n : ℕ)
    → rows lists ≡ replicate n [] → new ≡ lists ++ row ∷ [] → row.items ≡ []
    → rows new ≡ replicate (n + 1) []
one_empty lists new row n before grown empty =
    ap rows grown ∙ (map_push (λ (v : Vec ℕ). v.items) lists row
    ∙ (ap (λ (t : List (List ℕ)). t ++ row.items ∷ []) before
    ∙ (ap (λ (list : List ℕ). replicate n [] ++ list ∷ []) empty ∙ replicate_more n [])))

-- all of them
pub all_empty : (lists : List (Vec ℕ)) (n asked : ℕ)
    → rows lists ≡ replicate n [] → n ≤ asked → asked ≤ n → rows lists ≡ replicate asked []
all_empty lists n asked before low high =
    let same : n ≡ asked = omega (arith, low, high) in
    subst (λ k. rows lists ≡ replicate k []) same before

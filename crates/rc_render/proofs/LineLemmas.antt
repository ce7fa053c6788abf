-- Lines of names, name by name.
use Rattle.rc_model.specs.Line.{Lists}
use Rattle.rc_model.proofs.Lists.{one_more}
use Rattle.std.proofs.Common.{◌≡◌, ◌∙◌, ℕ, ◌+◌, ◌<◌, ◌≤◌, List, [], ◌∷◌, ◌++◌, Some, length, map}
use Rattle.std.proofs.Common.{take, slice_get, slice_index_or, get_or, All, arith, refl, ap, sym}
use Rattle.std.proofs.lemmas.List.{map-append, map_push, take_all, take_more}
use Rattle.std.proofs.lemmas.List.Elements.{Contains-get_or}
use Rattle.std.proofs.lemmas.Option.{slice_get_within, slice_get-get_or}
use Rattle.std.specs.List.{flat_map}
use Rattle.rc_render.specs.Lines.{line, name_lines, names_at, names_line}

-- what stands at a place
pub at_place : (names : List (List ℕ)) (s : ℕ) (name : List ℕ) → slice_get names s ≡ Some name
    → slice_index_or names s [] ≡ name
at_place names s name at =
    let within : s < length names = slice_get_within names s name at in
    let read : Some (slice_index_or names s []) ≡ Some name =
    sym (slice_get-get_or names s [] within) ∙ at in
    cc

-- one more name of ids
pub one_more_id : (f : List ℕ → List ℕ) (names : List (List ℕ)) (ids : List ℕ) (i : ℕ)
    (name : List ℕ) → i < length ids → slice_get names (get_or ids i 0) ≡ Some name
    → flat_map f (names_at names (take (i + 1) ids)) ≡ flat_map f (names_at names (take i ids))
    ++ f name
one_more_id f names ids i name within at =
    ap (λ xs. flat_map f (names_at names xs)) (take_more ids i 0 within)
    ∙ (ap (flat_map f)
    (map-append (λ id. slice_index_or names id []) (take i ids) (get_or ids i 0 ∷ []))
    ∙ (one_more f (names_at names (take i ids)) (slice_index_or names (get_or ids i 0) [])
    ∙ ap (λ (n : List ℕ). flat_map f (names_at names (take i ids)) ++ f n)
    (at_place names (get_or ids i 0) name at)))

-- listed ids are below a bound of what is listed
pub listed_below : (P : ℕ → Type 0) (bound : ℕ) (ids : List ℕ) → Lists P ids
    → ((s : ℕ) → P s → s < bound) → All (λ id. id < bound) ids
listed_below P bound ids lists below k d within =
    below _ ((lists.same _).0 (Contains-get_or ids k d within))

-- one more name, one a line
pub one_more_line : {X : Type 0} (f : X → List ℕ) (xs : List X) (i : ℕ) (x : X) → i < length xs
    → x ≡ get_or xs i x
    → name_lines (map f (take (i + 1) xs)) ≡ name_lines (map f (take i xs)) ++ line (f x)
one_more_line {X} f xs i x within is =
    ap (λ (ys : List X). name_lines (map f ys))
    (take_more xs i x within ∙ ap (λ (y : X). take i xs ++ y ∷ []) (sym is))
    ∙ (ap name_lines (map_push f (take i xs) x) ∙ one_more line (map f (take i xs)) (f x))

-- all names, one a line
pub all_lines : {X : Type 0} (f : X → List ℕ) (xs : List X) (n : ℕ) → length xs ≤ n
    → name_lines (map f (take n xs)) ≡ name_lines (map f xs)
all_lines {X} f xs n all = ap (λ (ys : List X). name_lines (map f ys)) (take_all n xs all)

-- no line where there is no id
pub line_of_none : (word : List ℕ) (names : List (List ℕ)) (ids : List ℕ) → length ids ≡ 0
    → names_line word (names_at names ids) ≡ []
line_of_none word names [] none = refl
line_of_none word names (id ∷ ids) none = absurd (omega (arith, none))

-- the line where there is one
pub line_of_some : (word : List ℕ) (names : List (List ℕ)) (ids : List ℕ) → (length ids ≡ 0 → ⊥)
    → names_line word (names_at names ids)
    ≡ line (word ++ flat_map (λ name. 32 ∷ name) (names_at names ids))
line_of_some word names [] some = absurd (some refl)
line_of_some word names (id ∷ ids) some = refl

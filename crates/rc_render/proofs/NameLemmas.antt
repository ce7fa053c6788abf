-- The names of a set, service by service, and texts that grow by a name or a comma.
use Rattle.std.proofs.Common.{◌≡◌, ◌∙◌, ℕ, zero, suc, ◌+◌, ◌<◌, Bool, true, false, List, []}
use Rattle.std.proofs.Common.{◌∷◌, ◌++◌, Some, length, take, slice_get, slice_index_or, get_or}
use Rattle.std.proofs.Common.{refl, ap, sym, arith, append_assoc, add-one}
use Rattle.std.proofs.lemmas.List.{map-append, take_more}
use Rattle.std.proofs.lemmas.Option.{slice_get_within}
use Rattle.std.specs.List.{flat_map, join_with_byte}
use Rattle.rc_model.specs.Names.{Has}
use Rattle.rc_model.proofs.SetMembers.{has_within}
use Rattle.rc_model.proofs.Lists.{one_more}
use Rattle.rc_render.specs.Lines.{names_at}
use Rattle.rc_render.specs.Names.{names_in}

-- one more name of ids
pub one_more_id : (f : List ℕ → List ℕ) (names : List (List ℕ)) (ids : List ℕ) (i : ℕ)
    → i < length ids
    → flat_map f (names_at names (take (i + 1) ids)) ≡ flat_map f (names_at names (take i ids))
    ++ f (slice_index_or names (get_or ids i 0) [])
one_more_id f names ids i within =
    ap (λ xs. flat_map f (names_at names xs)) (take_more ids i 0 within)
    ∙ (ap (flat_map f)
    (map-append (λ id. slice_index_or names id []) (take i ids) (get_or ids i 0 ∷ []))
    ∙ one_more f (names_at names (take i ids)) (slice_index_or names (get_or ids i 0) []))

has_suc : (names : List (List ℕ)) (set : List Bool) (i : ℕ) (name : List ℕ)
    → slice_get names i ≡ Some name → Has set i
    → names_in (take (suc i) names) (take (suc i) set)
    ≡ names_in (take i names) (take i set) ++ name ∷ []
has_suc [] set i name at has =
    let none : i < 0 = slice_get_within [] i name at in absurd (omega arith)
has_suc (n ∷ names) [] i name at has =
    let none : i < 0 = has_within [] i has in absurd (omega arith)
has_suc (n ∷ names) (true ∷ set) zero name at has = let same : Some n ≡ Some name = at in cc
has_suc (n ∷ names) (false ∷ set) zero name at has = let bad : false ≡ true = has in cc
has_suc (n ∷ names) (true ∷ set) (suc i) name at has =
    ap (λ (xs : List (List ℕ)). n ∷ xs) (has_suc names set i name at has)
has_suc (n ∷ names) (false ∷ set) (suc i) name at has = has_suc names set i name at has

-- one more name of a set that has the next service
pub names_in_has : (names : List (List ℕ)) (set : List Bool) (i : ℕ) (name : List ℕ)
    → slice_get names i ≡ Some name → Has set i
    → names_in (take (i + 1) names) (take (i + 1) set)
    ≡ names_in (take i names) (take i set) ++ name ∷ []
names_in_has names set i name at has = rw add-one (has_suc names set i name at has)

lacks_suc : (names : List (List ℕ)) (set : List Bool) (i : ℕ) → i < length names → i < length set
    → (Has set i → ⊥)
    → names_in (take (suc i) names) (take (suc i) set) ≡ names_in (take i names) (take i set)
lacks_suc [] set i low within lacks = absurd (omega arith)
lacks_suc (n ∷ names) [] i low within lacks = absurd (omega arith)
lacks_suc (n ∷ names) (true ∷ set) zero low within lacks = absurd (lacks refl)
lacks_suc (n ∷ names) (false ∷ set) zero low within lacks = refl
lacks_suc (n ∷ names) (true ∷ set) (suc i) low within lacks =
    let l : i < length names = omega arith in let w : i < length set = omega arith in
    ap (λ (xs : List (List ℕ)). n ∷ xs) (lacks_suc names set i l w lacks)
lacks_suc (n ∷ names) (false ∷ set) (suc i) low within lacks =
    let l : i < length names = omega arith in let w : i < length set = omega arith in
    lacks_suc names set i l w lacks

-- no more name of a set that lacks the next service
pub names_in_lacks : (names : List (List ℕ)) (set : List Bool) (i : ℕ) → i < length names
    → i < length set → (Has set i → ⊥)
    → names_in (take (i + 1) names) (take (i + 1) set) ≡ names_in (take i names) (take i set)
names_in_lacks names set i low within lacks = rw add-one (lacks_suc names set i low within lacks)

-- those up to the shorter end are all
pub names_in_all : (names : List (List ℕ)) (set : List Bool) (n : ℕ)
    → (n < length names → n < length set → ⊥)
    → names_in (take n names) (take n set) ≡ names_in names set
names_in_all [] set zero out = refl
names_in_all [] set (suc n) out = refl
names_in_all (name ∷ names) [] zero out = refl
names_in_all (name ∷ names) [] (suc n) out = refl
names_in_all (name ∷ names) (flag ∷ set) zero out =
    let a : 0 < length (name ∷ names) = omega arith in
    let b : 0 < length (flag ∷ set) = omega arith in absurd (out a b)
names_in_all (name ∷ names) (true ∷ set) (suc n) out =
    ap (λ (xs : List (List ℕ)). name ∷ xs)
    (names_in_all names set n (λ l w. let a : suc n < length (name ∷ names) = omega arith in
    let b : suc n < length (true ∷ set) = omega arith in out a b))
names_in_all (name ∷ names) (false ∷ set) (suc n) out =
    names_in_all names set n (λ l w. let a : suc n < length (name ∷ names) = omega arith in
    let b : suc n < length (false ∷ set) = omega arith in out a b)

-- whether a list is empty
abbrev pub is_none : List (List ℕ) → Bool
is_none [] = true
is_none (x ∷ xs) = false

-- a name after others, and a comma before it where it is not the first
abbrev pub with_comma : Bool → List ℕ → List ℕ
with_comma true name = name
with_comma false name = 44 ∷ name

pub none_more : (xs : List (List ℕ)) (x : List ℕ) → is_none (xs ++ x ∷ []) ≡ false
none_more [] x = refl
none_more (y ∷ xs) x = refl

-- one more name between commas
pub join_more : (xs : List (List ℕ)) (x : List ℕ)
    → join_with_byte 44 (xs ++ x ∷ []) ≡ join_with_byte 44 xs ++ with_comma (is_none xs) x
join_more [] x = refl
join_more (y ∷ []) x = refl
join_more (y ∷ z ∷ xs) x =
    ap (λ (t : List ℕ). y ++ 44 ∷ t) (join_more (z ∷ xs) x)
    ∙ sym (append_assoc y (44 ∷ join_with_byte 44 (z ∷ xs)) (44 ∷ x))

-- a text that grew in its last part
pub grown : (new old front word part longer more : List ℕ) → new ≡ old ++ more
    → old ≡ front ++ (word ++ part) → longer ≡ part ++ more → new ≡ front ++ (word ++ longer)
grown new old front word part longer more grows was is =
    grows ∙ (ap (λ (t : List ℕ). t ++ more) was
    ∙ (append_assoc front (word ++ part) more
    ∙ (ap (λ (t : List ℕ). front ++ t) (append_assoc word part more)
    ∙ ap (λ (t : List ℕ). front ++ (word ++ t)) (sym is))))

-- a text that ends
pub ended : (new old front word part whole more : List ℕ) → new ≡ old ++ more
    → old ≡ front ++ (word ++ part) → part ≡ whole → new ≡ front ++ ((word ++ whole) ++ more)
ended new old front word part whole more grows was is =
    grows ∙ (ap (λ (t : List ℕ). t ++ more) was
    ∙ (append_assoc front (word ++ part) more
    ∙ ap (λ (t : List ℕ). front ++ ((word ++ t) ++ more)) is))

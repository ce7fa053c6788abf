-- Copies of lists, element by element.
use Rattle.std.proofs.Common.{◌≡◌, ◌∙◌, ◌<◌, ℕ, List, All, Some, length, take}
use Rattle.std.proofs.Common.{get_or, slice_get, arith, ap, subst, sym}
use Rattle.std.proofs.lemmas.List.{get_or-take, length-take}
use Rattle.std.proofs.lemmas.Option.{get_or_from_slice_get, slice_get_within}
use Rattle.rc_model.specs.Names.{IsBefore, IsInByteOrder}

-- a name comes after all those before it
pub before_next : (names copied : List (List ℕ)) (i : ℕ) (name : List ℕ) → IsInByteOrder names
    → slice_get names i ≡ Some name → copied ≡ take i names
    → All (λ other. IsBefore other name) copied
before_next names copied i name order there same = λ k d within.
    let inside : i < length names = slice_get_within names i name there in
    let low : k < i = omega (arith, ap length same, length-take i names) in
    let first : get_or copied k d ≡ get_or names k d =
    ap (λ (ns : List (List ℕ)). get_or ns k d) same ∙ get_or-take i names k d low in
    let here : get_or names i d ≡ name = get_or_from_slice_get names i name d there in
    subst (λ (n : List ℕ). IsBefore n name) (sym first)
    (subst (IsBefore (get_or names k d)) here (order k i d low inside))

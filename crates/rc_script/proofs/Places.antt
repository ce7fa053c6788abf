-- The place of a name among names in byte order.
use Rattle.std.proofs.Common.{◌≡◌, ◌∙◌, ◌<◌, ℕ, zero, suc, true, false, cond, List, [], ◌∷◌, length}
use Rattle.std.proofs.Common.{get_or, Option, Some, None, Contains, arith, refl, sym, ap, subst}
use Rattle.std.specs.Prelude.{IfSome, IfNone}
use Rattle.std.specs.Option.{option_map}
use Rattle.std.proofs.lemmas.Bool.{false_from_ne_true}
use Rattle.std.proofs.lemmas.Option.{get_or_from_slice_get, slice_get_within}
use Rattle.std.proofs.lemmas.Slice.Eq.{bytes_eq-Decides}
use Rattle.std.specs.List.{slice_get}
use Rattle.std.specs.Str.{bytes_eq}
use Rattle.rc_model.specs.Names.{IsBefore, IsInByteOrder}
use Rattle.rc_model.proofs.ByteOrder.{not_before_itself}
use Rattle.rc_script.specs.Events.{place_of}

place_at : (names : List (List ℕ)) → IsInByteOrder names → (k : ℕ) (name : List ℕ)
    → slice_get names k ≡ Some name → place_of names name ≡ Some k
place_at [] order k name at = let bad : ◌≡◌ {A = Option (List ℕ)} None (Some name) = at in cc
place_at (first ∷ names) order zero name at =
    let same : Some first ≡ Some name = at in
    let eq : bytes_eq first name ≡ true = (bytes_eq-Decides first name).1 cc in
    ap (λ b. cond b (Some 0) (option_map (λ place. suc place) (place_of names name))) eq
place_at (first ∷ names) order (suc k) name at =
    let behind : slice_get names k ≡ Some name = at in
    let within : k < length names = slice_get_within names k name behind in
    let before : IsBefore first (get_or names k name) =
    order 0 (suc k) name (omega arith) (omega arith) in
    let before_it : IsBefore first name =
    subst (IsBefore first) (get_or_from_slice_get names k name name behind) before in
    let other : bytes_eq first name ≡ false =
    false_from_ne_true (bytes_eq first name)
    (λ e. not_before_itself name
    (subst (λ x. IsBefore x name) ((bytes_eq-Decides first name).0 e) before_it)) in
    ap (λ b. cond b (Some 0) (option_map (λ place. suc place) (place_of names name))) other
    ∙ ap (option_map (λ place. suc place))
    (place_at names (λ i j d lower inside. order (suc i) (suc j) d (omega arith) (omega arith)) k
    name behind)

no_place : (names : List (List ℕ)) (name : List ℕ) → (Contains names name → ⊥)
    → place_of names name ≡ None
no_place [] name missing = refl
no_place (first ∷ names) name missing =
    let other : bytes_eq first name ≡ false =
    false_from_ne_true (bytes_eq first name)
    (λ e. missing (0, omega arith, (bytes_eq-Decides first name).0 e)) in
    ap (λ b. cond b (Some 0) (option_map (λ place. suc place) (place_of names name))) other
    ∙ ap (option_map (λ place. suc place))
    (no_place names name (λ there. missing (suc there.0, omega (arith, there.1), there.2)))

-- what a search in the table answers is the place
pub place_is : (names : List (List ℕ)) (name : List ℕ) (found : Option ℕ) → IsInByteOrder names
    → IfSome found (λ id. slice_get names id ≡ Some name)
    → IfNone found (Contains names name → ⊥) → found ≡ place_of names name
place_is names name None order found missing = sym (no_place names name missing)
place_is names name (Some id) order found missing = sym (place_at names order id name found)

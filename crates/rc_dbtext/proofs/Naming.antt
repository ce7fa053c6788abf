-- Names at places, and places of names.
use Rattle.std.proofs.Common.{◌≡◌, ◌∙◌, ℕ, ◌<◌, ◌↔◌, List, [], ◌∷◌, length, map, get_or, slice_get}
use Rattle.std.proofs.Common.{Some, All, Contains, arith, sym, ap, subst}
use Rattle.std.proofs.lemmas.List.{get_or-map, length-map}
use Rattle.std.proofs.lemmas.List.Elements.{Contains-get_or, All-contains}
use Rattle.std.proofs.lemmas.Option.{slice_get_within, get_or_from_slice_get}
use Rattle.rc_model.specs.Names.{IsAscending, IsInByteOrder}
use Rattle.rc_dbtext.specs.Parts.{IsNamed}
use Rattle.rc_dbtext.specs.Spelling.{name_at}
use Rattle.rc_model.proofs.ByteOrder.{same_names}
use Rattle.rc_model.proofs.Members.{place_of}

-- what stands at a place of names is its name
pub at_named : (names : List (List ℕ)) (s : ℕ) (name : List ℕ) → slice_get names s ≡ Some name
    → name_at names s ≡ name
at_named names s name at = get_or_from_slice_get names s name [] at

-- members have their images among the images
pub mapped_member : {X Y : Type 0} (f : X → Y) (xs : List X) (x : X) → Contains xs x
    → Contains (map f xs) (f x)
mapped_member f xs x (k, within, is) =
    (k, omega (arith, length-map xs f), get_or-map f xs k x (f x) within ∙ ap f is)

-- and an image is that of some member
pub member_mapped : {X Y : Type 0} (f : X → Y) (xs : List X) (y : Y) → Contains (map f xs) y
    → (x : X) × Contains xs x × (f x ≡ y)
member_mapped f [] y (k, within, is) = absurd (omega arith)
member_mapped f (x ∷ xs) y (k, within, is) =
    let inside : k < length (x ∷ xs) = omega (arith, length-map xs f) in (
      get_or (x ∷ xs) k x,
      Contains-get_or (x ∷ xs) k x inside,
      sym (get_or-map f (x ∷ xs) k x y inside) ∙ is,
    )

-- names at ascending places are in order
pub names_ascend : (names : List (List ℕ)) (ids : List ℕ) → IsInByteOrder names → IsAscending ids
    → All (λ id. id < length names) ids → IsInByteOrder (map (name_at names) ids)
names_ascend names ids order ascending within = λ i j d low inside.
    let high : j < length ids = omega (arith, length-map ids (name_at names)) in
    let lower : i < length ids = omega arith in
    rw (get_or-map (name_at names) ids i 0 d lower, get_or-map (name_at names) ids j 0 d high)
    (order (get_or ids i 0) (get_or ids j 0) [] (ascending i j 0 low high) (within j 0 high))

module _ (names texts : List (List ℕ)) (ids : List ℕ) (known : All (Contains names) texts)
    (same : (t : ℕ) → Contains ids t ↔ IsNamed names texts t) where
  there : (text : List ℕ) → Contains (map (name_at names) ids) text → Contains texts text
  there text has =
      let found = member_mapped (name_at names) ids text has in
      let named = (same found.0).0 found.1 in
      subst (Contains texts) (sym (at_named names found.0 named.0 named.1) ∙ found.2) named.2

  back : (text : List ℕ) → Contains texts text → Contains (map (name_at names) ids) text
  back text has =
      let at = place_of names text (All-contains (Contains names) texts text known has) in
      subst (Contains (map (name_at names) ids)) (at_named names at.0 text at.1)
      (mapped_member (name_at names) ids at.0 ((same at.0).1 (text, at.1, has)))

  -- ascending places of the names that texts in order name have those texts as their names
  pub named_back : IsInByteOrder names → IsInByteOrder texts → IsAscending ids
      → map (name_at names) ids ≡ texts
  named_back order ordered ascending =
      same_names (map (name_at names) ids) texts
      (names_ascend names ids order ascending (λ k d within.
      let named = (same (get_or ids k d)).0 (Contains-get_or ids k d within) in
      slice_get_within names (get_or ids k d) named.0 named.1))
      ordered (λ text. (there text, back text))

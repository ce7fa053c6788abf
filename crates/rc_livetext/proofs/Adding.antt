-- One bundle more of a state.
use Rattle.std.proofs.Common.{◌≡◌, ◌∙◌, ◌↔◌, inl, inr, ℕ, zero, suc, ◌+◌, ◌-◌, ◌<◌, Bool, IsTrue}
use Rattle.std.proofs.Common.{List, [], ◌∷◌, ◌++◌, Some, length, map, get_or, slice_get, refl, sym}
use Rattle.std.proofs.Common.{ap, subst, arith, append_assoc, length-append}
use Rattle.std.proofs.lemmas.Bool.{cases_lt}
use Rattle.std.proofs.lemmas.List.{append-nil, map-append, length-map}
use Rattle.std.proofs.lemmas.List.Elements.{All-push}
use Rattle.std.proofs.lemmas.Option.{slice_get_within, get_or_from_slice_get}
use Rattle.std.proofs.Math.ListN.{get_or-append}
use Rattle.rc_model.specs.Names.{IsBefore, IsInByteOrder}
use Rattle.rc_dbtext.specs.Words.{BundleText}
use Rattle.rc_dbtext.specs.Form.{spells}
use Rattle.rc_livetext.specs.Text.{OfBundle, IsBundleText, spell}
use Rattle.rc_livetext.specs.Following.{MayAdd}
use Rattle.rc_livetext.specs.Held.{AreBundles, HasBundles}
use Rattle.rc_livetext.proofs.ManyLines.{first_once}
use Rattle.rc_model.proofs.WordOrders.{in_order_by_next}

-- names in order, one more after the last
push_order : (xs : List (List ℕ)) (x last : List ℕ) → IsInByteOrder xs
    → slice_get xs (length xs - 1) ≡ Some last → IsBefore last x → IsInByteOrder (xs ++ x ∷ [])
push_order xs x last order at low =
    in_order_by_next (xs ++ x ∷ []) (length xs + 1) next (omega (arith, length-append xs (x ∷ [])))
  where
    next : (k : ℕ) (d : List ℕ) → k + 1 < length xs + 1
        → IsBefore (get_or (xs ++ x ∷ []) k d) (get_or (xs ++ x ∷ []) (k + 1) d)
    next k d within =
        let first : get_or (xs ++ x ∷ []) k d ≡ get_or xs k d =
        get_or-append xs (x ∷ []) d k (omega arith) in
        elim (cases_lt (k + 1) (length xs)) [
          | inl inside ↦
              let second : get_or (xs ++ x ∷ []) (k + 1) d ≡ get_or xs (k + 1) d =
              get_or-append xs (x ∷ []) d (k + 1) inside in
              rw (first, second) (order k (k + 1) d (omega arith) inside)
          | inr past ↦
              let end : k + 1 ≡ length xs = omega arith in
              let here : length xs - 1 ≡ k = omega arith in
              let is : get_or xs k d ≡ last = ap (λ (i : ℕ). get_or xs i d) (sym here)
              ∙ get_or_from_slice_get xs (length xs - 1) last d at in
              let is_x : get_or (xs ++ x ∷ []) (k + 1) d ≡ x =
              ap (λ (i : ℕ). get_or (xs ++ x ∷ []) i d) end ∙ at_end xs x d in
              rw (first, is, is_x) low
        ]
      where
        at_end : (ys : List (List ℕ)) (y e : List ℕ) → get_or (ys ++ y ∷ []) (length ys) e ≡ y
        at_end [] y e = refl
        at_end (z ∷ ys) y e = at_end ys y e

-- a bundle may follow where its name stands after the last one's, and nowhere else
pub may_follow : (bs : List BundleText) (b last : BundleText) (answer : Bool) → AreBundles bs
    → IsBundleText b → length bs < 4096 → slice_get bs (length bs - 1) ≡ Some last
    → (IsTrue answer ↔ IsBefore last.name b.name) → IsTrue answer ↔ MayAdd bs b
may_follow bs b last answer are is few at told = (
  λ yes. record {
    is = is;
    few = few;
    order =
        subst IsInByteOrder (sym (map-append (λ (c : BundleText). c.name) bs (b ∷ [])))
        (push_order (map (λ (c : BundleText). c.name) bs) b.name last.name are.order
        named (told.0 yes));
  },
  λ may. told.1 (behind may.order),
)
  where
    within : length bs - 1 < length bs
    within = slice_get_within bs (length bs - 1) last at

    name_at : (cs : List BundleText) (k : ℕ) → slice_get cs k ≡ Some last
        → slice_get (map (λ (c : BundleText). c.name) cs) k ≡ Some last.name
    name_at [] k there = let none : k < 0 = slice_get_within [] k last there in absurd (omega arith)
    name_at (c ∷ cs) zero there = let same : Some c ≡ Some last = there in
        let is_it : c ≡ last = cc in ap (λ (e : BundleText). Some e.name) is_it
    name_at (c ∷ cs) (suc k) there = name_at cs k there

    named : slice_get (map (λ (c : BundleText). c.name) bs)
        (length (map (λ (c : BundleText). c.name) bs) - 1) ≡ Some last.name
    named =
        ap (λ (n : ℕ). slice_get (map (λ (c : BundleText). c.name) bs) (n - 1))
        (length-map bs (λ (c : BundleText). c.name)) ∙ name_at bs (length bs - 1) at

    behind : IsInByteOrder (map (λ (c : BundleText). c.name) (bs ++ b ∷ []))
        → IsBefore last.name b.name
    behind order =
        let names : List (List ℕ) = map (λ (c : BundleText). c.name) bs in
        let parts : IsInByteOrder (names ++ b.name ∷ []) =
        subst IsInByteOrder (map-append (λ (c : BundleText). c.name) bs (b ∷ [])) order in
        let size : length names ≡ length bs = length-map bs (λ (c : BundleText). c.name) in
        let low : IsBefore (get_or (names ++ b.name ∷ []) (length bs - 1) [])
        (get_or (names ++ b.name ∷ []) (length names) []) = parts (length bs - 1) (length names) []
        (omega (arith, within, size)) (omega (arith, length-append names (b.name ∷ []))) in
        let first : get_or (names ++ b.name ∷ []) (length bs - 1) [] ≡ last.name =
        get_or-append names (b.name ∷ []) [] (length bs - 1) (omega (arith, within, size))
        ∙ get_or_from_slice_get names (length bs - 1) last.name []
        (name_at bs (length bs - 1) at) in
        subst (IsBefore last.name) (at_end names b.name [])
        (subst (λ (n : List ℕ). IsBefore n (get_or (names ++ b.name ∷ []) (length names) [])) first
        low)
      where
        at_end : (ys : List (List ℕ)) (y e : List ℕ) → get_or (ys ++ y ∷ []) (length ys) e ≡ y
        at_end [] y e = refl
        at_end (z ∷ ys) y e = at_end ys y e

-- one line more was read
pub one_more : (bytes rest behind : List ℕ) (bs : List BundleText) (b : BundleText)
    → HasBundles bytes bs rest → MayAdd bs b → rest ≡ spell (OfBundle b) ++ behind
    → HasBundles bytes (bs ++ b ∷ []) behind
one_more bytes rest behind bs b has may next = (
  record {
    order = may.order;
    few = omega (arith, may.few, length-append bs (b ∷ []));
    each =
        All-push IsBundleText bs b has.0.each may.is;
  },
  has.1 ∙ (ap (λ (t : List ℕ). spells spell (map OfBundle bs) ++ t) next ∙ sym (grows bs)),
)
  where
    grows : (cs : List BundleText) → spells spell (map OfBundle (cs ++ b ∷ [])) ++ behind
        ≡ spells spell (map OfBundle cs) ++ (spell (OfBundle b) ++ behind)
    grows [] = ap (λ (t : List ℕ). t ++ behind) (append-nil (spell (OfBundle b)))
    grows (c ∷ cs) =
        append_assoc (spell (OfBundle c)) (spells spell (map OfBundle (cs ++ b ∷ []))) behind
        ∙ (ap (λ (t : List ℕ). spell (OfBundle c) ++ t) (grows cs)
        ∙ sym (append_assoc (spell (OfBundle c)) (spells spell (map OfBundle cs))
        (spell (OfBundle b) ++ behind)))

-- two bundles at the beginning are the same
pub same_bundle : (a b : BundleText) (x y : List ℕ) → IsBundleText a → IsBundleText b
    → spell (OfBundle a) ++ x ≡ spell (OfBundle b) ++ y → a ≡ b
same_bundle a b x y is_a is_b same =
    let lines : OfBundle a ≡ OfBundle b =
    (first_once (OfBundle a) (OfBundle b) x y is_a is_b same).0 in cc

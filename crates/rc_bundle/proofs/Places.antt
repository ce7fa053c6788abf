-- Bundles by their places in a table.
use Rattle.std.proofs.Common.{◌≡◌, ℕ, zero, suc, ◌<◌, Bool, true, false, cond, List, [], ◌∷◌}
use Rattle.std.proofs.Common.{Option, Some, None, arith, refl, sym, ap, subst, ◌∙◌}
use Rattle.std.proofs.lemmas.Bool.{false_from_ne_true}
use Rattle.std.proofs.lemmas.Option.{slice_get-map}
use Rattle.std.proofs.lemmas.Slice.Eq.{bytes_eq-Decides}
use Rattle.std.specs.List.{slice_get}
use Rattle.std.specs.Option.{option_map}
use Rattle.std.specs.Str.{bytes_eq}
use Rattle.rc_model.specs.Names.{IsBefore, IsInByteOrder}
use Rattle.rc_model.specs.Database.{Bundles, names_of, value_of}
use Rattle.rc_model.proofs.ByteOrder.{before_at, not_before_itself, order_tail}
use Rattle.rc_db.proofs.Values.{value_of-some}

-- of two places the first has the lesser name
pub at_order : (t : Bundles) → IsInByteOrder (names_of t) → (k l : ℕ) (a b : List ℕ × List Bool)
    → k < l → slice_get t k ≡ Some a → slice_get t l ≡ Some b → IsBefore a.0 b.0
at_order t order k l a b first at_k at_l =
    before_at (names_of t) k l a.0 b.0 order (named k a at_k) (named l b at_l) first
  where
    named : (i : ℕ) (bundle : List ℕ × List Bool) → slice_get t i ≡ Some bundle
        → slice_get (names_of t) i ≡ Some bundle.0
    named i bundle at = slice_get-map (λ x. x.0) t i ∙ ap (option_map (λ x. x.0)) at

-- what stands at a place is the set of the name there
pub value_at : (t : Bundles) → IsInByteOrder (names_of t)
    → (k : ℕ) (name : List ℕ) (set : List Bool) → slice_get t k ≡ Some (name, set)
    → value_of t name ≡ Some set
value_at [] order k name set at =
    let bad : ◌≡◌ {A = Option (List ℕ × List Bool)} None (Some (name, set)) = at in cc
value_at (bundle ∷ t) order zero name set at =
    let same : Some bundle ≡ Some (name, set) = at in
    let name_is : bundle.0 ≡ name =
    ap (λ (o : List ℕ × List Bool). o.0) (let e : bundle ≡ (name, set) = cc in e) in
    let set_is : bundle.1 ≡ set =
    ap (λ (o : List ℕ × List Bool). o.1) (let e : bundle ≡ (name, set) = cc in e) in
    let eq : bytes_eq name bundle.0 ≡ true = (bytes_eq-Decides name bundle.0).1 (sym name_is) in
    ap (λ b. cond b (Some bundle.1) (value_of t name)) eq ∙ ap Some set_is
value_at (bundle ∷ t) order (suc k) name set at =
    let before : IsBefore bundle.0 name =
    at_order (bundle ∷ t) order 0 (suc k) bundle (name, set) (omega arith) refl at in
    let other : bytes_eq name bundle.0 ≡ false =
    false_from_ne_true (bytes_eq name bundle.0)
    (λ e. not_before_itself name
    (subst (λ x. IsBefore x name) (sym ((bytes_eq-Decides name bundle.0).0 e)) before)) in
    ap (λ b. cond b (Some bundle.1) (value_of t name)) other
    ∙ value_at t (order_tail bundle.0 (names_of t) order) k name set at

-- a name that stands nowhere has no set
pub no_value : (t : Bundles) (name : List ℕ)
    → ((k : ℕ) (set : List Bool) → slice_get t k ≡ Some (name, set) → ⊥) → value_of t name ≡ None
no_value t name nowhere = by (value_of t name) refl
  where
    by : (value : Option (List Bool)) → value_of t name ≡ value → value ≡ None
    by None e = refl
    by (Some set) e = let at = value_of-some t name set e in absurd (nowhere at.0 set at.1)

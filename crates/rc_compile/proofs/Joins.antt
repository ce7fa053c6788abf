-- Sets that are joined along a graph, each once those that it takes are whole.
use Rattle.std.proofs.Common.{◌≡◌, ◌≢◌, ◌∙◌, ℕ, ◌<◌, ◌≤◌, ◌⊎◌, ◌↔◌, inl, inr, List, [], ◌∷◌, ◌++◌}
use Rattle.std.proofs.Common.{Bool, length, take, slice_index_or, get_or, Contains, All, set, refl}
use Rattle.std.proofs.Common.{sym, ap, subst, arith}
use Rattle.std.proofs.lemmas.Bool.{cases_eq}
use Rattle.std.proofs.lemmas.List.{get_or-set_same, get_or-set_other, get_or-take, get_or_default}
use Rattle.std.proofs.lemmas.List.{length-take, take_all}
use Rattle.std.proofs.lemmas.List.Elements.{Contains-push, Contains-push_cases}
use Rattle.std.proofs.lemmas.List.Elements.{Contains-append_left, Contains-get_or}
use Rattle.rc_model.specs.Names.{Has, Holds}
use Rattle.rc_model.specs.Graph.{Needs, EachNeedsNext, UpFrom}
use Rattle.rc_graph.specs.Order.{IsOrder}
use Rattle.rc_compile.specs.Joining.{HasJoined, HasAlong}

-- what one reaches or is, it is, or what it needs reaches or is
pub up_by_needs : (needs : List (List ℕ)) (s t : ℕ) → UpFrom needs (λ x. x ≡ s) t
    → (t ≡ s) ⊎ ((r : ℕ) × Needs needs s r × UpFrom needs (λ x. x ≡ r) t)
up_by_needs needs s t (inl same) = inl same
up_by_needs needs s t (inr (x, same, ([], path))) =
    inr (t, subst (λ y. Needs needs y t) same path.0, inl refl)
up_by_needs needs s t (inr (x, same, (r ∷ rest, path))) =
    inr (r, subst (λ y. Needs needs y r) same path.0, inr (r, refl, (rest, path.1)))

pub up_from_needs : (needs : List (List ℕ)) (s r t : ℕ) → Needs needs s r
    → UpFrom needs (λ x. x ≡ r) t → UpFrom needs (λ x. x ≡ s) t
up_from_needs needs s r t need (inl same) =
    inr (s, refl, ([], (subst (λ y. Needs needs s y) (sym same) need, tt)))
up_from_needs needs s r t need (inr (x, same, path)) =
    inr (
      s,
      refl,
      (r ∷ path.0, (need, subst (λ y. EachNeedsNext needs (y ∷ (path.0 ++ t ∷ []))) same path.1)),
    )

-- those passed have the sets of all that they reach, the others are as they were
pub record AreJoined (needs : List (List ℕ)) (passed : List ℕ) (old new : List (List Bool)) : Type
    0 where
  pub done : (s : ℕ) → Contains passed s → Holds (slice_index_or new s []) (HasAlong needs old s)
  pub left : (s : ℕ) → (Contains passed s → ⊥) → slice_index_or new s [] ≡ slice_index_or old s []

-- the set that joins an id's with those of all that it needs
joined_along : (needs : List (List ℕ)) (passed list : List ℕ) (old mid : List (List Bool)) (s : ℕ)
    (set : List Bool) → AreJoined needs passed old mid → (Contains passed s → ⊥)
    → ((t : ℕ) → Needs needs s t ↔ Contains list t)
    → ((t : ℕ) → Needs needs s t → Contains passed t) → Holds set (HasJoined mid s list)
    → Holds set (HasAlong needs old s)
joined_along needs passed list old mid s set so_far fresh lists before members x = (
  λ has. elim ((members x).0 has) [
    | inl own ↦ (s, inl refl, subst (λ b. Has b x) (so_far.left s fresh) own)
    | inr other ↦
        let t = other.0 in
        let need = (lists t).1 other.1 in
        let along = (so_far.done t (before t need) x).0 other.2 in
        (along.0, up_from_needs needs s t along.0 need along.1, along.2)
  ],
  λ along. elim (up_by_needs needs s along.0 along.1) [
    | inl same ↦
        (members x).1
        (inl (subst (λ b. Has b x) (sym (so_far.left s fresh))
        (subst (λ y. Has (slice_index_or old y []) x) same along.2)))
    | inr step ↦
        (members x).1
        (inr (
          step.0,
          (lists step.0).0 step.1,
          (so_far.done step.0 (before step.0 step.1) x).1 (along.0, step.2, along.2),
        ))
  ],
)

-- one more is joined
pub one_joined : (needs : List (List ℕ)) (passed list : List ℕ) (old mid : List (List Bool)) (s : ℕ)
    (whole : List Bool) → AreJoined needs passed old mid → s < length mid → (Contains passed s → ⊥)
    → ((t : ℕ) → Needs needs s t ↔ Contains list t)
    → ((t : ℕ) → Needs needs s t → Contains passed t) → Holds whole (HasJoined mid s list)
    → AreJoined needs (passed ++ s ∷ []) old (set mid s whole)
one_joined needs passed list old mid s whole so_far low fresh lists before members = record {
  done = λ t there. elim (cases_eq t s) [
    | inl same ↦
        let put : slice_index_or (set mid s whole) t [] ≡ whole =
        ap (λ y. slice_index_or (set mid s whole) y []) same ∙ get_or-set_same mid s whole [] low in
        let is : Holds whole (HasAlong needs old t) =
        subst (λ y. Holds whole (HasAlong needs old y)) (sym same)
        (joined_along needs passed list old mid s whole so_far fresh lists before members) in
        subst (λ b. Holds b (HasAlong needs old t)) (sym put) is
    | inr other ↦
        let kept : slice_index_or (set mid s whole) t [] ≡ slice_index_or mid t [] =
        get_or-set_other mid s t whole [] other in
        let earlier : Contains passed t = elim (Contains-push_cases passed s t there) [
          | inl was ↦ was
          | inr now ↦ absurd (other (sym now))
        ] in
        subst (λ b. Holds b (HasAlong needs old t)) (sym kept) (so_far.done t earlier)
  ];
  left = λ t out.
      let other : t ≢ s =
      λ same. out (subst (Contains (passed ++ s ∷ [])) (sym same) (Contains-push passed s)) in
      let kept : slice_index_or (set mid s whole) t [] ≡ slice_index_or mid t [] =
      get_or-set_other mid s t whole [] other in
      kept ∙ so_far.left t (λ there. out (Contains-append_left passed (s ∷ []) t there));
}

-- what stands next in an order was not passed
pub not_passed : (needs : List (List ℕ)) (order : List ℕ) (i : ℕ) → IsOrder needs order
    → i < length order → Contains (take i order) (get_or order i 0) → ⊥
not_passed needs order i ordered within (k, low, here) =
    let s = get_or order i 0 in
    let before : k < i = omega (arith, length-take i order) in
    let same : get_or order k s ≡ s = sym (get_or-take i order k s before) ∙ here in
    ordered.once k i s before within (same ∙ get_or_default order i 0 s within)

pub joins_more : (sets : List (List Bool)) (id t : ℕ) (list : List ℕ) (old new taken : List Bool)
    → Holds old (HasJoined sets id list) → Holds new (λ x. Has old x ⊎ Has taken x)
    → taken ≡ slice_index_or sets t []
    → Holds new (HasJoined sets id (list ++ t ∷ []))
joins_more sets id t list old new taken before members same x = (
  λ has. elim ((members x).0 has) [
    | inl was ↦ elim ((before x).0 was) [
      | inl own ↦ inl own
      | inr other ↦ inr (other.0, Contains-append_left list (t ∷ []) other.0 other.1, other.2)
    ]
    | inr now ↦ inr (t, Contains-push list t, subst (λ b. Has b x) same now)
  ],
  λ either. elim either [
    | inl own ↦ (members x).1 (inl ((before x).1 (inl own)))
    | inr other ↦ elim (Contains-push_cases list t other.0 other.1) [
      | inl earlier ↦ (members x).1 (inl ((before x).1 (inr (other.0, earlier, other.2))))
      | inr last ↦
          (members x).1
          (inr (subst (λ b. Has b x) (sym same)
          (subst (λ y. Has (slice_index_or sets y []) x) (sym last) other.2)))
    ]
  ],
)

-- a set that was read from its place
pub set_at : (sets : List (List Bool)) (t : ℕ) (found : List Bool) → t < length sets
    → found ≡ get_or sets t found → found ≡ slice_index_or sets t []
set_at sets t found low is = is ∙ get_or_default sets t found [] low

-- what stands in an order is one of the ids
pub ordered_within : (needs : List (List ℕ)) (order : List ℕ) (i : ℕ) → IsOrder needs order
    → i < length order → get_or order i 0 < length needs
ordered_within needs order i ordered within =
    (ordered.all (get_or order i 0)).0 (Contains-get_or order i 0 within)

-- what the next one needs was passed
pub needed_passed : (needs : List (List ℕ)) (order : List ℕ) (i : ℕ) → IsOrder needs order
    → i < length order → (t : ℕ) → Needs needs (get_or order i 0) t → Contains (take i order) t
needed_passed needs order i ordered within t need = ordered.after i t within need

in_whole : (xs : List ℕ) (i t : ℕ) → i ≤ length xs → Contains (take i xs) t → Contains xs t
in_whole xs i t le (k, low, here) =
    let before : k < i = omega (arith, length-take i xs) in
    (k, omega (arith, length-take i xs), sym (get_or-take i xs k t before) ∙ here)

pub needs_listed : (needs : List (List ℕ)) (s : ℕ) (list : List ℕ)
    → list ≡ slice_index_or needs s [] → (t : ℕ) → Needs needs s t ↔ Contains list t
needs_listed needs s list is t = (
  λ h. subst (λ (xs : List ℕ). Contains xs t) (sym is) h,
  λ h. subst (λ (xs : List ℕ). Contains xs t) is h,
)

-- and so it is one of the ids
pub listed_within : (needs : List (List ℕ)) (order : List ℕ) (i : ℕ) (list : List ℕ) (bound : ℕ)
    → IsOrder needs order → i < length order → list ≡ slice_index_or needs (get_or order i 0) []
    → length needs ≡ bound
    → All (λ t. t < bound) list
listed_within needs order i list bound ordered within is few k d low =
    let t = get_or list k d in
    let need = (needs_listed needs (get_or order i 0) list is t).1 (Contains-get_or list k d low) in
    let inside : t < length needs =
    (ordered.all t).0
    (in_whole order i t (omega arith) (needed_passed needs order i ordered within t need)) in
    omega arith

-- once all are passed
pub all_joined : (needs : List (List ℕ)) (order : List ℕ) (i : ℕ) (old new : List (List Bool))
    → IsOrder needs order → length order ≤ i → AreJoined needs (take i order) old new
    → (s : ℕ) → s < length needs → Holds (slice_index_or new s []) (HasAlong needs old s)
all_joined needs order i old new ordered past joined s within =
    joined.done s
    (subst (λ (xs : List ℕ). Contains xs s) (sym (take_all i order past))
    ((ordered.all s).1 within))

-- Sets that queries answer.
use Rattle.std.proofs.Common.{◌≡◌, ◌+◌, ◌<◌, ◌≤◌, ◌↔◌, ◌⊎◌, ⊎_elim, inl, inr, ℕ, Bool, List, []}
use Rattle.std.proofs.Common.{◌∷◌, ◌++◌, length, take, slice_get, Contains, Some, sym, subst, arith}
use Rattle.std.proofs.lemmas.Bool.{cases_lt}
use Rattle.std.proofs.lemmas.List.Elements.{Contains-push, Contains-push_cases}
use Rattle.std.proofs.lemmas.List.Elements.{Contains-append_left}
use Rattle.rc_model.specs.Names.{Has, Holds}
use Rattle.rc_graph.specs.declared.Way.{Way}
use Rattle.rc_graph.specs.declared.Way.TheVariants.{Raise, Lower}
use Rattle.rc_db.specs.Queries.{IsBeside, IsNextTo, IsWithAll}
use Rattle.rc_model.proofs.Places.{take_next}
use Rattle.rc_model.proofs.SetMembers.{has_within}

-- what stands beside the members of a set stands beside those of whom a fact holds that says who
-- they are
pub next_as : (needs : List (List ℕ)) (way : Way) (set : List Bool) (P : ℕ → Type 0) → Holds set P
    → (t : ℕ) → IsNextTo needs way (Has set) t ↔ IsNextTo needs way P t
next_as needs way set P holds t = (
  λ next. (next.0, (holds next.0).0 next.1, next.2),
  λ next. (next.0, (holds next.0).1 next.1, next.2),
)

pub all_as : (needs : List (List ℕ)) (way : Way) (set : List Bool) (P : ℕ → Type 0) → Holds set P
    → (t : ℕ) → IsWithAll needs way (Has set) t ↔ IsWithAll needs way P t
all_as needs Raise set P holds t = (
  λ up. ⊎_elim (λ has. inl ((holds t).0 has))
      (λ from. inr (from.0, (holds from.0).0 from.1, from.2)) up,
  λ up. ⊎_elim (λ is. inl ((holds t).1 is)) (λ from. inr (from.0, (holds from.0).1 from.1, from.2))
      up,
)
all_as needs Lower set P holds t = (
  λ down. ⊎_elim (λ has. inl ((holds t).0 has)) (λ to. inr (to.0, (holds to.0).0 to.1, to.2)) down,
  λ down. ⊎_elim (λ is. inl ((holds t).1 is)) (λ to. inr (to.0, (holds to.0).1 to.1, to.2)) down,
)

-- a set that has some ids, and then the next one
pub one_more_id : (old mid new : List Bool) (list : List ℕ) (i t : ℕ) → slice_get list i ≡ Some t
    → Holds mid (λ s. Has old s ⊎ Contains (take i list) s) → Holds new (λ s. Has mid s ⊎ (s ≡ t))
    → Holds new (λ s. Has old s ⊎ Contains (take (i + 1) list) s)
one_more_id old mid new list i t there holds one s =
    let next : take (i + 1) list ≡ take i list ++ t ∷ [] = take_next list i t there in
    let In : List ℕ → Type 0 = λ ids. Has old s ⊎ Contains ids s in (
      λ has. subst In (sym next) (⊎_elim
          (λ in_mid. ⊎_elim (λ in_old. inl in_old)
          (λ before. inr (Contains-append_left (take i list) (t ∷ []) s before))
          ((holds s).0 in_mid))
          (λ is. inr (subst (Contains (take i list ++ t ∷ [])) (sym is)
          (Contains-push (take i list) t)))
          ((one s).0 has)),
      λ in_next. ⊎_elim
          (λ in_old. (one s).1 (inl ((holds s).1 (inl in_old))))
          (λ there_next. ⊎_elim
          (λ before. (one s).1 (inl ((holds s).1 (inr before))))
          (λ is. (one s).1 (inr (sym is)))
          (Contains-push_cases (take i list) t s there_next))
          (subst In next in_next),
    )

-- what stands beside a member that is passed
abbrev pub IsBesidePassed : List (List ℕ) → Way → List Bool → ℕ → ℕ → Type 0
IsBesidePassed needs way set i t = (k : ℕ) × (k < i) × Has set k × IsBeside needs way k t

-- one more is passed
pub beside_more : (needs : List (List ℕ)) (way : Way) (set old new : List Bool) (i : ℕ)
    → Holds old (IsBesidePassed needs way set i)
    → Holds new (λ t. Has old t ⊎ (Has set i × IsBeside needs way i t))
    → Holds new (IsBesidePassed needs way set (i + 1))
beside_more needs way set old new i before more t = (
  λ has. ⊎_elim
      (λ was. let at = (before t).0 was in let low : at.0 < i + 1 = omega (arith, at.1) in
      (at.0, low, at.2, at.3))
      (λ here. let low : i < i + 1 = omega arith in (i, low, here.0, here.1))
      ((more t).0 has),
  λ at. ⊎_elim
      (λ (low : at.0 < i). (more t).1 (inl ((before t).1 (at.0, low, at.2, at.3))))
      (λ (high : i ≤ at.0).
      let same : at.0 ≡ i = omega (arith, at.1) in
      let Here : ℕ → Type 0 = λ k. Has set k × IsBeside needs way k t in
      (more t).1 (inr (subst Here same (at.2, at.3))))
      (cases_lt at.0 i),
)

-- all are passed
pub beside_all : (needs : List (List ℕ)) (way : Way) (set next : List Bool) (i : ℕ) → length set ≤ i
    → Holds next (IsBesidePassed needs way set i)
    → Holds next (IsNextTo needs way (Has set))
beside_all needs way set next i whole before t = (
  λ has. let at = (before t).0 has in (at.0, at.2, at.3),
  λ at.
      let within : at.0 < length set = has_within set at.0 at.1 in
      let low : at.0 < i = omega arith in
      (before t).1 (at.0, low, at.1, at.2),
)

-- What is looked up by lists of places.
use Rattle.std.proofs.Common.{◌≡◌, ◌⊎◌, ◌↔◌, ⊎_elim, inl, inr, ℕ, List, [], Contains, Option, Some}
use Rattle.std.proofs.Common.{None, sym, ap, subst}
use Rattle.std.specs.Option.{option_to_list}
use Rattle.rc_model.specs.Graph.{Needs}
use Rattle.rc_model.proofs.Places.{contains_at, place_of}
use Rattle.rc_model.proofs.Members.{none_contained, only}
use Rattle.rc_source.specs.Meaning.{Meaning}
use Rattle.rc_source.proofs.Members.{Contains-here}
use Rattle.rc_compile.specs.Mirror.{HasListed, Mirrors}
use Rattle.rc_compile.specs.declared.members.rows.Listed.TheVariants.{Producer}
use Rattle.rc_compile.specs.Pipelines.{WritesTo}
use Rattle.rc_compile.specs.Book.{HasPair}

-- what an option lists
pub option_listed : (o : Option (List ℕ)) (x : List ℕ)
    → Contains (option_to_list o) x ↔ (o ≡ Some x)
option_listed None x =
    (λ there. absurd (none_contained x there), λ same. let bad : None ≡ Some x = same in cc)
option_listed (Some y) x = (
  λ there. ap (λ z. Some z) (sym (only y x there)),
  λ same. let one : x ≡ y = cc in
      Contains-here y [] x one,
)

pub writes_listed : (ms : List Meaning) (a b : List ℕ) → HasListed Producer ms a b ↔ WritesTo ms a b
writes_listed ms a b = (
  λ (m, there, named, has). (m, there, named, (option_listed m.producer_for b).0 has),
  λ (m, there, named, writes). (m, there, named, (option_listed m.producer_for b).1 writes),
)

-- names stand in a pair where they are in the relation
pub paired : (R : List ℕ → List ℕ → Type 0) (names lists : List (List ℕ))
    → Mirrors R names names lists → (a b : List ℕ)
    → HasPair names lists a b ↔ (Contains names a × Contains names b × R a b)
paired R names lists mirror a b = (
  λ (s, t, at_a, at_b, need).
      let (x, y, at_x, at_y, r) = (mirror.same s t).0 need in
      let one : x ≡ a = cc (at_x, at_a) in
      let two : y ≡ b = cc (at_y, at_b) in (
        contains_at names s a at_a,
        contains_at names t b at_b,
        subst (R a) two (subst (λ z. R z y) one r),
      ),
  λ (in_a, in_b, r).
      let s = place_of names a in_a in
      let t = place_of names b in_b in
      (s.0, t.0, s.1, t.1, (mirror.same s.0 t.0).1 (a, b, s.1, t.1, r)),
)

-- a draft that gains three times
pub gained_thrice : (d0 d1 d2 d3 : List (List ℕ)) (A B C : ℕ → ℕ → Type 0)
    → ((s t : ℕ) → Needs d0 s t → ⊥) → ((s t : ℕ) → Needs d1 s t ↔ (Needs d0 s t ⊎ A s t))
    → ((s t : ℕ) → Needs d2 s t ↔ (Needs d1 s t ⊎ B s t))
    → ((s t : ℕ) → Needs d3 s t ↔ (Needs d2 s t ⊎ C s t)) → (s t : ℕ)
    → Needs d3 s t ↔ ((A s t ⊎ B s t) ⊎ C s t)
gained_thrice d0 d1 d2 d3 A B C none first second third s t = (
  λ need. ⊎_elim
      (λ in2. inl
      (⊎_elim (λ in1. ⊎_elim (λ in0. absurd (none s t in0)) (λ a. inl a) ((first s t).0 in1))
      (λ b. inr b) ((second s t).0 in2)))
      (λ c. inr c)
      ((third s t).0 need),
  λ cases. (third s t).1 (⊎_elim
      (λ early. inl ((second s t).1 (⊎_elim (λ a. inl ((first s t).1 (inr a))) (λ b. inr b) early)))
      (λ c. inr c)
      cases),
)

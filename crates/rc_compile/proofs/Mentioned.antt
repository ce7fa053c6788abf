-- Names that go into a list, list by list.
use Rattle.std.proofs.Common.{◌≡◌, ◌∙◌, ◌+◌, ◌<◌, ◌≤◌, ◌⊎◌, ◌↔◌, ⊎_elim, inl, inr, ℕ, List, [], ◌∷◌}
use Rattle.std.proofs.Common.{◌++◌, length, get_or, take, Contains, sym, subst, arith}
use Rattle.std.proofs.lemmas.List.{take_more, take_all, length-take}
use Rattle.std.proofs.lemmas.List.Elements.{Contains-append_cases, Contains-append_left}
use Rattle.std.proofs.lemmas.List.Elements.{Contains-append_right}
use Rattle.rc_source.proofs.Members.{Contains-here}
use Rattle.rc_model.proofs.Members.{only}

module _ {X : Type 0} where
  -- the new ones are the old ones and those of which this holds
  abbrev pub Added : List X → (X → Type 0) → List X → Type 0
  Added old P new = (x : X) → Contains new x ↔ (Contains old x ⊎ P x)

  pub added_then : (old mid new : List X) (P Q R : X → Type 0) → Added old P mid → Added mid Q new
      → ((x : X) → R x ↔ (P x ⊎ Q x)) → Added old R new
  added_then old mid new P Q R before now both x = (
    λ there. ⊎_elim
        (λ at. ⊎_elim (λ first. inl first) (λ p. inr ((both x).1 (inl p))) ((before x).0 at))
        (λ q. inr ((both x).1 (inr q))) ((now x).0 there),
    λ cases. (now x).1
        (⊎_elim (λ first. inl ((before x).1 (inl first)))
        (λ r. ⊎_elim (λ p. inl ((before x).1 (inr p))) (λ q. inr q) ((both x).0 r)) cases),
  )

  pub added_none : (old : List X) (P : X → Type 0) → ((x : X) → P x → ⊥) → Added old P old
  added_none old P none x =
      (λ there. inl there, λ cases. ⊎_elim (λ at. at) (λ p. absurd (none x p)) cases)

  -- one element more
  pub added_one : (old new : List X) (y : X) (P : X → Type 0) → new ≡ old ++ y ∷ []
      → ((x : X) → P x ↔ (x ≡ y)) → Added old P new
  added_one old new y P is alone x = (
    λ there. ⊎_elim (λ at. inl at) (λ last. inr ((alone x).1 (only y x last)))
        (Contains-append_cases old (y ∷ []) x (subst (λ l. Contains l x) is there)),
    λ cases. subst (λ l. Contains l x) (sym is)
        (⊎_elim (λ at. Contains-append_left old (y ∷ []) x at)
        (λ p. Contains-append_right old (y ∷ []) x (Contains-here y [] x ((alone x).0 p))) cases),
  )

  -- the part of a list that was passed: one more, none
  pub part_next : (xs : List X) (i : ℕ) (y : X) → i < length xs → y ≡ get_or xs i y → (x : X)
      → Contains (take (i + 1) xs) x ↔ (Contains (take i xs) x ⊎ (x ≡ y))
  part_next xs i y within here x =
      let e = take_more xs i y within in
      let z = get_or xs i y in (
        λ there. ⊎_elim (λ before. inl before) (λ last. inr (only z x last ∙ sym here))
            (Contains-append_cases (take i xs) (z ∷ []) x (subst (λ l. Contains l x) e there)),
        λ cases. subst (λ l. Contains l x) (sym e)
            (⊎_elim (λ before. Contains-append_left (take i xs) (z ∷ []) x before)
            (λ same. Contains-append_right (take i xs) (z ∷ []) x
            (Contains-here z [] x (same ∙ here))) cases),
      )

  pub part_none : (xs : List X) (x : X) → Contains (take 0 xs) x → ⊥
  part_none xs x (k, within, here) = omega (arith, length-take 0 xs)

  -- those of a list of which this holds: one more, none, all
  pub some_next : (Q : X → Type 0) (xs : List X) (i : ℕ) (y : X) → i < length xs → y ≡ get_or xs i y
      → (x : X) → (Contains (take (i + 1) xs) x × Q x)
      ↔ ((Contains (take i xs) x × Q x) ⊎ ((x ≡ y) × Q x))
  some_next Q xs i y within here x = (
    λ (there, q). ⊎_elim (λ before. inl (before, q)) (λ same. inr (same, q))
        ((part_next xs i y within here x).0 there),
    λ cases. ⊎_elim (λ (before, q). ((part_next xs i y within here x).1 (inl before), q))
        (λ (same, q). ((part_next xs i y within here x).1 (inr same), q)) cases,
  )

  pub added_all : (old new xs : List X) (Q : X → Type 0) (i : ℕ) → length xs ≤ i
      → Added old (λ x. Contains (take i xs) x × Q x) new → Added old (λ x. Contains xs x × Q x) new
  added_all old new xs Q i all before =
      let P : List X → Type 0 = λ l. Added old (λ x. Contains l x × Q x) new in
      subst P (take_all i xs all) before

  -- the same names, said otherwise
  pub added_as : (old new : List X) (P Q : X → Type 0) → Added old P new → ((x : X) → P x ↔ Q x)
      → Added old Q new
  added_as old new P Q before same x = (
    λ there. ⊎_elim (λ at. inl at) (λ p. inr ((same x).0 p)) ((before x).0 there),
    λ cases. (before x).1 (⊎_elim (λ at. inl at) (λ q. inr ((same x).1 q)) cases),
  )

  -- four parts, one after the other
  pub all_four : (u0 u1 u2 u3 u4 : List X) (A B C D Q : X → Type 0) → u0 ≡ []
      → Added u0 (λ x. A x × Q x) u1 → Added u1 (λ x. B x × Q x) u2 → Added u2 (λ x. C x × Q x) u3
      → Added u3 (λ x. D x × Q x) u4
      → (x : X) → Contains u4 x ↔ ((A x ⊎ B x ⊎ C x ⊎ D x) × Q x)
  all_four u0 u1 u2 u3 u4 A B C D Q none a b c d x = (
    λ there. ⊎_elim
        (λ in3. ⊎_elim
        (λ in2. ⊎_elim
        (λ in1. ⊎_elim (λ in0. absurd (part_none [] x (subst (λ l. Contains l x) none in0)))
        (λ (h, q). (inl h, q)) ((a x).0 in1))
        (λ (h, q). (inr (inl h), q))
        ((b x).0 in2))
        (λ (h, q). (inr (inr (inl h)), q))
        ((c x).0 in3))
        (λ (h, q). (inr (inr (inr h)), q))
        ((d x).0 there),
    λ (cases, q). (d x).1 (⊎_elim
        (λ h. inl ((c x).1 (inl ((b x).1 (inl ((a x).1 (inr (h, q))))))))
        (λ rest. ⊎_elim
        (λ h. inl ((c x).1 (inl ((b x).1 (inr (h, q))))))
        (λ last. ⊎_elim (λ h. inl ((c x).1 (inr (h, q)))) (λ h. inr (h, q)) last)
        rest)
        cases),
  )

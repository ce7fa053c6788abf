-- Names that are listed in byte order, some of one list or all of two.
use Rattle.std.proofs.Common.{◌≡◌, ◌∙◌, ◌+◌, ◌<◌, ◌≤◌, ◌↔◌, ◌⊎◌, ⊎_elim, inl, inr, ℕ, Bool, true}
use Rattle.std.proofs.Common.{false, true≢false, List, [], ◌∷◌, ◌++◌, length, take, take_all, map}
use Rattle.std.proofs.Common.{get_or, slice_get, Contains, Some, refl, ap, sym, subst, arith}
use Rattle.std.proofs.lemmas.Bool.{cases_lt}
use Rattle.std.proofs.lemmas.Cmp.{nat_list_cmp_total}
use Rattle.std.proofs.lemmas.List.{map-append}
use Rattle.std.proofs.lemmas.List.Elements.{Contains-push, Contains-push_cases}
use Rattle.std.proofs.lemmas.List.Elements.{Contains-append_left, Contains-get_or}
use Rattle.std.proofs.lemmas.List.Quantifiers.{all_pairs_push}
use Rattle.std.proofs.lemmas.Option.{slice_get-get_or, slice_get_within}
use Rattle.std.specs.Bool.{OnFalse}
use Rattle.std.specs.Cmp.Lexicographic.{slice_cmp}
use Rattle.std.specs.Ordering.{nat_cmp, is_lt}
use Rattle.std.specs.declared.cmp.Ordering.{Ordering}
use Rattle.std.specs.declared.cmp.Ordering.TheVariants.{Less, Equal, Greater}
use Rattle.rc_model.proofs.ByteOrder.{before_at}
use Rattle.rc_model.specs.Names.{IsBefore, IsInByteOrder}
use Rattle.rc_names.specs.Names.{ListsNames}
use Rattle.rc_model.specs.declared.Kind.{Kind}
use Rattle.rc_db.specs.Merging.{IsNext}
use Rattle.rc_model.specs.Database.{Database, IsKind, Service}
use Rattle.rc_db.specs.Queries.{IsServiceNamed}
use Rattle.rc_model.proofs.Places.{take_next}

-- the first names of two lists, merged, and all others after them
pub record Merged (ns os : List (List ℕ)) (i j : ℕ) (out : List (List ℕ)) : Type 0 where
  pub order : IsInByteOrder out
  pub same : (x : List ℕ) → Contains out x ↔ (Contains (take i ns) x ⊎ Contains (take j os) x)
  pub first : (k : ℕ) (x y : List ℕ) → i ≤ k → slice_get ns k ≡ Some y
      → Contains out x → IsBefore x y
  pub second : (k : ℕ) (x y : List ℕ) → j ≤ k → slice_get os k ≡ Some y
      → Contains out x → IsBefore x y

pub flipped : (ns os : List (List ℕ)) (i j : ℕ) (out : List (List ℕ)) → Merged ns os i j out
    → Merged os ns j i out
flipped ns os i j out merged = record {
  order = merged.order;
  same = λ x. (
    λ there. ⊎_elim (λ a. inr a) (λ b. inl b) ((merged.same x).0 there),
    λ cases. (merged.same x).1 (⊎_elim (λ b. inr b) (λ a. inl a) cases),
  );
  first = merged.second;
  second = merged.first;
}

pub one_merged : (ns os : List (List ℕ)) (i j : ℕ) (out : List (List ℕ)) (x : List ℕ)
    → IsInByteOrder ns → slice_get ns i ≡ Some x
    → ((k : ℕ) (y : List ℕ) → j ≤ k → slice_get os k ≡ Some y → IsBefore x y) → Merged ns os i j out
    → Merged ns os (i + 1) j (out ++ x ∷ [])
one_merged ns os i j out x order there next merged =
    let more : take (i + 1) ns ≡ take i ns ++ x ∷ [] = take_next ns i x there in
    record {
      order = all_pairs_push IsBefore out x merged.order
          (λ k d within. merged.first i (get_or out k d) x (omega arith) there
          (Contains-get_or out k d within));
      same = λ z.
          let In : List (List ℕ) → Type 0 = λ names. Contains names z ⊎ Contains (take j os) z in (
            λ in_more. subst In (sym more) (⊎_elim
                (λ old. ⊎_elim (λ a. inl (Contains-append_left (take i ns) (x ∷ []) z a))
                (λ b. inr b) ((merged.same z).0 old))
                (λ is. inl (subst (Contains (take i ns ++ x ∷ [])) is
                (Contains-push (take i ns) x)))
                (Contains-push_cases out x z in_more)),
            λ cases. ⊎_elim
                (λ a. ⊎_elim
                (λ old. Contains-append_left out (x ∷ []) z ((merged.same z).1 (inl old)))
                (λ is. subst (Contains (out ++ x ∷ [])) is (Contains-push out x))
                (Contains-push_cases (take i ns) x z a))
                (λ b. Contains-append_left out (x ∷ []) z ((merged.same z).1 (inr b)))
                (subst In more cases),
          );
      first = λ k z y low at in_more. ⊎_elim
          (λ old. merged.first k z y (omega arith) at old)
          (λ is. let P : List ℕ → Type 0 = λ a. IsBefore a y in
          subst P is (before_at ns i k x y order there at (omega arith)))
          (Contains-push_cases out x z in_more);
      second = λ k z y low at in_more. ⊎_elim
          (λ old. merged.second k z y low at old)
          (λ is. let P : List ℕ → Type 0 = λ a. IsBefore a y in subst P is (next k y low at))
          (Contains-push_cases out x z in_more);
    }

-- what is before the next name is before all later ones
pub before_later : (names : List (List ℕ)) (j : ℕ) (x : List ℕ) → IsInByteOrder names
    → ((y : List ℕ) → slice_get names j ≡ Some y → IsBefore x y)
    → (k : ℕ) (y : List ℕ) → j ≤ k → slice_get names k ≡ Some y → IsBefore x y
before_later names j x order next k y low at = ⊎_elim
    (λ later.
    let within : k < length names = slice_get_within names k y at in
    let z = get_or names j [] in
    let here : slice_get names j ≡ Some z = slice_get-get_or names j [] (omega arith) in
    nat_list_cmp_total.trans x z y (next z here) (before_at names j k z y order here at later))
    (λ not_later. let same : j ≡ k = omega arith in next y (ap (slice_get names) same ∙ at))
    (cases_lt j k)

-- the next name of the first list goes after those merged
pub next_merged : (ns os : List (List ℕ)) (i j : ℕ) (out more : List (List ℕ)) (x : List ℕ)
    → IsInByteOrder ns → IsInByteOrder os → IsNext ns i os j
    → slice_get ns i ≡ Some x → more ≡ out ++ x ∷ [] → Merged ns os i j out
    → Merged ns os (i + 1) j more
next_merged ns os i j out more x order others next there pushed merged =
    let at : slice_get ns i ≡ Some next.0 = next.1 in
    let same : next.0 ≡ x = cc (at, there) in
    let first : (y : List ℕ) → slice_get os j ≡ Some y → IsBefore x y =
    λ y here. let P : List ℕ → Type 0 = λ a. IsBefore a y in subst P same (next.2 y here) in
    subst (Merged ns os (i + 1) j) (sym pushed)
    (one_merged ns os i j out x order there (before_later os j x others first) merged)

-- once all of both lists are merged, they are listed
pub all_merged : (ns os : List (List ℕ)) (i j : ℕ) (out : List (List ℕ)) → length ns ≤ i
    → length os ≤ j → Merged ns os i j out → ListsNames (λ x. Contains ns x ⊎ Contains os x) out
all_merged ns os i j out first second merged = record {
  order = merged.order;
  same = λ x.
      let P : List (List ℕ) → Type 0 =
      λ a. Contains out x ↔ (Contains a x ⊎ Contains (take j os) x) in
      let Q : List (List ℕ) → Type 0 = λ b. Contains out x ↔ (Contains ns x ⊎ Contains b x) in
      subst Q (take_all j os second) (subst P (take_all i ns first) (merged.same x));
}

-- those of the first names at whose places a fact holds
pub record Passed (P : ℕ → Type 0) (names : List (List ℕ)) (i : ℕ) (out : List (List ℕ)) : Type
    0 where
  pub order : IsInByteOrder out
  pub same : (x : List ℕ)
      → Contains out x ↔ ((k : ℕ) × (k < i) × (slice_get names k ≡ Some x) × P k)

pub one_passed : (P : ℕ → Type 0) (names : List (List ℕ)) (i : ℕ) (out : List (List ℕ)) (x : List ℕ)
    → IsInByteOrder names → slice_get names i ≡ Some x → P i
    → Passed P names i out → Passed P names (i + 1) (out ++ x ∷ [])
one_passed P names i out x order there holds passed = record {
  order = all_pairs_push IsBefore out x passed.order
      (λ k d within. let old = (passed.same (get_or out k d)).0 (Contains-get_or out k d within) in
      before_at names old.0 i (get_or out k d) x order old.2 there old.1);
  same = λ z. (
    λ in_more. ⊎_elim
        (λ old. let at = (passed.same z).0 old in let low : at.0 < i = at.1 in
        (at.0, omega arith, at.2, at.3))
        (λ is. (i, omega arith, there ∙ ap Some is, holds))
        (Contains-push_cases out x z in_more),
    λ at. let low : at.0 < i + 1 = at.1 in ⊎_elim
        (λ before. Contains-append_left out (x ∷ []) z
        ((passed.same z).1 (at.0, before, at.2, at.3)))
        (λ high. let here : at.0 ≡ i = omega arith in
        let shown : slice_get names i ≡ Some z = ap (slice_get names) (sym here) ∙ at.2 in
        let is : x ≡ z = cc (there, shown) in
        subst (Contains (out ++ x ∷ [])) is (Contains-push out x))
        (cases_lt at.0 i),
  );
}

pub none_passed : (P : ℕ → Type 0) (names : List (List ℕ)) (i : ℕ) (out : List (List ℕ)) → (P i → ⊥)
    → Passed P names i out → Passed P names (i + 1) out
none_passed P names i out fails passed = record {
  order = passed.order;
  same = λ z. (
    λ there. let at = (passed.same z).0 there in let low : at.0 < i = at.1 in
        (at.0, omega arith, at.2, at.3),
    λ at. let low : at.0 < i + 1 = at.1 in ⊎_elim
        (λ before. (passed.same z).1 (at.0, before, at.2, at.3))
        (λ high. let here : at.0 ≡ i = omega arith in absurd (fails (subst P here at.3)))
        (cases_lt at.0 i),
  );
}

-- once all places are passed, the names of those of the kind are listed
pub kind_listed : (d : Database) (kind : Kind) (i : ℕ) (out : List (List ℕ)) → length d.names ≤ i
    → Passed (λ k. IsKind d k kind) d.names i out
    → ListsNames (λ x. (service : Service) × IsServiceNamed d x service × (service.kind ≡ kind)) out
kind_listed d kind i out whole passed = record {
  order = passed.order;
  same = λ x. (
    λ there. let at = (passed.same x).0 there in (at.3.0, (at.0, at.2, at.3.1), at.3.2),
    λ found. (passed.same x).1 (
      found.1.0,
      omega (arith, slice_get_within d.names found.1.0 x found.1.1),
      found.1.1,
      (found.0, found.1.2, found.2),
    ),
  );
}

-- one more name after those passed
pub one_taken : (shown more names : List (List ℕ)) (i : ℕ) (x : List ℕ) → slice_get names i ≡ Some x
    → shown ≡ take i names → more ≡ shown ++ x ∷ [] → more ≡ take (i + 1) names
one_taken shown more names i x there passed pushed =
    pushed ∙ ap (λ ns. ns ++ x ∷ []) passed ∙ sym (take_next names i x there)

-- a name that is pushed shows after the others
pub shown_more : {X : Type 0} (f : X → List ℕ) (old new : List X) (x : X) → new ≡ old ++ x ∷ []
    → map f new ≡ map f old ++ f x ∷ []
shown_more f old new x pushed = ap (map f) pushed ∙ map-append f old (x ∷ [])

-- a fact that follows from a failed test
pub on_false : (b : Bool) (P : Type 0) → (b ≡ false → P) → OnFalse b P
on_false true P f = tt
on_false false P f = f refl

-- a test that passed by order
pub less_from : (a b : List ℕ) → is_lt (slice_cmp nat_cmp a b) ≡ true → IsBefore a b
less_from a b passed = by (slice_cmp nat_cmp a b) passed
  where
    by : (o : Ordering) → is_lt o ≡ true → o ≡ Less
    by Less e = refl
    by Equal e = absurd (true≢false (sym e))
    by Greater e = absurd (true≢false (sym e))

-- all names of a list are listed by it
pub whole_listed : (names shown : List (List ℕ)) → IsInByteOrder names → shown ≡ names
    → ListsNames (Contains names) shown
whole_listed names shown order same =
    subst (ListsNames (Contains names)) (sym same)
    (record { order = order; same = λ x. (λ there. there, λ there. there) })

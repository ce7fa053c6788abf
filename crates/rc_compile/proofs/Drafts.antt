-- Drafts of pairs from lists.
use Rattle.std.proofs.Common.{◌≡◌, ℕ, ◌+◌, ◌<◌, ◌≤◌, ◌⊎◌, ◌↔◌, inl, inr, List, [], ◌∷◌, ◌++◌}
use Rattle.std.proofs.Common.{length, replicate, Contains, sym, ap, subst, arith}
use Rattle.std.proofs.lemmas.Bool.{cases_lt}
use Rattle.std.proofs.lemmas.List.{get_or-replicate, length-replicate}
use Rattle.std.proofs.lemmas.List.Elements.{Contains-push, Contains-push_cases}
use Rattle.std.proofs.lemmas.List.Elements.{Contains-append_left}
use Rattle.std.proofs.lemmas.Option.{slice_get_within}
use Rattle.rc_model.specs.Graph.{Needs, AreServices}
use Rattle.rc_model.proofs.Members.{none_contained}
use Rattle.rc_graph.proofs.RowLemmas.{needer_known}
use Rattle.rc_compile.specs.declared.members.graph.CycleFault.{CycleFault}
use Rattle.rc_compile.specs.declared.members.graph.CycleFault.TheVariants.{Cycle, Memory}
use Rattle.rc_compile.specs.Along.{IsShownCycle}
use Rattle.rc_compile.specs.CycleFaults.{IsCycleFault, IsShownBy}
use Rattle.rc_compile.specs.Mirror.{Mirrors}

-- one more is needed
pub needs_more : (old mid new : List (List ℕ)) (id one : ℕ) (list : List ℕ)
    → ((s t : ℕ) → Needs mid s t ↔ (Needs old s t ⊎ ((s ≡ id) × Contains list t)))
    → ((s t : ℕ) → Needs new s t ↔ (Needs mid s t ⊎ ((s ≡ id) × (t ≡ one)))) → (s t : ℕ)
    → Needs new s t ↔ (Needs old s t ⊎ ((s ≡ id) × Contains (list ++ one ∷ []) t))
needs_more old mid new id one list before more s t = (
  λ need. elim ((more s t).0 need) [
    | inl was ↦ elim ((before s t).0 was) [
      | inl first ↦ inl first
      | inr listed ↦ inr (listed.0, Contains-append_left list (one ∷ []) t listed.1)
    ]
    | inr now ↦
        inr (now.0, subst (Contains (list ++ one ∷ [])) (sym now.1) (Contains-push list one))
  ],
  λ either. (more s t).1 (elim either [
    | inl first ↦ inl ((before s t).1 (inl first))
    | inr listed ↦ elim (Contains-push_cases list one t listed.1) [
      | inl earlier ↦ inl ((before s t).1 (inr (listed.0, earlier)))
      | inr last ↦ inr (listed.0, sym last)
    ]
  ]),
)

-- the pairs of one more list are in
pub lists_more : (First : ℕ → ℕ → Type 0) (lists old new : List (List ℕ)) (i : ℕ) (list : List ℕ)
    → ((a b : ℕ) → Needs old a b ↔ (First a b ⊎ ((a < i) × Needs lists a b)))
    → ((a b : ℕ) → Needs new a b ↔ (Needs old a b ⊎ ((a ≡ i) × Contains list b)))
    → ((t : ℕ) → Needs lists i t ↔ Contains list t) → (a b : ℕ)
    → Needs new a b ↔ (First a b ⊎ ((a < i + 1) × Needs lists a b))
lists_more First lists old new i list before more lists_i a b = (
  λ need. elim ((more a b).0 need) [
    | inl was ↦ elim ((before a b).0 was) [
      | inl first ↦ inl first
      | inr earlier ↦ (let low : a < i = earlier.0 in inr (omega arith, earlier.1))
    ]
    | inr now ↦
        let here : a ≡ i = now.0 in
        inr (omega arith, subst (λ x. Needs lists x b) (sym here) ((lists_i b).1 now.1))
  ],
  λ either. (more a b).1 (elim either [
    | inl first ↦ inl ((before a b).1 (inl first))
    | inr both ↦ let low : a < i + 1 = both.0 in elim (cases_lt a i) [
      | inl below ↦ inl ((before a b).1 (inr (below, both.1)))
      | inr high ↦
          let here : a ≡ i = omega arith in
          inr (here, (lists_i b).0 (subst (λ x. Needs lists x b) here both.1))
    ]
  ]),
)

-- all pairs are in once all lists are passed
pub lists_all : (First : ℕ → ℕ → Type 0) (lists new : List (List ℕ)) (i : ℕ) → length lists ≤ i
    → ((a b : ℕ) → Needs new a b ↔ (First a b ⊎ ((a < i) × Needs lists a b))) → (a b : ℕ)
    → Needs new a b ↔ (First a b ⊎ Needs lists a b)
lists_all First lists new i past pairs a b = (
  λ need. elim ((pairs a b).0 need) [ inl first ↦ inl first | inr both ↦ inr both.1 ],
  λ either. (pairs a b).1 (elim either [
    | inl first ↦ inl first
    | inr need ↦ let low : a < length lists = needer_known lists a b need in inr (omega arith, need)
  ]),
)

-- what is listed is a place among the names
pub mirrors_known : (R : List ℕ → List ℕ → Type 0) (from to lists : List (List ℕ))
    → Mirrors R from to lists → (s t : ℕ) → Needs lists s t → t < length to
mirrors_known R from to lists mirrors s t need =
    let named = (mirrors.same s t).0 need in slice_get_within to t named.1 named.3

pub known_among : (R : List ℕ → List ℕ → Type 0) (names lists seen : List (List ℕ))
    → Mirrors R names names lists → seen ≡ lists → AreServices seen
known_among R names lists seen mirrors same s t need =
    let low : t < length names = mirrors_known R names names lists mirrors s t
    (subst (λ (ls : List (List ℕ)). Needs ls s t) same need) in
    omega (arith, mirrors.few, ap length same)

-- nothing is needed in a new draft
pub none_needed : (draft : List (List ℕ)) (n : ℕ) → draft ≡ replicate n [] → (s t : ℕ)
    → Needs draft s t → ⊥
none_needed draft n is s t need =
    let inside : Needs (replicate n []) s t = subst (λ (d : List (List ℕ)). Needs d s t) is need in
    let low : s < n =
    omega (arith, needer_known (replicate n []) s t inside, length-replicate {A = List ℕ} n []) in
    none_contained t (subst (λ (l : List ℕ). Contains l t) (get_or-replicate n s [] [] low) inside)

pub shown_fault : (R : List ℕ → List ℕ → Type 0) (names : List (List ℕ)) (fault : CycleFault)
    → IsShownBy names fault → IsShownCycle R names → IsCycleFault R fault
shown_fault R names (Cycle shown) is cycle = subst (IsShownCycle R) (sym is) cycle
shown_fault R names Memory is cycle = tt

-- Cycles of ids and of the names at their places.
use Rattle.std.proofs.Common.{◌≡◌, ◌∙◌, ℕ, ◌<◌, List, [], ◌∷◌, ◌++◌, length, map, get_or, slice_get}
use Rattle.std.proofs.Common.{slice_index_or, suc, Some, All, Contains, sym, ap, subst, arith}
use Rattle.std.proofs.lemmas.List.{get_or-map, length-map, map-append}
use Rattle.std.proofs.lemmas.List.Elements.{All-cons, All-nil}
use Rattle.std.proofs.lemmas.Option.{slice_get-get_or, slice_get_within, get_or_from_slice_get}
use Rattle.rc_model.specs.Names.{IsBefore, IsInByteOrder}
use Rattle.rc_model.specs.Graph.{Needs, EachNeedsNext, Reaches, IsAcyclic}
use Rattle.rc_graph.specs.Cycle.{IsCycle}
use Rattle.rc_compile.specs.Along.{EachNext, IsShownCycle}
use Rattle.rc_compile.specs.Mirror.{Mirrors}
use Rattle.rc_model.proofs.ByteOrder.{before_at, one_place}
use Rattle.rc_model.proofs.Members.{place_of}

-- the name at a place
abbrev pub shown_at : List (List ℕ) → ℕ → List ℕ
shown_at names s = slice_index_or names s []

at_place : (names : List (List ℕ)) (s : ℕ) → s < length names
    → slice_get names s ≡ Some (shown_at names s)
at_place names s low = slice_get-get_or names s [] low

module _ (R : List ℕ → List ℕ → Type 0) (names lists : List (List ℕ))
    (mirrors : Mirrors R names names lists) where
  step_shown : (s t : ℕ) → Needs lists s t → R (shown_at names s) (shown_at names t)
  step_shown s t need =
      let named = (mirrors.same s t).0 need in
      subst (λ x. R x (shown_at names t)) (sym (get_or_from_slice_get names s named.0 [] named.2))
      (subst (R named.0) (sym (get_or_from_slice_get names t named.1 [] named.3)) named.4)

  step_within : (s t : ℕ) → Needs lists s t → s < length names
  step_within s t need =
      let named = (mirrors.same s t).0 need in slice_get_within names s named.0 named.2

  path_shown : (xs : List ℕ) → EachNeedsNext lists xs → EachNext R (map (shown_at names) xs)
  path_shown [] path = tt
  path_shown (s ∷ []) path = tt
  path_shown (s ∷ t ∷ rest) path = (step_shown s t path.0, path_shown (t ∷ rest) path.1)

  path_within : (xs : List ℕ) (s last : ℕ) → EachNeedsNext lists (s ∷ (xs ++ last ∷ []))
      → All (λ x. x < length names) (s ∷ xs)
  path_within [] s last path =
      All-cons (λ x. x < length names) s [] (step_within s last path.0)
      (All-nil (λ x. x < length names))
  path_within (x ∷ xs) s last path =
      All-cons (λ x. x < length names) s (x ∷ xs) (step_within s x path.0)
      (path_within xs x last path.1)

  -- a cycle of ids shows one of names
  pub shown_cycle : IsInByteOrder names → (ids : List ℕ) → IsCycle lists ids
      → IsShownCycle R (map (shown_at names) ids)
  shown_cycle up [] cycle = cycle
  shown_cycle up (first ∷ rest) cycle =
      let f = shown_at names in
      let within : All (λ x. x < length names) (first ∷ rest) =
      path_within rest first first cycle.2 in
      let low : first < length names = within 0 first (omega arith) in (
        λ k d inside.
            let at_k : k < length rest = omega (arith, length-map rest f) in
            let x = get_or rest k first in
            let x_low : x < length names = within (suc k) first (omega arith) in
            let above : first < x = cycle.0 k first at_k in
            subst (IsBefore (f first)) (sym (get_or-map f rest k first d at_k))
            (before_at names first x (f first) (f x) up (at_place names first low)
            (at_place names x x_low) above),
        λ i j d lower inside.
            let all = first ∷ rest in
            let j_low : j < length all = omega (arith, length-map all f) in
            let i_low : i < length all = omega arith in
            let x = get_or all i first in
            let y = get_or all j first in
            λ same.
            let alike : f x ≡ f y =
            sym (get_or-map f all i first d i_low) ∙ same ∙ get_or-map f all j first d j_low in
            let at_x : slice_get names x ≡ Some (f y) =
            at_place names x (within i first i_low) ∙ ap (λ n. Some n) alike in
            cycle.1 i j first lower j_low
            (one_place names (f y) x y up at_x (at_place names y (within j first j_low))),
        subst (λ (tail : List (List ℕ)). EachNext R (f first ∷ tail))
            (map-append f rest (first ∷ [])) (path_shown (first ∷ (rest ++ first ∷ [])) cycle.2),
      )

  module _ (known : (a b : List ℕ) → R a b → Contains names a) where
    -- what begins a path of names is in the table
    begins_known : (xs : List (List ℕ)) (x last : List ℕ) → EachNext R (x ∷ (xs ++ last ∷ []))
        → Contains names x
    begins_known [] x last path = known x last path.0
    begins_known (y ∷ ys) x last path = known x y path.0

    -- a path of names is one of their places
    pub path_placed : (xs : List (List ℕ)) (a b : List ℕ) (s t : ℕ) → slice_get names s ≡ Some a
        → slice_get names t ≡ Some b → EachNext R (a ∷ (xs ++ b ∷ [])) → Reaches lists s t
    path_placed [] a b s t at_s at_t path =
        ([], ((mirrors.same s t).1 (a, b, at_s, at_t, path.0), tt))
    path_placed (x ∷ xs) a b s t at_s at_t path =
        let place = place_of names x (begins_known xs x b path.1) in
        let rest = path_placed xs x b place.0 t place.1 at_t path.1 in
        (place.0 ∷ rest.0, ((mirrors.same s place.0).1 (a, x, at_s, place.1, path.0), rest.1))

    -- where no id reaches itself no names make a cycle
    pub no_shown_cycle : IsAcyclic lists → (shown : List (List ℕ)) → IsShownCycle R shown → ⊥
    no_shown_cycle acyclic [] ring = ring
    no_shown_cycle acyclic (first ∷ rest) ring =
        let place = place_of names first (begins_known rest first first ring.2) in
        acyclic place.0 (path_placed rest first first place.0 place.0 place.1 place.1 ring.2)

  -- the ids of a cycle are places
  pub cycle_within : (ids : List ℕ) → IsCycle lists ids → All (λ x. x < length names) ids
  cycle_within [] cycle = absurd cycle
  cycle_within (first ∷ rest) cycle = path_within rest first first cycle.2

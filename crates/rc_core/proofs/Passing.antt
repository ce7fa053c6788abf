-- Tables and queues that are filled in as the members of a set are passed.
use Rattle.std.proofs.Common.{◌≡◌, ◌≢◌, ◌∙◌, ◌↔◌, ℕ, ◌+◌, ◌-◌, ◌<◌, ◌≤◌, List, ◌++◌, ◌∷◌, [], Bool}
use Rattle.std.proofs.Common.{Contains, inl, inr, length, replicate, slice_index, slice_index_or}
use Rattle.std.proofs.Common.{slice_set, refl, sym, ap, subst, arith, get_or-set_same}
use Rattle.std.proofs.Common.{get_or-set_other}
use Rattle.std.specs.List.{ReversedBelow}
use Rattle.std.proofs.lemmas.Bool.{cases_lt, cases_eq}
use Rattle.std.proofs.lemmas.List.{get_or_past, get_or-replicate, length-replicate, length-set}
use Rattle.rc_model.specs.Names.{Has}
use Rattle.rc_model.specs.Line.{Lists}
use Rattle.rc_model.specs.declared.Standing.{Standing}
use Rattle.rc_model.specs.declared.Standing.TheVariants.{Down, Up}
use Rattle.rc_model.proofs.SetMembers.{has_within, has_or_lacks}
use Rattle.rc_model.proofs.Standings.{first_of, first_up, first_down}
use Rattle.rc_graph.specs.Order.{AreDistinct}
use Rattle.rc_set.specs.Listed.{ListsBelow}
use Rattle.rc_set.specs.Filled.{Fills}
use Rattle.rc_set.specs.Next.{IsNextFrom, HasNoneFrom}
use Rattle.rc_set.proofs.Listing.{none_between, one_passed, next_listed}
use Rattle.rc_core.specs.Ready.{Counts}

-- a list of one value has it everywhere, and past its end
replicated : {X : Type 0} (n s : ℕ) (x : X) → slice_index_or (replicate n x) s x ≡ x
replicated {X} n s x = elim (cases_lt s n) [
  | inl low ↦ get_or-replicate n s x x low
  | inr high ↦ get_or_past (replicate n x) s x (omega (arith, length-replicate {A = X} n x))
]

-- the members of a set below a number stand up, and all else is down
pub record ShowsSoFar (up : List Bool) (at : ℕ) (standings : List Standing) : Type 0 where
  pub bound : length standings ≡ length up
  pub low : at ≤ length up
  pub shown : (s : ℕ) → s < at → slice_index_or standings s Down ≡ first_of up s
  pub rest : (s : ℕ) → at ≤ s → slice_index_or standings s Down ≡ Down

-- none yet
pub none_stand : (up : List Bool) (standings : List Standing)
    → standings ≡ replicate (length up) Down → ShowsSoFar up 0 standings
none_stand up standings is = record {
  bound = ap length is ∙ length-replicate (length up) Down;
  low = omega arith;
  shown = λ s low. absurd (omega arith);
  rest = λ s high. rw is (replicated (length up) s Down);
}

-- the next one stands up
pub next_stands : (up : List Bool) (at id : ℕ) (standings : List Standing)
    → ShowsSoFar up at standings → IsNextFrom (Has up) at id
    → ShowsSoFar up (id + 1) (slice_set standings id Up)
next_stands up at id standings before next =
    let low : id < length up = has_within up id next.holds in
    let within : id < length standings = omega (arith, before.bound) in
    record {
      bound = length-set standings id Up ∙ before.bound;
      low = omega arith;
      shown = λ s under. elim (cases_eq s id) [
        | inl same ↦
            let e : id ≡ s = sym same in
            subst (λ (q : ℕ). slice_index_or (slice_set standings id Up) q Down ≡ first_of up q) e
            (get_or-set_same standings id Up Down within ∙ sym (first_up up id next.holds))
        | inr other ↦
            get_or-set_other standings id s Up Down other
            ∙ (elim (cases_lt s at) [
              | inl passed ↦ before.shown s passed
              | inr from ↦
                  let front : s < id = omega (arith, other) in
                  before.rest s from ∙ sym (first_down up s (next.least s from front))
            ])
      ];
      rest = λ s high.
          let other : s ≢ id = omega arith in
          get_or-set_other standings id s Up Down other
          ∙ before.rest s (omega (arith, next.behind));
    }

-- there is no further one
pub all_stand : (up : List Bool) (at : ℕ) (standings : List Standing) → ShowsSoFar up at standings
    → HasNoneFrom (Has up) at → (s : ℕ) → slice_index_or standings s Down ≡ first_of up s
all_stand up at standings shows none s = elim (cases_lt s at) [
  | inl low ↦ shows.shown s low
  | inr high ↦ shows.rest s high ∙ sym (first_down up s (none s high))
]

-- where all stood up, and what the set lacks went down, each stands as the set says
pub all_sunk : (up : List Bool) (old new : List Standing) → old ≡ replicate (length up) Up
    → Fills (λ s. Has up s → ⊥) old new Down → (s : ℕ)
    → slice_index_or new s Down ≡ first_of up s
all_sunk up old new is fills s = elim (has_or_lacks up s) [
  | inl has ↦
      let low : s < length up = has_within up s has in
      let stood : slice_index_or old s Down ≡ Up =
      rw is (get_or-replicate (length up) s Up Down low) in
      fills.same s Down (λ lacks. lacks has) ∙ stood ∙ sym (first_up up s has)
  | inr lacks ↦ elim (cases_lt s (length old)) [
    | inl low ↦ fills.filled s Down low lacks ∙ sym (first_down up s lacks)
    | inr past ↦ get_or_past new s Down (omega (arith, past, fills.bound))
        ∙ sym (first_down up s lacks)
  ]
]

-- the members of a set below a number have their counts, and all else has what it had
pub record CountsSoFar (Is : ℕ → ℕ → Type 0) (set : List Bool) (at : ℕ) (old new : List ℕ) : Type
    0 where
  pub bound : length new ≡ length old
  pub low : at ≤ length set
  pub counts : (s : ℕ) → s < at → Has set s → Is s (slice_index new s)
  pub same : (s : ℕ) → ((s < at) × Has set s → ⊥) → slice_index new s ≡ slice_index old s

-- none yet
pub none_count : (Is : ℕ → ℕ → Type 0) (set : List Bool) (old : List ℕ)
    → CountsSoFar Is set 0 old old
none_count Is set old = record {
  bound = refl;
  low = omega arith;
  counts = λ s low. absurd (omega arith);
  same = λ s out. refl;
}

-- the next one has its count
pub next_counts : (Is : ℕ → ℕ → Type 0) (set : List Bool) (at id n : ℕ) (old mid : List ℕ)
    → CountsSoFar Is set at old mid → IsNextFrom (Has set) at id → id < length mid → Is id n
    → CountsSoFar Is set (id + 1) old (slice_set mid id n)
next_counts Is set at id n old mid before next within is =
    let low : id < length set = has_within set id next.holds in
    record {
      bound = length-set mid id n ∙ before.bound;
      low = omega arith;
      counts = λ s under has. elim (cases_eq s id) [
        | inl same ↦
            let e : id ≡ s = sym same in
            subst (λ (q : ℕ). Is q (slice_index (slice_set mid id n) q)) e
            (subst (Is id) (sym (get_or-set_same mid id n 0 within)) is)
        | inr other ↦
            subst (Is s) (sym (get_or-set_other mid id s n 0 other))
            (elim (cases_lt s at) [
              | inl passed ↦ before.counts s passed has
              | inr from ↦
                  let front : s < id = omega (arith, other) in
                  absurd (next.least s from front has)
            ])
      ];
      same = λ s out. elim (cases_eq s id) [
        | inl same ↦
            let here : s < id + 1 = omega arith in
            absurd (out (here, subst (Has set) (sym same) next.holds))
        | inr other ↦
            get_or-set_other mid id s n 0 other
            ∙ before.same s (λ h.
            let passed : s < at = h.0 in
            let under : s < id + 1 = omega (arith, next.behind) in
            out (under, h.1))
      ];
    }

-- there is no further one
pub all_count : (Is : ℕ → ℕ → Type 0) (set : List Bool) (at : ℕ) (old new : List ℕ)
    → CountsSoFar Is set at old new → HasNoneFrom (Has set) at → Counts Is set old new
all_count Is set at old new counts none = record {
  bound = counts.bound;
  counts = λ s has. elim (cases_lt s at) [
    | inl low ↦ counts.counts s low has
    | inr high ↦ absurd (none s high has)
  ];
  same = λ s lacks. counts.same s (λ h. lacks h.1);
}

-- no count yet
pub none_waited : (n s : ℕ) (waits : List ℕ) → waits ≡ replicate n 0 → slice_index waits s ≡ 0
none_waited n s waits is = rw is (replicated n s 0)

-- the next one of a set, of which a further fact holds, is listed
pub next_queued : (In : ℕ → Type 0) (set : List Bool) (at id : ℕ) (ids : List ℕ)
    → ListsBelow (λ s. Has set s × In s) at ids → IsNextFrom (Has set) at id → In id
    → ListsBelow (λ s. Has set s × In s) (id + 1) (ids ++ id ∷ [])
next_queued In set at id ids lists next holds =
    next_listed (λ s. Has set s × In s) at id ids lists (record {
      holds = (next.holds, holds);
      behind = next.behind;
      least = λ t from before h. next.least t from before h.0;
    })

-- or it is passed
pub next_passed_by : (In : ℕ → Type 0) (set : List Bool) (at id : ℕ) (ids : List ℕ)
    → ListsBelow (λ s. Has set s × In s) at ids → IsNextFrom (Has set) at id → (In id → ⊥)
    → ListsBelow (λ s. Has set s × In s) (id + 1) ids
next_passed_by In set at id ids lists next lacks =
    one_passed (λ s. Has set s × In s) id ids
    (none_between (λ s. Has set s × In s) at id ids lists next.behind
    (λ t from before h. next.least t from before h.0))
    (λ h. lacks h.1)

-- a list the other way round
module _ (P : ℕ → Type 0) (ids back : List ℕ) (n : ℕ) (lists : Lists P ids) (long : length ids ≡ n)
    (back_long : length back ≡ n) (turned : ReversedBelow ids back n) where
  -- has each service once
  pub once_back : AreDistinct back
  once_back i j d before within same =
      let first : slice_index_or back i d ≡ slice_index_or ids (n - 1 - i) d =
      turned i d (omega arith) in
      let second : slice_index_or back j d ≡ slice_index_or ids (n - 1 - j) d =
      turned j d (omega arith) in
      let less : slice_index_or ids (n - 1 - j) d < slice_index_or ids (n - 1 - i) d =
      lists.ascending (n - 1 - j) (n - 1 - i) d (omega arith) (omega arith) in
      omega (arith, first, second, less, same)

  -- and the same services
  pub same_back : (s : ℕ) → Contains back s ↔ P s
  same_back s = (
    λ (k, low, is).
        let here : k < n = omega arith in
        (lists.same s).0 (n - 1 - k, omega arith, sym (turned k s here) ∙ is),
    λ holds.
        let (k, low, is) = (lists.same s).1 holds in
        let place : n - 1 - k < n = omega arith in
        let twice : n - 1 - (n - 1 - k) ≡ k = omega arith in (
          n - 1 - k,
          omega arith,
          turned (n - 1 - k) s place ∙ (ap (λ (j : ℕ). slice_index_or ids j s) twice ∙ is),
        ),
  )

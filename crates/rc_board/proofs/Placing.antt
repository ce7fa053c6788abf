-- Pads that are read one event after the other.
use Rattle.std.proofs.Common.{◌≡◌, ◌∙◌, ℕ, suc, ◌+◌, ◌<◌, ◌≤◌, ◌==◌, ◌↔◌, Bool, true, false, List}
use Rattle.std.proofs.Common.{[], ◌∷◌, None, length, drop, replicate, get_or, slice_set}
use Rattle.std.proofs.Common.{get_or-set_same, get_or-set_other, inl, inr, refl, ap, sym, subst}
use Rattle.std.proofs.Common.{arith}
use Rattle.std.proofs.Math.Seq.{drop-cons}
use Rattle.std.proofs.Math.ListN.{drop_of_length-le}
use Rattle.std.proofs.lemmas.List.{get_or_default, get_or-replicate}
use Rattle.std.specs.List.{All}
use Rattle.std.proofs.lemmas.List.Elements.{All-nil, All-cons, All-head, All-tail}
use Rattle.std.proofs.lemmas.Bool.{eq-eqb, ne_eqb, cases_eq, cases_lt}
use Rattle.rc_model.specs.declared.Event.{Event}
use Rattle.rc_model.specs.declared.Event.TheVariants.{Stop}
use Rattle.rc_board.specs.declared.note.Note.{Note}
use Rattle.rc_board.specs.Made.{worker_of}
use Rattle.rc_board.specs.Pads.{Written, own, events_on, way_of}
use Rattle.rc_board.specs.Interleaving.{IsOfCrew, AreInterleaved}
use Rattle.rc_board.specs.Reading.{AreLeft, AreRest, IsNext}
use Rattle.rc_board.proofs.Joining.{own_head}

-- the event at this place is this one
abbrev pub IsAt : List Note → ℕ → Event → Type 0
IsAt notes at event = (at < length notes) × ((d : Note) → (get_or notes at d).event ≡ event)

own_other : (w : ℕ) (e : Event) (es : List Event) → (worker_of e == w) ≡ false
    → own w (e ∷ es) ≡ own w es
own_other w e es h = rw h refl

abbrev first_or : Event → List Event → Event
first_or e [] = e
first_or e (x ∷ xs) = x

abbrev rest_of : List Event → List Event
rest_of [] = []
rest_of (x ∷ xs) = xs

-- what is left on a pad from a place within it on
noted_from : (notes : List Note) (a : ℕ) (d : Note) → a < length notes
    → events_on (drop a notes) ≡ (get_or notes a d).event ∷ events_on (drop (a + 1) notes)
noted_from notes a d low =
    let one : suc a ≡ a + 1 = omega arith in
    subst (λ (n : ℕ). events_on (drop a notes) ≡ (get_or notes a d).event
    ∷ events_on (drop n notes)) one
    (ap (λ (ns : List Note). events_on ns) (drop-cons notes a d low))

-- an event that is next on its worker's pad
read_one : (w : ℕ) (e : Event) (rest : List Event) (notes : List Note) (a : ℕ)
    → (worker_of e == w) ≡ true → IsAt notes a e
    → (own w (e ∷ rest) ≡ events_on (drop a notes)) ↔ (own w rest ≡ events_on (drop (a + 1) notes))
read_one w e rest notes a mine next =
    let d : Note = record { event = e; way = None } in
    let cut : events_on (drop a notes) ≡ e ∷ events_on (drop (a + 1) notes) =
    subst (λ (x : Event). events_on (drop a notes) ≡ x ∷ events_on (drop (a + 1) notes)) (next.1 d)
    (noted_from notes a d next.0) in (
      λ same. ap rest_of (sym (own_head w e rest mine) ∙ same ∙ cut),
      λ same. own_head w e rest mine ∙ ap (λ (es : List Event). e ∷ es) same ∙ sym cut,
    )

-- one that stands on it is next
is_next : (w : ℕ) (e : Event) (rest : List Event) (notes : List Note) (a : ℕ)
    → (worker_of e == w) ≡ true → own w (e ∷ rest) ≡ events_on (drop a notes) → IsAt notes a e
is_next w e rest notes a mine same =
    let here : e ∷ own w rest ≡ events_on (drop a notes) = sym (own_head w e rest mine) ∙ same in
    elim (cases_lt a (length notes)) [
      | inl low ↦ (low, λ d. ap (first_or e) (sym (noted_from notes a d low) ∙ sym here))
      | inr high ↦ absurd
          (let none : e ∷ own w rest ≡ [] =
          here ∙ ap (λ (ns : List Note). events_on ns) (drop_of_length-le notes high) in cc)
    ]

-- one event further
pub read_on : (pads : List Written) (read : List ℕ) (e : Event) (rest : List Event) (k : ℕ)
    → worker_of e ≡ k + 1 → length pads ≤ length read
    → ((d : Written) → IsAt (get_or pads k d).notes (get_or read k 0) e)
    → AreLeft pads read (e ∷ rest)
    ↔ AreLeft pads (slice_set read k (get_or read k 0 + 1)) rest
read_on pads read e rest k worker room next =
    let a = get_or read k 0 in
    let read' = slice_set read k (a + 1) in
    let one : (j : ℕ) (d : Written) → j < length pads →
    (own (j + 1) (e ∷ rest) ≡ events_on (drop (get_or read j 0) (get_or pads j d).notes))
    ↔ (own (j + 1) rest ≡ events_on (drop (get_or read' j 0) (get_or pads j d).notes)) =
    λ j d low. elim (cases_eq j k) [
      | inl same ↦
          let mine : (worker_of e == j + 1) ≡ true =
          eq-eqb (worker_of e) (j + 1) (worker ∙ ap (λ (n : ℕ). n + 1) (sym same)) in
          let within : k < length read = omega (arith, same, low, room) in
          let at : get_or read' j 0 ≡ get_or read j 0 + 1 =
          subst (λ (n : ℕ). get_or read' n 0 ≡ get_or read n 0 + 1) (sym same)
          (get_or-set_same read k (a + 1) 0 within) in
          let there : IsAt (get_or pads j d).notes (get_or read j 0) e =
          subst (λ (n : ℕ). IsAt (get_or pads n d).notes (get_or read n 0) e) (sym same) (next d) in
          subst (λ (n : ℕ).
          (own (j + 1) (e ∷ rest) ≡ events_on (drop (get_or read j 0) (get_or pads j d).notes))
          ↔ (own (j + 1) rest ≡ events_on (drop n (get_or pads j d).notes))) (sym at)
          (read_one (j + 1) e rest (get_or pads j d).notes (get_or read j 0) mine there)
      | inr other ↦
          let not_mine : (worker_of e == j + 1) ≡ false =
          ne_eqb (worker_of e) (j + 1) (λ bad. other (omega (arith, bad, worker))) in
          let at : get_or read' j 0 ≡ get_or read j 0 =
          get_or-set_other read k j (a + 1) 0 other in
          let same : own (j + 1) (e ∷ rest) ≡ own (j + 1) rest =
          own_other (j + 1) e rest not_mine in (
            λ h. sym same ∙ h ∙ ap (λ (n : ℕ). events_on (drop n (get_or pads j d).notes)) (sym at),
            λ h. same ∙ h ∙ ap (λ (n : ℕ). events_on (drop n (get_or pads j d).notes)) at,
          )
    ] in
    (λ left j d low. (one j d low).0 (left j d low), λ left j d low. (one j d low).1 (left j d low))

-- something is left on a pad
pub not_end : (notes : List Note) (a : ℕ) → a < length notes → [] ≡ events_on (drop a notes) → ⊥
not_end notes a low none =
    let d : Note = record { event = Stop 0 0; way = None } in
    let bad : [] ≡ (get_or notes a d).event ∷ events_on (drop (a + 1) notes) =
    none ∙ noted_from notes a d low in
    cc

-- the pad at a place, whatever stands in for one that is none
pub pad_at : (pads : List Written) (k : ℕ) (pad : Written) (d : Written) → k < length pads
    → pad ≡ get_or pads k pad → get_or pads k d ≡ pad
pad_at pads k pad d low is = get_or_default pads k d pad low ∙ sym is

-- nothing is read at first
pub all_left : (pads : List Written) (read : List ℕ) (events : List Event)
    → read ≡ replicate 64 0 → length pads ≤ 64
    → ((k : ℕ) (d : Written) → k < length pads
    → own (k + 1) events ≡ events_on (get_or pads k d).notes)
    ↔ AreLeft pads read events
all_left pads read events fresh few =
    let none : (k : ℕ) → k < length pads → get_or read k 0 ≡ 0 =
    λ k low.
    let within : k < 64 = omega (arith, low, few) in
    ap (λ (r : List ℕ). get_or r k 0) fresh ∙ get_or-replicate 64 k 0 0 within in (
      λ whole k d low.
          subst (λ (n : ℕ). own (k + 1) events ≡ events_on (drop n (get_or pads k d).notes))
          (sym (none k low)) (whole k d low),
      λ left k d low.
          subst (λ (n : ℕ). own (k + 1) events ≡ events_on (drop n (get_or pads k d).notes))
          (none k low) (left k d low),
    )

-- the same by way of two others
pub by_both : {A B C : Type 0} → A ↔ B → B ↔ C → A ↔ C
by_both f g = (λ a. g.0 (f.0 a), λ c. f.1 (g.1 c))

-- each way on a pad is that of its service
abbrev pub HasWays : List Bool → List Note → Type 0
HasWays up notes = All (λ (note : Note). note.way ≡ way_of up note.event) notes

-- what is left from a place within a pad on has ways where that note has, and what comes after it
ways_cut : (up : List Bool) (notes : List Note) (a : ℕ) (d : Note) → a < length notes
    → drop a notes ≡ get_or notes a d ∷ drop (a + 1) notes
ways_cut up notes a d low =
    let one : suc a ≡ a + 1 = omega arith in
    subst (λ (n : ℕ). drop a notes ≡ get_or notes a d ∷ drop n notes) one (drop-cons notes a d low)

ways_on : (up : List Bool) (notes : List Note) (a : ℕ) (e : Event)
    → IsNext notes a e (way_of up e)
    → HasWays up (drop a notes) ↔ HasWays up (drop (a + 1) notes)
ways_on up notes a e next =
    let d : Note = record { event = e; way = None } in
    let P = λ (note : Note). note.way ≡ way_of up note.event in
    let cut = ways_cut up notes a d next.0 in
    let here : (get_or notes a d).way ≡ way_of up (get_or notes a d).event =
    next.2 d ∙ ap (λ (x : Event). way_of up x) (sym (next.1 d)) in (
      λ all. All-tail P (get_or notes a d) (drop (a + 1) notes)
          (subst (λ (ns : List Note). HasWays up ns) cut all),
      λ all. subst (λ (ns : List Note). HasWays up ns) (sym cut)
          (All-cons P (get_or notes a d) (drop (a + 1) notes) here all),
    )

-- the way of a note that is left on a pad
way_here : (up : List Bool) (notes : List Note) (a : ℕ) (d : Note) → a < length notes
    → HasWays up (drop a notes) → (get_or notes a d).way ≡ way_of up (get_or notes a d).event
way_here up notes a d low all =
    All-head (λ (note : Note). note.way ≡ way_of up note.event) (get_or notes a d)
    (drop (a + 1) notes)
    (subst (λ (ns : List Note). HasWays up ns) (ways_cut up notes a d low) all)

-- one event of the crew that is next on its pad, with the way of its service
pub rest_on : (up : List Bool) (pads : List Written) (read : List ℕ) (e : Event) (rest : List Event)
    (k : ℕ) → worker_of e ≡ k + 1 → k < length pads → length pads ≤ length read
    → ((d : Written) → IsNext (get_or pads k d).notes (get_or read k 0) e (way_of up e))
    → AreRest up pads read (e ∷ rest)
    ↔ AreRest up pads (slice_set read k (get_or read k 0 + 1)) rest
rest_on up pads read e rest k worker low room next =
    let a = get_or read k 0 in
    let read' = slice_set read k (a + 1) in
    let crew : IsOfCrew (length pads) e = (omega (arith, worker), omega (arith, worker, low)) in
    let each = read_on pads read e rest k worker room (λ d. ((next d).0, (next d).1)) in
    let ways : (j : ℕ) (d : Written) → j < length pads
    → HasWays up (drop (get_or read j 0) (get_or pads j d).notes)
    ↔ HasWays up (drop (get_or read' j 0) (get_or pads j d).notes) =
    λ j d within. elim (cases_eq j k) [
      | inl same ↦
          let inside : k < length read = omega (arith, low, room) in
          let at : get_or read' j 0 ≡ get_or read j 0 + 1 =
          subst (λ (n : ℕ). get_or read' n 0 ≡ get_or read n 0 + 1) (sym same)
          (get_or-set_same read k (a + 1) 0 inside) in
          let there : IsNext (get_or pads j d).notes (get_or read j 0) e (way_of up e) =
          subst (λ (n : ℕ). IsNext (get_or pads n d).notes (get_or read n 0) e (way_of up e))
          (sym same) (next d) in
          subst (λ (n : ℕ). HasWays up (drop (get_or read j 0) (get_or pads j d).notes)
          ↔ HasWays up (drop n (get_or pads j d).notes)) (sym at)
          (ways_on up (get_or pads j d).notes (get_or read j 0) e there)
      | inr other ↦
          let at : get_or read j 0 ≡ get_or read' j 0 =
          sym (get_or-set_other read k j (a + 1) 0 other) in
          subst (λ (n : ℕ). HasWays up (drop (get_or read j 0) (get_or pads j d).notes)
          ↔ HasWays up (drop n (get_or pads j d).notes)) at (λ h. h, λ h. h)
    ] in (
      λ left. record {
        numbers = All-tail (IsOfCrew (length pads)) e rest left.numbers;
        each = each.0 left.each;
        ways = λ j d within. (ways j d within).0 (left.ways j d within);
      },
      λ left. record {
        numbers = All-cons (IsOfCrew (length pads)) e rest crew left.numbers;
        each = each.1 left.each;
        ways = λ j d within. (ways j d within).1 (left.ways j d within);
      },
    )

-- an event that is not next on its pad with the way of its service
pub rest_stuck : (up : List Bool) (pads : List Written) (read : List ℕ) (e : Event)
    (rest : List Event) (k : ℕ) (d : Written) → worker_of e ≡ k + 1 → k < length pads
    → (IsNext (get_or pads k d).notes (get_or read k 0) e (way_of up e) → ⊥)
    → AreRest up pads read (e ∷ rest) → ⊥
rest_stuck up pads read e rest k d worker low not_next left =
    let notes = (get_or pads k d).notes in
    let a = get_or read k 0 in
    let at : IsAt notes a e =
    is_next (k + 1) e rest notes a (eq-eqb (worker_of e) (k + 1) worker) (left.each k d low) in
    not_next (
      at.0,
      at.1,
      λ n. way_here up notes a n at.0 (left.ways k d low)
          ∙ ap (λ (x : Event). way_of up x) (at.1 n),
    )

-- nothing is read at first
pub all_rest : (up : List Bool) (pads : List Written) (read : List ℕ) (events : List Event)
    → read ≡ replicate 64 0 → length pads ≤ 64
    → AreInterleaved up pads events ↔ AreRest up pads read events
all_rest up pads read events fresh few =
    let none : (k : ℕ) → k < length pads → get_or read k 0 ≡ 0 =
    λ k low.
    let within : k < 64 = omega (arith, low, few) in
    ap (λ (r : List ℕ). get_or r k 0) fresh ∙ get_or-replicate 64 k 0 0 within in
    let each = all_left pads read events fresh few in (
      λ whole. record {
        numbers = whole.numbers;
        each = each.0 whole.each;
        ways = λ k d low. subst (λ (n : ℕ). HasWays up (drop n (get_or pads k d).notes))
            (sym (none k low)) (whole.ways k d low);
      },
      λ left. record {
        numbers = left.numbers;
        each = each.1 left.each;
        ways = λ k d low. subst (λ (n : ℕ). HasWays up (drop n (get_or pads k d).notes))
            (none k low) (left.ways k d low);
      },
    )

ways_none : (up : List Bool) (notes : List Note) → [] ≡ events_on notes → HasWays up notes
ways_none up [] none = All-nil (λ (note : Note). note.way ≡ way_of up note.event)
ways_none up (note ∷ notes) none = absurd (let bad : [] ≡ note.event ∷ events_on notes = none in cc)

-- no event is left
pub rest_end : (up : List Bool) (pads : List Written) (read : List ℕ)
    → AreRest up pads read [] ↔ AreLeft pads read []
rest_end up pads read = (
  λ left. left.each,
  λ left. record {
    numbers = All-nil (IsOfCrew (length pads));
    each = left;
    ways = λ k d low. ways_none up (drop (get_or read k 0) (get_or pads k d).notes) (left k d low);
  },
)

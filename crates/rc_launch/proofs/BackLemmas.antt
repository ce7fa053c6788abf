-- An undo that goes back to a state, undo by undo.
use Rattle.std.proofs.Common.{◌≡◌, ◌∙◌, ◌<◌, ◌-◌, ◌+◌, ◌==◌, ◌||◌, ℕ, zero, suc, Bool, true, false}
use Rattle.std.proofs.Common.{List, Option, None, Some, Result, Ok, IfOk, ap, arith, nat_lt, not}
use Rattle.std.proofs.Common.{refl, subst, sym}
use Rattle.std.proofs.lemmas.Bool.{eqb-false, eqb-true, ltb-false, not-false, or_parts}
use Rattle.rc_historytext.specs.Halting.{Halts}
use Rattle.rc_historytext.specs.Travelling.{Travels}
use Rattle.rc_launch.specs.Back.{ComesBackTo, CountsBack, StandsOn, StopsBefore, UndoesTo, is_stop}
use Rattle.rc_launch.specs.Back.{steps_by, stops_from}
use Rattle.rc_launch.specs.Halted.{IsRefusedOn}
use Rattle.rc_launch.specs.HeldHistory.{Leads}
use Rattle.rc_launch.specs.Numbers.{AreNumbered}
use Rattle.rc_launch.specs.declared.live_store.LiveStore.{LiveStore}
use Rattle.rc_model.proofs.Tests.{told}

-- without an undo a store is as it was
pub undoes_none : (old : LiveStore) → Leads old old (UndoesTo 0)
undoes_none old was held = (was, held, refl)

-- one more undo
pub undoes_on : (n : ℕ) (old between new : LiveStore) → Leads old between (UndoesTo n)
    → Leads between new (Travels false) → Leads old new (UndoesTo (suc n))
undoes_on n old between new before step was held =
    let here = before was held in
    let next = step here.0 here.1 in
    (next.0, next.1, (here.0, here.2, next.2))

-- the undo behind so many does not go well
pub stops_behind : (n steps : ℕ) (old between new : LiveStore) → n < steps
    → Leads old between (UndoesTo n) → Leads between new (Halts false)
    → Leads old new (StopsBefore steps)
stops_behind n steps old between new fewer before step was held =
    let here = before was held in
    let next = step here.0 here.1 in
    (next.0, next.1, (n, fewer, here.0, here.2, next.2))

-- the first undo is refused
pub refused_first : (n : ℕ) (old between new : LiveStore) → n ≡ 0
    → Leads old between (UndoesTo n) → Leads between new (IsRefusedOn false)
    → Leads old new (IsRefusedOn false)
refused_first n old between new first before step was held =
    let here = before was held in
    let next = step here.0 here.1 in
    let same : here.0 ≡ was = subst (λ (k : ℕ). UndoesTo k was here.0) first here.2 in
    (next.0, next.1, subst (λ (b : List ℕ). IsRefusedOn false b next.0) same next.2)

-- so many undos, by another count
pub undoes_by : (n m : ℕ) (old new : LiveStore) → n ≡ m → Leads old new (UndoesTo n)
    → Leads old new (UndoesTo m)
undoes_by n m old new same leads = subst (λ (k : ℕ). Leads old new (UndoesTo k)) same leads

-- from a stop on there is one at least
some_stop : (marks : List Bool) (state n : ℕ) → is_stop marks state ≡ true
    → 0 < stops_from marks state (suc n)
some_stop marks state zero stop =
    let here : is_stop marks (state + 0) ≡ true =
    ap (is_stop marks) (omega arith) ∙ stop in
    rw here (omega arith)
some_stop marks state (suc n) stop =
    let before : 0 < stops_from marks state (suc n) = some_stop marks state n stop in
    omega (arith, before)

ways_some : (marks : List Bool) (state left : ℕ) → 0 < left → is_stop marks state ≡ true
    → 0 < stops_from marks state left
ways_some marks state zero some stop = absurd (omega (arith, some))
ways_some marks state (suc n) some stop = some_stop marks state n stop

-- no undo leads to a state only where it is the current one
steps_none : (state at : ℕ) (marks : List Bool) → Some 0 ≡ steps_by state at marks → at ≡ state
steps_none state at marks is = told (at == state) _
    (λ yes. eqb-true at state yes)
    (λ no. told (nat_lt at state || not (is_stop marks state)) _
    (λ yes. let nothing : Some 0 ≡ None = rw yes at (rw no at is) in cc)
    (λ some.
    let left : Some 0 ≡ Some (stops_from marks state (at - state)) = rw some at (rw no at is) in
    let none : stops_from marks state (at - state) ≡ 0 = cc in
    let parts = or_parts (nat_lt at state) (not (is_stop marks state)) some in
    let stop : is_stop marks state ≡ true = not-false (is_stop marks state) parts.1 in
    let more : 0 < at - state =
    omega (arith, ltb-false at state parts.0, eqb-false at state no) in
    absurd (omega (arith, none, ways_some marks state (at - state) more stop))))

-- a history on whose current state there is no undo to make stands on the state
pub stands_on : (state : ℕ) (bytes : List ℕ) (now : ℕ) → CountsBack state bytes (Some now)
    → now ≡ 0 → StandsOn state bytes
stands_on state bytes now (at, marks, are, is) none = (
  marks,
  subst (λ (n : ℕ). AreNumbered bytes n marks)
      (steps_none state at marks (ap (λ (k : ℕ). Some k) (sym none) ∙ is)) are,
)

-- it is where it was to go
pub comes_here : (state : ℕ) (bytes : List ℕ) (steps : ℕ) → CountsBack state bytes (Some steps)
    → steps ≡ 0 → ComesBackTo state bytes bytes
comes_here state bytes steps counts none = (
  steps,
  counts,
  (
    subst (λ (k : ℕ). UndoesTo k bytes bytes) (sym none) refl,
    stands_on state bytes steps counts none,
  ),
)

-- a count that was made of a text is one of the text that is held
pub counted : (E : Type 0) (result : Result (Option ℕ) E) (found : Option ℕ) (state : ℕ)
    (bytes was : List ℕ) (steps : ℕ) → result ≡ Ok found
    → IfOk result (CountsBack state bytes) → found ≡ Some steps → bytes ≡ was
    → CountsBack state was (Some steps)
counted E result found state bytes was steps is counts some same =
    let first : CountsBack state bytes found =
    subst (λ (r : Result (Option ℕ) E). IfOk r (CountsBack state bytes)) is counts in
    let second : CountsBack state bytes (Some steps) =
    subst (λ (f : Option ℕ). CountsBack state bytes f) some first in
    subst (λ (h : List ℕ). CountsBack state h (Some steps)) same second

-- An undo that goes back to a state of the journal, by one undo after the other.
use Rattle.std.specs.Prelude.{◌≡◌, ◌<◌, ◌-◌, ◌+◌, ◌==◌, ◌||◌, ℕ, zero, suc, Bool, false, not}
use Rattle.std.specs.Prelude.{nat_lt, List, Option, None, Some, if◌then◌else◌, slice_index_or}
use Rattle.rc_historytext.specs.Halting.{Halts}
use Rattle.rc_historytext.specs.Travelling.{Travels}
use Rattle.rc_launch.specs.Numbers.{AreNumbered}

-- an undo stops at the state of this number: it is the oldest one, or its mark says so
abbrev pub is_stop : (marks : List Bool) → (state : ℕ) → Bool
is_stop marks state = state == 0 || not (slice_index_or marks state false)

-- how many of so many states are stops, from one of this number on
abbrev pub stops_from : (marks : List Bool) → (state count : ℕ) → ℕ
stops_from marks state zero = 0
stops_from marks state (suc n) =
    stops_from marks state n + (if is_stop marks (state + n) then 1 else 0)

-- how many undos lead from one state back to another, if an undo stops there: one to each stop
abbrev pub steps_by : (state : ℕ) → (at : ℕ) → (marks : List Bool) → Option ℕ
steps_by state at marks = if at == state then Some 0
    else if nat_lt at state || not (is_stop marks state) then None
    else Some (stops_from marks state (at - state))

-- how many lead to a state of this number from where a history stands
abbrev pub CountsBack : (state : ℕ) → (bytes : List ℕ) → Option ℕ → Type 0
CountsBack state bytes steps = (at : ℕ) × (marks : List Bool) × AreNumbered bytes at marks
    × (steps ≡ steps_by state at marks)

-- so many undos lead there, each of which goes well
abbrev pub UndoesTo : ℕ → (bytes next : List ℕ) → Type 0
UndoesTo zero bytes next = next ≡ bytes
UndoesTo (suc n) bytes next =
    (between : List ℕ) × UndoesTo n bytes between × Travels false between next

-- fewer undos than these go well, and then one does not
abbrev pub StopsBefore : ℕ → (bytes next : List ℕ) → Type 0
StopsBefore steps bytes next = (n : ℕ) × (n < steps) × (between : List ℕ)
    × UndoesTo n bytes between × Halts false between next

-- a history stands on the state of this number
abbrev pub StandsOn : (state : ℕ) → (bytes : List ℕ) → Type 0
StandsOn state bytes = (marks : List Bool) × AreNumbered bytes state marks

-- so many undos lead to a state, and the history stands on that then
abbrev pub ArrivesBy : (state steps : ℕ) → (bytes next : List ℕ) → Type 0
ArrivesBy state steps bytes next = UndoesTo steps bytes next × StandsOn state next

-- all undos of the way back to a state are done, and the history stands on that then
abbrev pub ComesBackTo : (state : ℕ) → (bytes next : List ℕ) → Type 0
ComesBackTo state bytes next = (steps : ℕ) × CountsBack state bytes (Some steps)
    × ArrivesBy state steps bytes next

-- there is a way back to a state, and fewer undos than it takes go well
abbrev pub StopsBack : (state : ℕ) → (bytes next : List ℕ) → Type 0
StopsBack state bytes next = (steps : ℕ) × CountsBack state bytes (Some steps)
    × StopsBefore steps bytes next

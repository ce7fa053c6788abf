-- What the states of a text make, for reading alone. No public contract speaks of it.
use Rattle.std.specs.Prelude.{◌≡◌, ◌≤◌, ◌<◌, max, ℕ, Bool, List, length, map, All, Option, Some}
use Rattle.std.specs.Prelude.{None}
use Rattle.rc_model.specs.Names.{Has}
use Rattle.rc_model.specs.Graph.{IsClosed}
use Rattle.rc_model.specs.Database.{Bundles, HaveBound, Database}
use Rattle.rc_model.specs.Line.{State, Line, DifferInTurn}
use Rattle.rc_line.specs.State.{states_of}
use Rattle.rc_livetext.specs.Text.{LiveText, StateText}
use Rattle.rc_livetext.specs.declared.fault.LiveFault.{LiveFault}
use Rattle.rc_livetext.specs.declared.fault.LiveFault.TheVariants.{NotClosed, SameState, OverBound}
use Rattle.rc_livetext.specs.Meaning.{IsFirstNot, most_states}
use Rattle.rc_livetext.specs.Spelling.{state_text, text_of, old_text_of, usual_bound}

-- states as a text gives them
abbrev pub state_texts : List (List ℕ) → List (List Bool × Bundles) → List StateText
state_texts names held = map (state_text names) (states_of held)

-- the sets of the state have this bound
pub record IsWithin (bound : ℕ) (s : State) : Type 0 where
  pub live : length s.live ≡ bound
  pub sets : HaveBound bound s.table

-- what is up in the state has all that it needs up
unfoldable pub HasNeeds : List (List ℕ) → State → Type 0
HasNeeds needs s = IsClosed needs (Has s.live)

-- how many states there may be in a line of so many, where a text says this
abbrev pub bound_for : Option ℕ → ℕ → ℕ
bound_for (Some bound) count = bound
bound_for None count = max 1024 count

-- the states make a line in which there may be so many
pub record MakeLine (needs : List (List ℕ)) (said : Option ℕ) (held : List State) (bound : ℕ)
    : Type 0 where
  pub closed : All (HasNeeds needs) held
  pub differ : DifferInTurn held
  pub three : 3 ≤ bound
  pub few : length held ≤ bound
  pub is : bound ≡ bound_for said (length held)

-- why the states make no line
abbrev pub MakeNone : List (List ℕ) → Option ℕ → List State → LiveFault → Type 0
MakeNone needs said held (NotClosed place) = IsFirstNot (HasNeeds needs) held place
MakeNone needs said held SameState = All (HasNeeds needs) held × (DifferInTurn held → ⊥)
MakeNone needs said held OverBound =
    All (HasNeeds needs) held × DifferInTurn held × (most_states said < length held)
MakeNone needs said held fault = ⊥

-- the text is that of the line, or the older one, and then the bound is the usual one
abbrev pub IsTextOf : Database → LiveText → Line → Option ℕ → Type 0
IsTextOf d t line (Some bound) = t ≡ text_of d line
IsTextOf d t line None = (t ≡ old_text_of d line) × (line.bound ≡ usual_bound line)

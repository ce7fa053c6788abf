-- How far the pads are read.
use Rattle.std.specs.Prelude.{◌≡◌, ◌+◌, ◌<◌, ◌↔◌, ◌∷◌, ℕ, Bool, true, false, List, Option, All}
use Rattle.std.specs.Prelude.{length, drop, slice_index_or}
use Rattle.rc_graph.specs.declared.Way.{Way}
use Rattle.rc_model.specs.declared.Event.{Event}
use Rattle.rc_board.specs.declared.note.Note.{Note}
use Rattle.rc_board.specs.Interleaving.{IsOfCrew}
use Rattle.rc_board.specs.Pads.{Written, events_on, own, way_of}

-- the event at this place is this one, with this way
abbrev pub IsNext : List Note → ℕ → Event → Option Way → Type 0
IsNext notes at event way = (at < length notes)
    × ((d : Note) → (slice_index_or notes at d).event ≡ event)
    × ((d : Note) → (slice_index_or notes at d).way ≡ way)

-- after these places stands on each pad what its worker made of these events
abbrev pub AreLeft : List Written → List ℕ → List Event → Type 0
AreLeft pads read events = (k : ℕ) (d : Written) → k < length pads
    → own (k + 1) events ≡ events_on (drop (slice_index_or read k 0)
    (slice_index_or pads k d).notes)

-- these events are an interleaving of what stands after these places
pub record AreRest (up : List Bool) (pads : List Written) (read : List ℕ) (events : List Event)
    : Type 0 where
  pub numbers : All (IsOfCrew (length pads)) events
  pub each : AreLeft pads read events
  pub ways : (k : ℕ) (d : Written) → k < length pads
      → All (λ (note : Note). note.way ≡ way_of up note.event)
      (drop (slice_index_or read k 0) (slice_index_or pads k d).notes)

-- one event is read, whatever comes after it, or it does not stand there
abbrev pub ReadsOn : List Bool → List Written → List ℕ → Event → Bool → List ℕ → Type 0
ReadsOn up pads read event true read' = (rest : List Event)
    → AreRest up pads read (event ∷ rest) ↔ AreRest up pads read' rest
ReadsOn up pads read event false read' = (rest : List Event)
    → AreRest up pads read (event ∷ rest) → ⊥

-- What a worker writes down: its pad.
use Rattle.std.specs.Prelude.{◌≡◌, ◌==◌, ◌++◌, ◌∷◌, ◌-◌, ℕ, Bool, List, [], Option, Some, None, All}
use Rattle.std.specs.Prelude.{map}
use Rattle.std.specs.List.{filter}
use Rattle.rc_graph.specs.declared.Way.{Way}
use Rattle.rc_model.specs.declared.Outcome.{Outcome}
use Rattle.rc_model.specs.declared.Event.{Event}
use Rattle.rc_model.specs.declared.Event.TheVariants.{Take, Done, Stop}
use Rattle.rc_core.specs.declared.took.Took.{Took}
use Rattle.rc_core.specs.declared.took.Took.TheVariants as took
use Rattle.rc_board.specs.declared.note.Note.{Note}
use Rattle.rc_board.specs.Made.{worker_of, way_from, IsInTime}

-- a pad: what its worker has written down, and for how much more there is room
pub record Written : Type 0 where
  pub notes : List Note
  pub room : ℕ

-- one more event is written down, with the way of its job
abbrev pub with_note : Written → Event → Option Way → Written
with_note pad event way =
    let note : Note = record { event = event; way = way } in
    record { notes = pad.notes ++ note ∷ []; room = pad.room - 1 }

-- what a worker writes down that asked for a job: its take, where it was given one
abbrev pub NotesTook : Written → ℕ → Took → Written → Type 0
NotesTook old w (took.Job job) new = new ≡ with_note old (Take w job.service) (Some job.way)
NotesTook old w took.Wait new = new ≡ old
NotesTook old w took.Settled new = new ≡ old

-- the events on a pad
abbrev pub events_on : List Note → List Event
events_on notes = map (λ (note : Note). note.event) notes

-- the events that a worker made
abbrev pub own : ℕ → List Event → List Event
own w events = filter (λ event. worker_of event == w) events

-- what is written down tells of a gate what it may say: an outcome that it may answer for the
-- service and the way written beside it, a moment that it may give, or, where a service was taken,
-- that it may give one before the deadline
abbrev pub IsSaidWith : (ℕ → Way → Outcome → Type 0) → (ℕ → Type 0) → Option ℕ → Event
    → Option Way → Type 0
IsSaidWith Answers Gives deadline (Take w s) way = IsInTime Gives deadline
IsSaidWith Answers Gives deadline (Done w s o) (Some way) = Answers s way o
IsSaidWith Answers Gives deadline (Done w s o) None = ⊥
IsSaidWith Answers Gives deadline (Stop w m) way = Gives m

-- all on a pad does
abbrev pub AreSaid : (ℕ → Way → Outcome → Type 0) → (ℕ → Type 0) → Option ℕ → List Note → Type 0
AreSaid Answers Gives deadline notes =
    All (λ (note : Note). IsSaidWith Answers Gives deadline note.event note.way) notes

-- the way of an event where this is up at first; a stop has none
abbrev pub way_of : List Bool → Event → Option Way
way_of up (Take w s) = Some (way_from up s)
way_of up (Done w s o) = Some (way_from up s)
way_of up (Stop w m) = None

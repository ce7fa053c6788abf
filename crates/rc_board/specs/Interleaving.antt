-- The events on the board are an interleaving of those on the workers' pads.
use Rattle.std.specs.Prelude.{◌≡◌, ◌+◌, ◌<◌, ◌≤◌, ℕ, Bool, List, Option, All, length}
use Rattle.std.specs.Prelude.{slice_index_or}
use Rattle.rc_model.specs.Plan.{PlanSets}
use Rattle.rc_model.specs.declared.Event.{Event}
use Rattle.rc_model.specs.Run.{course_of, IsSettled}
use Rattle.rc_core.specs.Settled.{RunSoFar}
use Rattle.rc_board.specs.declared.note.Note.{Note}
use Rattle.rc_board.specs.Made.{worker_of}
use Rattle.rc_board.specs.Pads.{Written, events_on, own, way_of}

-- a worker with a number up to this one made the event
abbrev pub IsOfCrew : ℕ → Event → Type 0
IsOfCrew workers event = (1 ≤ worker_of event) × (worker_of event ≤ workers)

-- the events are an interleaving of the pads, from what was up at first: those of worker k + 1 are
-- what stands on pad k, there are no others, and each way on a pad is that of its service
pub record AreInterleaved (up : List Bool) (pads : List Written) (events : List Event) : Type 0
  where
    pub numbers : All (IsOfCrew (length pads)) events
    pub each : (k : ℕ) (d : Written) → k < length pads
        → own (k + 1) events ≡ events_on (slice_index_or pads k d).notes
    pub ways : All (λ (pad : Written).
        All (λ (note : Note). note.way ≡ way_of up note.event) pad.notes) pads

-- the board that the workers leave is that of the plan that was begun, its run is settled, and
-- their pads make it
pub record IsMadeByPads (needs : List (List ℕ)) (plan : PlanSets) (deadline : Option ℕ)
    (pads : List Written) (run : RunSoFar) : Type 0 where
  pub course : run.course ≡ course_of needs plan deadline
  pub settled : IsSettled run.course run.events
  pub interleaved : AreInterleaved plan.opening pads run.events

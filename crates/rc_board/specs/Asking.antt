-- What a worker writes down for the answer of a gate, and for what it is told when it asks for a
-- job.
use Rattle.std.specs.Prelude.{◌≡◌, ◌⊎◌, ◌<◌, ℕ, Some, None}
use Rattle.rc_graph.specs.declared.Way.{Way}
use Rattle.rc_model.specs.declared.Outcome.{Outcome}
use Rattle.rc_model.specs.declared.Event.TheVariants.{Take, Done, Stop}
use Rattle.rc_model.specs.Run.{IsLegal}
use Rattle.rc_core.specs.Settled.{RunSoFar, with_event}
use Rattle.rc_board.specs.declared.time.Time.{Time}
use Rattle.rc_board.specs.declared.time.Time.TheVariants.{Late, Early}
use Rattle.rc_board.specs.declared.worker.Asked.{Asked}
use Rattle.rc_board.specs.declared.worker.Asked.TheVariants.{Job, Again, Stopped, Over}
use Rattle.rc_board.specs.declared.transition.Taken.{Taken}
use Rattle.rc_board.specs.declared.transition.Made.{Made}
use Rattle.rc_board.specs.Pads.{Written, with_note}

-- the transition of a job was made: it is that of its worker, service and way, and a gate may
-- answer so for it
pub record IsMadeOf (Answers : ℕ → Way → Outcome → Type 0) (taken : Taken) (made : Made) : Type
    0 where
  pub worker : made.worker ≡ taken.job.worker
  pub service : made.service ≡ taken.job.service
  pub way : made.way ≡ taken.job.way
  pub answered : Answers made.service made.way made.outcome

-- what a worker has written down after it told how the transition of a job ended: that, or nothing
-- where the board refuses it
abbrev pub NotesEnd : Written → Taken → Outcome → Written → Type 0
NotesEnd old taken outcome new =
    (new ≡ with_note old (Done taken.job.worker taken.job.service outcome) (Some taken.job.way))
    ⊎ (new ≡ old)

-- how a transition ended is an event of its worker, which is made on the board and written down
-- where there is room on the pad and the event is legal; else nothing changes
abbrev pub EntersEnd : RunSoFar → Written → Made → RunSoFar → Written → Type 0
EntersEnd old pad made new noted =
    let event = Done made.worker made.service made.outcome in
    ((0 < pad.room) × IsLegal old.course old.events event × (new ≡ with_event old event)
    × (noted ≡ with_note pad event (Some made.way)))
    ⊎ ((0 < pad.room → IsLegal old.course old.events event → ⊥) × (new ≡ old) × (noted ≡ pad))

-- what a worker has written down after it asked for a job: its take, where it was early and was
-- given one, or its stop at the moment that was late
abbrev pub NotesAsked : Written → ℕ → Time → Asked → Written → Type 0
NotesAsked old w (Late moment) (Job taken) new = ⊥
NotesAsked old w (Early leave) (Job taken) new =
    (taken.job.worker ≡ w)
    × (new ≡ with_note old (Take w taken.job.service) (Some taken.job.way))
NotesAsked old w time Again new = new ≡ old
NotesAsked old w (Late moment) Stopped new = new ≡ with_note old (Stop w moment) None
NotesAsked old w (Early leave) Stopped new = ⊥
NotesAsked old w time Over new = new ≡ old

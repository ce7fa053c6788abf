-- What a worker says of its gate as it writes more down.
use Rattle.std.proofs.Common.{◌≡◌, inl, inr, ℕ, Option, Some, None, sym, subst}
use Rattle.std.proofs.lemmas.List.Elements.{All-push}
use Rattle.rc_graph.specs.declared.Way.{Way}
use Rattle.rc_model.specs.declared.Outcome.{Outcome}
use Rattle.rc_model.specs.declared.Event.{Event}
use Rattle.rc_model.specs.declared.Event.TheVariants.{Take, Done, Stop}
use Rattle.rc_board.specs.declared.note.Note.{Note}
use Rattle.rc_board.specs.declared.time.Time.{Time}
use Rattle.rc_board.specs.declared.time.Time.TheVariants.{Late, Early}
use Rattle.rc_board.specs.declared.worker.Asked.{Asked}
use Rattle.rc_board.specs.declared.worker.Asked.TheVariants.{Job, Again, Stopped, Over}
use Rattle.rc_board.specs.declared.transition.Taken.{Taken}
use Rattle.rc_board.specs.declared.transition.Made.{Made}
use Rattle.rc_board.specs.Asking.{NotesAsked, NotesEnd, IsMadeOf}
use Rattle.rc_board.specs.Timing.{IsTimeOf}
use Rattle.rc_board.specs.Pads.{Written, with_note, AreSaid, IsSaidWith}
use Rattle.rc_board.proofs.Timing.{in_time, given_late}

module _ (Answers : ℕ → Way → Outcome → Type 0) (Gives : ℕ → Type 0) (deadline : Option ℕ)
    (old new : Written)
    (said : AreSaid Answers Gives deadline old.notes) where
  said_still : new ≡ old → AreSaid Answers Gives deadline new.notes
  said_still same =
      subst (λ (pad : Written). AreSaid Answers Gives deadline pad.notes) (sym same) said

  said_more : (event : Event) (way : Option Way) → IsSaidWith Answers Gives deadline event way
      → new ≡ with_note old event way → AreSaid Answers Gives deadline new.notes
  said_more event way one is =
      subst (λ (pad : Written). AreSaid Answers Gives deadline pad.notes) (sym is)
      (All-push (λ (note : Note). IsSaidWith Answers Gives deadline note.event note.way)
      old.notes _ said
      one)

  -- after a worker told how a transition ended
  pub said_end : (taken : Taken) (made : Made) → IsMadeOf Answers taken made
      → NotesEnd old taken made.outcome new → AreSaid Answers Gives deadline new.notes
  said_end taken made of ends = elim ends [
    | inl is ↦ said_more (Done taken.job.worker taken.job.service made.outcome)
        (Some taken.job.way) (rw (of.service, of.way) at of.answered) is
    | inr same ↦ said_still same
  ]

  -- and after it asked
  pub said_asked : (worker : ℕ) (time : Time) (asked : Asked) → IsTimeOf Gives deadline time
      → NotesAsked old worker time asked new → AreSaid Answers Gives deadline new.notes
  said_asked worker (Late moment) (Job taken) told is = absurd is
  said_asked worker (Early leave) (Job taken) told is =
      said_more (Take worker taken.job.service) (Some taken.job.way)
      (in_time Gives deadline leave.moment told) is.1
  said_asked worker (Late moment) Again told is = said_still is
  said_asked worker (Early leave) Again told is = said_still is
  said_asked worker (Late moment) Stopped told is =
      said_more (Stop worker moment) None (given_late Gives deadline moment told) is
  said_asked worker (Early leave) Stopped told is = absurd is
  said_asked worker (Late moment) Over told is = said_still is
  said_asked worker (Early leave) Over told is = said_still is

-- Where all that was planned is done, what is live is the target.
use Rattle.std.proofs.Common.{◌≡◌, ◌∙◌, ◌<◌, inl, inr, ℕ, Bool, List, [], ◌∷◌, Contains, refl}
use Rattle.std.proofs.Common.{sym, subst, arith}
use Rattle.rc_model.specs.Headline.{TargetOfCommand, HasRun}
use Rattle.rc_model.specs.Names.{Has, Holds}
use Rattle.rc_model.proofs.SetMembers.{has_or_lacks}
use Rattle.rc_graph.specs.declared.Way.{Way}
use Rattle.rc_model.specs.Database.{Database, IsDatabase}
use Rattle.rc_model.specs.declared.Event.{Event}
use Rattle.rc_model.specs.declared.Outcome.{Outcome}
use Rattle.rc_model.specs.declared.Standing.TheVariants.{Down, Up}
use Rattle.rc_model.specs.Run.{Course, IsPlanned, course_of, HasFailed, IsStopped, WasTaken, IsLeft}
use Rattle.rc_model.specs.Run.{IsLive, IsSettled, standing_of}
use Rattle.rc_model.specs.Beside.{IsCourse, TargetOf}
use Rattle.rc_core.proofs.Ends.{came_up, never_sinking, stood_down, stood_up, up_is_not_down}
use Rattle.rc_core.proofs.Ends.{went_down}
use Rattle.rc_model.proofs.RunLemmas.{taken_was_planned}
use Rattle.rc_core.proofs.Stories.{IsAtRest, at_rest}
use Rattle.rc_model.specs.Line.{Line}
use Rattle.rc_model.specs.Session.{Command, Change, Undo, Redo, Add, Delete, events_of, Does}
use Rattle.rc_model.specs.Session.{IsLineOf, DoesByRun, Reported}
use Rattle.rc_session.specs.Commands.{with_events}
use Rattle.rc_session.proofs.Courses.{task_is_course}
use Rattle.rc_session.proofs.Arriving.{aims_as_asked}
use Rattle.rc_session.proofs.Promising.{moved_live}
use Rattle.rc_script.specs.Says.{Saying, SaysNothing, SaysWrong, SaysStep, SaysDry, SaysLive}
use Rattle.rc_script.specs.Says.{SaysBundles, SaysJournal}
use Rattle.rc_serve.specs.declared.ending.Ending.{Ending}
use Rattle.rc_serve.specs.declared.ending.Ending.TheVariants.{Done, Refused, Hindered}
use Rattle.rc_serve.specs.Ending.{ArrivesSaying, Ends, IsDoneAs, ending_by, ending_of}

-- there is none of all of these
abbrev AreNone : (failed blocked untried : List ℕ) → Type 0
AreNone failed blocked untried = (failed ≡ []) × (blocked ≡ []) × (untried ≡ [])

done_is_none : (failed blocked untried : List ℕ) → ending_by failed blocked untried ≡ Done
    → AreNone failed blocked untried
done_is_none [] [] [] is = (refl, refl, refl)
done_is_none [] [] (s ∷ untried) is = let bad : Hindered ≡ Done = is in cc
done_is_none [] (s ∷ blocked) untried is = let bad : Hindered ≡ Done = is in cc
done_is_none (s ∷ failed) blocked untried is = let bad : Hindered ≡ Done = is in cc

none_in : (list : List ℕ) (s : ℕ) → list ≡ [] → Contains list s → ⊥
none_in list s none found =
    let at : Contains [] s = subst (λ (l : List ℕ). Contains l s) none found in
    let below : at.0 < 0 = at.1 in
    omega arith

module _ (c : Course) (events : List Event) (course : IsCourse c) (settled : IsSettled c events)
    (none_failed : (s : ℕ) → HasFailed events s → ⊥)
    (none_left : (s : ℕ) → IsLeft c events s → ⊥) where
  rests : (s : ℕ) → IsAtRest c events s
  rests = at_rest c events settled.run settled.none_held

  planned : (s : ℕ) → WasTaken events s → IsPlanned c s
  planned s was = taken_was_planned c events was.0 s settled.run was.1

  -- what is to go down is down
  lower_down : (s : ℕ) → Has c.lower s → standing_of c events s ≡ Down
  lower_down s low = elim (rests s) [
    | inl stood ↦ elim stood.why [
      | inl fresh ↦ absurd (none_left s (inl low, fresh))
      | inr failed ↦ absurd (none_failed s failed)
    ]
    | inr moved ↦ went_down c events s (course.falls s low) moved
  ]

  -- what is to come up is up
  raise_up : (s : ℕ) → Has c.raise s → standing_of c events s ≡ Up
  raise_up s high = elim (rests s) [
    | inl stood ↦ elim stood.why [
      | inl fresh ↦ absurd (none_left s (inr high, fresh))
      | inr failed ↦ absurd (none_failed s failed)
    ]
    | inr moved ↦ came_up c events s (course.rises s high) moved
  ]

  -- and all else is where it was
  else_up : (s : ℕ) → Has c.up s → (Has c.lower s → ⊥) → standing_of c events s ≡ Up
  else_up s up not_low = elim (rests s) [
    | inl stood ↦ stood_up c events s up stood
    | inr moved ↦ elim (planned s moved.was) [
      | inl low ↦ absurd (not_low low)
      | inr high ↦ absurd (course.rises s high up)
    ]
  ]

  else_down : (s : ℕ) → (Has c.up s → ⊥) → (Has c.raise s → ⊥) → standing_of c events s ≡ Down
  else_down s not_up not_high = elim (rests s) [
    | inl stood ↦ stood_down c events s not_up stood
    | inr moved ↦ elim (planned s moved.was) [
      | inl low ↦ absurd (not_up (course.falls s low))
      | inr high ↦ absurd (not_high high)
    ]
  ]

  up_in_target : (s : ℕ) → standing_of c events s ≡ Up → TargetOf c s
  up_in_target s stands = elim (has_or_lacks c.raise s) [
    | inl high ↦ inr high
    | inr not_high ↦ elim (has_or_lacks c.up s) [
      | inl up ↦ inl (up, λ low. up_is_not_down c events s stands (lower_down s low))
      | inr not_up ↦ absurd (up_is_not_down c events s stands (else_down s not_up not_high))
    ]
  ]

  all_in_target : (live : List Bool) → Holds live (IsLive c events) → Holds live (TargetOf c)
  all_in_target live members s = (
    λ has. elim ((members s).0 has) [
      | inl up ↦ up_in_target s up
      | inr sinking ↦ absurd (never_sinking c events s (rests s) sinking)
    ],
    λ target. (members s).1 (inl (elim target [
      | inl stays ↦ else_up s stays.0 stays.1
      | inr high ↦ raise_up s high
    ])),
  )

pub run_arrives : (d : Database) (here : Line) (command : Command) (told : Reported) (new : Line)
    → IsDatabase d → IsLineOf d here → DoesByRun d here command told new
    → ending_of told ≡ Done → Holds new.current.live (TargetOfCommand d here command)
run_arrives d here command told new is_db of run all =
    let c = course_of d.needs run.plan run.deadline in
    let none : AreNone told.failed told.blocked told.untried =
    done_is_none told.failed told.blocked told.untried all in
    let live_is : new.current.live ≡ run.live = moved_live here command run.live new run.moved in
    let left : (s : ℕ) → IsLeft c (events_of command) s → ⊥ = λ s is.
    (let runs : IsStopped (events_of command) → ⊥ =
    λ stopped. none_in told.untried s none.2 ((run.is_report.untried.same s).1 (is, stopped)) in
    none_in told.blocked s none.1 ((run.is_report.blocked.same s).1 (is, runs))) in
    let ends : Holds run.live (TargetOf c) =
    all_in_target c (events_of command)
    (task_is_course d here command 0 run.plan run.deadline is_db of run.task) run.ends.settled
    (λ s failed. none_in told.failed s none.0 ((run.is_report.failed.same s).1 failed)) left
    run.live run.ends.members in
    let aims = aims_as_asked d here command 0 run.plan run.deadline is_db of run.task in
    subst (λ (live : List Bool). Holds live (TargetOfCommand d here command)) (sym live_is)
    (λ s. (λ has. (aims s).0 ((ends s).0 has), λ there. (ends s).1 ((aims s).1 there)))

done_arrives : (d : Database) (here : Line) (command : Command) (events : List Event)
    (told : Reported) (new : Line) → IsDatabase d → IsLineOf d here
    → HasRun command → Does d here (with_events command events) told new → ending_of told ≡ Done
    → Holds new.current.live (TargetOfCommand d here command)
done_arrives d here (Change ask old) events told new is_db of has (inl run) all =
    run_arrives d here (Change ask events) told new is_db of run all
done_arrives d here (Undo limit old) events told new is_db of has (inl run) all =
    run_arrives d here (Undo limit events) told new is_db of run all
done_arrives d here (Redo limit old) events told new is_db of has (inl run) all =
    run_arrives d here (Redo limit events) told new is_db of run all
done_arrives d here (Change ask old) events told new is_db of has (inr edit) all =
    absurd edit.altered
done_arrives d here (Undo limit old) events told new is_db of has (inr edit) all =
    absurd edit.altered
done_arrives d here (Redo limit old) events told new is_db of has (inr edit) all =
    absurd edit.altered
done_arrives d here (Add name contents force) events told new is_db of has does all = absurd has
done_arrives d here (Delete words force) events told new is_db of has does all = absurd has

-- what is said ends as done, and so it arrives
pub saying_arrives : (workers : ℕ) (Answers : ℕ → Way → Outcome → Type 0) (Gives : ℕ → Type 0)
    (ending : Ending) (d : Database) (here : Line) (saying : Saying) (text : List ℕ) (new : Line)
    → IsDatabase d → IsLineOf d here
    → Ends (IsDoneAs workers Answers Gives) ending d here saying text new → ending ≡ Done
    → ArrivesSaying d here saying new
saying_arrives workers Answers Gives ending d here SaysNothing text new is_db of ends is = tt
saying_arrives workers Answers Gives ending d here SaysWrong text new is_db of ends is = tt
saying_arrives workers Answers Gives ending d here (SaysStep command) text new is_db of
    (inl (events, told, made, does, told_as, ends)) is = λ has.
    done_arrives d here command events told new is_db of has does (sym ends ∙ is)
saying_arrives workers Answers Gives ending d here (SaysStep command) text new is_db of
    (inr refused) is =
    let bad : Refused ≡ Done = sym refused.0 ∙ is in cc
saying_arrives workers Answers Gives ending d here (SaysDry ask) text new is_db of ends is = tt
saying_arrives workers Answers Gives ending d here SaysLive text new is_db of ends is = tt
saying_arrives workers Answers Gives ending d here SaysBundles text new is_db of ends is = tt
saying_arrives workers Answers Gives ending d here SaysJournal text new is_db of ends is = tt

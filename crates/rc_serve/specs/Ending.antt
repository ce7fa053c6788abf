-- How a line ends: all that was planned is done, or it is refused, or something is in its way.
use Rattle.std.specs.Prelude.{◌≡◌, ◌⊎◌, ◌++◌, ℕ, true, List, [], Option, None, take}
use Rattle.std.specs.Io.KnownBytes.{Appends}
use Rattle.rc_model.specs.Headline.{TargetOfCommand, HasRun}
use Rattle.rc_model.specs.Names.{Holds}
use Rattle.rc_streams.specs.Input.{AppendsFront}
use Rattle.rc_graph.specs.declared.Way.{Way}
use Rattle.rc_model.specs.Database.{Database}
use Rattle.rc_model.specs.Plan.{Ask, PlanSets}
use Rattle.rc_model.specs.declared.Event.{Event}
use Rattle.rc_model.specs.declared.Outcome.{Outcome}
use Rattle.rc_model.specs.Line.{Line}
use Rattle.rc_model.specs.Session.{Command, Change, Does, Reported, IsTask}
use Rattle.rc_session.specs.Commands.{with_events}
use Rattle.rc_session.specs.Holding.{Holding}
use Rattle.rc_board.specs.Made.{AreMade}
use Rattle.rc_render.specs.Names.{ok_line}
use Rattle.rc_render.specs.PlanText.{IsPlanText}
use Rattle.rc_render.specs.ReportText.{report_text}
use Rattle.rc_script.specs.Says.{Saying, SaysStep, SaysDry, SaysWrong}
use Rattle.rc_serve.specs.declared.ending.Ending.{Ending}
use Rattle.rc_serve.specs.declared.ending.Ending.TheVariants.{Done, Refused, Hindered}
use Rattle.rc_serve.specs.declared.fault.ServeFault.{ServeFault}
use Rattle.rc_serve.specs.declared.fault.ServeFault.TheVariants.{Memory, Write}
use Rattle.rc_serve.specs.declared.keeper.KeepFault.{KeepFault}
use Rattle.rc_serve.specs.Faults.{IsOfLine, StandsAt}
use Rattle.rc_serve.specs.Keeping.{Keeping, IsKeptOn, IsKeptUp, IsOfKeeping}
use Rattle.rc_serve.specs.Meeting.{Doing, IsEdited, IsPlanned, IsRefused, Meets, WantsWork}

-- how a command ends by what failed, what was blocked and what was not tried:
-- done where there is none of these
abbrev pub ending_by : (failed blocked untried : List ℕ) → Ending
ending_by [] [] [] = Done
ending_by failed blocked untried = Hindered

abbrev pub ending_of : Reported → Ending
ending_of told = ending_by told.failed told.blocked told.untried

-- how a command is done that ends so
abbrev pub EndsIn : Type 1
EndsIn = Ending → Doing

-- an edit is made, and that is all of it
abbrev pub IsEditedAs : EndsIn
IsEditedAs ending d here command text new = (ending ≡ Done) × IsEdited d here command text new

-- a command is done as by `IsDoneBy`, and ends as its report tells
abbrev pub IsDoneAs : (workers : ℕ) (Answers : ℕ → Way → Outcome → Type 0) (Gives : ℕ → Type 0)
    → EndsIn
IsDoneAs workers Answers Gives ending d here command text new =
    (events : List Event) × (told : Reported)
    × AreMade workers Answers Gives here.current.live events
    × Does d here (with_events command events) told new × (text ≡ report_text d.names told)
    × (ending ≡ ending_of told)

-- the answer to a command, how it ends, and the line of states from then on
abbrev pub EndsCommand : EndsIn → Ending → Database → Line → Command → List ℕ → Line → Type 0
EndsCommand As ending d here command text new = As ending d here command text new
    ⊎ ((ending ≡ Refused) × IsRefused d here command text new)

-- the answer to a plan that is wanted: the plan, or why the change could not be begun
abbrev pub EndsDry : Ending → Database → Line → Ask → List ℕ → Type 0
EndsDry ending d here ask text = ((ending ≡ Done) × IsPlanned d here ask text)
    ⊎ ((ending ≡ Refused) × IsRefused d here (Change ask []) text here)

-- the answer to what a session line says, how it ends, and the line of states from then on
abbrev pub Ends : EndsIn → Ending → Database → Line → Saying → List ℕ → Line → Type 0
Ends As ending d here (SaysStep command) text new = EndsCommand As ending d here command text new
Ends As ending d here (SaysDry ask) text new = EndsDry ending d here ask text × (new ≡ here)
Ends As ending d here SaysWrong text new =
    (ending ≡ Refused) × Meets (As ending) d here SaysWrong text new
Ends As ending d here other text new = (ending ≡ Done) × Meets (As ending) d here other text new

-- the plan that an undo or a redo would carry out, as text
abbrev pub IsWayShown : Database → Line → Command → List ℕ → Type 0
IsWayShown d here command text = (plan : PlanSets) × (lines : List ℕ)
    × IsTask d here command 0 plan None × IsPlanText d.names plan lines
    × (text ≡ lines ++ ok_line)

-- an undo or a redo is shown: what it would move, or why it could not be begun
abbrev pub EndsWay : Ending → Database → Line → Command → List ℕ → Type 0
EndsWay ending d here command text = ((ending ≡ Done) × IsWayShown d here command text)
    ⊎ ((ending ≡ Refused) × IsRefused d here command text here)

-- where what is said moves services, what is live is then the target of the command
abbrev pub ArrivesSaying : Database → Line → Saying → Line → Type 0
ArrivesSaying d here (SaysStep command) new =
    HasRun command → Holds new.current.live (TargetOfCommand d here command)
ArrivesSaying d here other new = Unit {0}

-- a fault came where one line is served: with the line of states as it was, nothing written, and
-- what is kept as it was or of where the line stands; or what is said was met, and a prefix of its
-- answer was written, of which there is something only where what it leaves is kept
abbrev pub StopsOnce : Doing → ServeFault → (May : KeepFault → Type 0) → (was is : Keeping)
    → Saying → (written gained : Option (List ℕ)) → (old new : Holding) → Type 0
StopsOnce By fault May was is saying written gained old new =
    ((new.line ≡ old.line) × (gained ≡ written)
    × StandsAt fault (old.spoiled ≡ true) (WantsWork old.database old.line saying) 0 []
    × IsKeptUp was is old.database old.line new.line)
    ⊎ (IsOfLine fault × (text : List ℕ) × Meets By old.database old.line saying text new.line
    × (n : ℕ) × Appends written gained (take n text)
    × (IsKeptUp was is old.database old.line new.line
    ⊎ (IsOfKeeping May fault × (n ≡ 0) × IsKeptOn was is)))

-- an undo or a redo could not be shown: out of memory, with nothing written, or the writer has
-- failed, with a prefix of the answer written
abbrev pub FailsShowing : ServeFault → Database → Line → Command
    → (written gained : Option (List ℕ)) → Type 0
FailsShowing fault d here command written gained = ((fault ≡ Memory) × (gained ≡ written))
    ⊎ ((fault ≡ Write) × (ending : Ending) × (text : List ℕ)
    × EndsWay ending d here command text × AppendsFront written gained text)

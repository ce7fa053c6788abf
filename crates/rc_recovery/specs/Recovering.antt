-- How a command that was cut short is entered.
use Rattle.std.specs.Prelude.{◌≡◌, ◌≤◌, ◌⊎◌, ◌++◌, ◌∷◌, [], ℕ, Option, Some, Result, Err}
use Rattle.rc_model.specs.declared.Refusal.{Refusal}
use Rattle.rc_model.specs.declared.Refusal.TheVariants.{Memory, NotSettled}
use Rattle.rc_model.specs.Database.{Database}
use Rattle.rc_model.specs.Line.{Line}
use Rattle.rc_model.specs.Plan.{PlanSets}
use Rattle.rc_model.specs.Run.{IsRun, IsStopped, course_of}
use Rattle.rc_model.specs.Session.{Command, Reported, IsTask, events_of}
use Rattle.rc_session.specs.Commands.{with_events}
use Rattle.rc_session.specs.Holding.{Holding, Obeys}
use Rattle.rc_recovery.specs.Ends.{last_stop, with_ends}

-- the command with the events that were logged of it, and the ends of what was under way
abbrev pub cut_short : Command → Command
cut_short command = with_events command (with_ends (events_of command))

-- the same, and then stopped
abbrev pub called_off : Command → Command
called_off command = with_events command (with_ends (events_of command) ++ last_stop ∷ [])

-- the answer says that the events leave something to do
abbrev pub IsUnsettled : Result Reported Refusal → Type 0
IsUnsettled answer = (place : ℕ) × (answer ≡ Err (NotSettled place))

-- a session obeys the command with what was under way ended as failed; only where that leaves
-- something to do, the run counts as stopped
abbrev pub Enters : Holding → Command → Result Reported Refusal → Holding → Type 0
Enters old command answer new =
    (Obeys old (cut_short command) answer new × (IsUnsettled answer → ⊥))
    ⊎ ((unsettled : Result Reported Refusal) × IsUnsettled unsettled
    × Obeys old (cut_short command) unsettled old × Obeys old (called_off command) answer new)

-- what a session answers to a command that was cut short, and what it has from then on: it enters
-- it; or memory ran out, and nothing has changed
abbrev pub Recovers : Holding → Command → Result Reported Refusal → Holding → Type 0
Recovers old command answer new =
    Enters old command answer new ⊎ ((answer ≡ Err Memory) × (new ≡ old))

-- the events that a command brings are the beginning of a run of it, which was not stopped and may
-- be
abbrev pub IsCutShort : Database → Line → Command → Type 0
IsCutShort d line command = (plan : PlanSets) (deadline : Option ℕ)
    → IsTask d line command 0 plan deadline
    → IsRun (course_of d.needs plan deadline) (events_of command)
    × (IsStopped (events_of command) → ⊥)
    × ((m : ℕ) × (deadline ≡ Some m) × (m ≤ 18446744073709551615))

-- What a command logs and writes, and the files that hold its log.
use Rattle.std.specs.Prelude.{◌≡◌, ◌≢◌, ◌++◌, ◌∷◌, [], ℕ, Bool, List, Option, All, map}
use Rattle.std.specs.List.{AllZip, concat}
use Rattle.rc_model.specs.declared.Event.{Event}
use Rattle.rc_model.specs.Database.{Database, IsDatabase}
use Rattle.rc_model.specs.Line.{Line}
use Rattle.rc_model.specs.Plan.{PlanSets}
use Rattle.rc_model.specs.Run.{IsRun, IsStopped, course_of}
use Rattle.rc_model.specs.Session.{Command, IsLineOf, IsTask}
use Rattle.rc_livetext.specs.Spelling.{spelling}
use Rattle.rc_script.specs.RunLines.{IsEventLine, IsHead}
use Rattle.rc_recovery.specs.Files.{Append, Empty, Files, Replace, Write}

-- the events are the beginning of a run of the command from where the line stands; that a run is
-- stopped is not logged
abbrev pub BeginsRun : Database → Line → Command → List Event → Type 0
BeginsRun d line command events =
    (start : ℕ) × (plan : PlanSets) × (deadline : Option ℕ)
    × IsTask d line command start plan deadline
    × IsRun (course_of d.needs plan deadline) events × (IsStopped events → ⊥)

-- what a command logs: the line of its step, with its mark if it is marked as one of several steps;
-- its events in the order of the log, and their lines; and a part of the next line, where an append
-- failed, as on a full disk: nothing is logged then
pub record Logged : Type 0 where
  pub command : Command
  pub marked : Bool
  pub step : List ℕ
  pub events : List Event
  pub lines : List (List ℕ)
  pub part : List ℕ

-- the command may log this where the line stands
pub record IsLogged (d : Database) (line : Line) (l : Logged) : Type 0 where
  pub database : IsDatabase d
  pub line_of : IsLineOf d line
  pub begins : BeginsRun d line l.command l.events
  pub step_is : IsHead l.command l.marked l.step
  pub lines_are : AllZip (IsEventLine d.names) l.events l.lines
  pub torn : All (λ byte. byte ≢ 10) l.part

-- a log: the text of the file, the head of a step, and lines of events
abbrev pub log_of : (text step : List ℕ) → (lines : List (List ℕ)) → List ℕ
log_of text step lines = text ++ (step ++ concat lines)

-- the writes of a command that starts programs: the log is emptied and begun with the text of the
-- file and the step, each event is appended, and the part of a line where that failed, the file is
-- replaced, and the log is emptied
abbrev pub writes_of : (text : List ℕ) → Logged → (new : List ℕ) → List Write
writes_of text l new =
    Empty ∷ Append (text ++ l.step)
    ∷ (map Append l.lines ++ Append l.part ∷ Replace new ∷ Empty ∷ [])

-- the writes of a command that starts none: the file is replaced
abbrev pub unlogged_writes : (new : List ℕ) → List Write
unlogged_writes new = Replace new ∷ []

-- the files hold the text of the line and the log of the first events of a command; behind them
-- may stand a part of the next line
pub record HoldEvents (d : Database) (line : Line) (l : Logged) (events : List Event)
    (g : Files) : Type 0 where
  pub left : List Event
  pub lines : List (List ℕ)
  pub part : List ℕ
  pub front : l.events ≡ events ++ left
  pub lines_are : AllZip (IsEventLine d.names) events lines
  pub torn : All (λ byte. byte ≢ 10) part
  pub files : g ≡ record {
    file = spelling d line;
    log = log_of (spelling d line) l.step lines ++ part;
  }

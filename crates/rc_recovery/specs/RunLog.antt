-- What a run log says, and what is entered of it.
use Rattle.std.specs.Prelude.{◌≡◌, ◌≢◌, ◌⊎◌, ◌++◌, ◌∷◌, ◌<◌, [], ℕ, List, Ok, Err, false, All}
use Rattle.std.specs.Prelude.{length}
use Rattle.rc_model.specs.declared.Refusal.{Refusal}
use Rattle.rc_model.specs.declared.Refusal.TheVariants as refusal
use Rattle.rc_model.specs.Database.{Database}
use Rattle.rc_model.specs.Line.{Line}
use Rattle.rc_model.specs.Session.{Command, IsLineOf, Reported, events_of}
use Rattle.rc_session.specs.Holding.{Holding}
use Rattle.rc_livetext.specs.Spelling.{Spells, spelling}
use Rattle.rc_livetext.specs.LiveFaults.{IsLiveFault}
use Rattle.rc_livetext.specs.declared.fault.LiveFault.{LiveFault}
use Rattle.rc_livetext.specs.declared.fault.LiveFault.TheVariants as live_fault
use Rattle.rc_render.specs.ReportText.{report_text}
use Rattle.rc_script.specs.Script.{IsBadLine, IsScript}
use Rattle.rc_recovery.specs.Recovering.{Enters, Recovers}

-- nothing, or bytes with a newline at their end
abbrev pub EndsWhole : List ℕ → Type 0
EndsWhole bytes = (bytes ≡ []) ⊎ ((body : List ℕ) × (bytes ≡ body ++ 10 ∷ []))

-- bytes are whole lines, and a part of a line that has no newline
pub record AreLines (bytes whole : List ℕ) : Type 0 where
  pub part : List ℕ
  pub bytes_are : bytes ≡ whole ++ part
  pub ends : EndsWhole whole
  pub torn : All (λ byte. byte ≢ 10) part

-- the log is one of another text
abbrev pub IsOther : (text log : List ℕ) → Type 0
IsOther text log = (rest : List ℕ) → log ≡ text ++ rest → ⊥

-- a log is the text of the file, and then a script, whose last line may be torn
abbrev pub HasScript : (text log script : List ℕ) → Type 0
HasScript text log script = (rest : List ℕ) × (log ≡ text ++ rest) × AreLines rest script

-- the log of a text says these commands, with the events that were logged
abbrev pub LogsAll : Database → (text log : List ℕ) → List Command → Type 0
LogsAll d text log commands =
    (script : List ℕ) × HasScript text log script × IsScript d.names script commands

-- no command is said, or one of which no event was logged
abbrev pub AreNone : List Command → Type 0
AreNone commands = (commands ≡ [])
    ⊎ ((command : Command) × (commands ≡ command ∷ []) × (events_of command ≡ []))

-- a session of this database on this line
abbrev pub session_on : Database → Line → Holding
session_on d line = record { database = d; line = line; begun = false; spoiled = false }

-- the command is entered in the line of a text: the new text, and the report
pub record IsEnteredAs (d : Database) (text : List ℕ) (command : Command)
    (entered told : List ℕ) : Type 0 where
  pub line : Line
  pub line_of : IsLineOf d line
  pub spells : Spells d text line
  pub report : Reported
  pub new : Holding
  pub enters : Recovers (session_on d line) command (Ok report) new
  pub entered_is : entered ≡ spelling new.database new.line
  pub told_is : told ≡ report_text new.database.names report

-- the one command that is said, of which events were logged, is entered
abbrev pub EntersOne : Database → List ℕ → List Command → (entered told : List ℕ) → Type 0
EntersOne d text commands entered told = (command : Command) × (commands ≡ command ∷ [])
    × (events_of command ≢ []) × IsEnteredAs d text command entered told

-- the session of a text refuses the command
abbrev pub IsRefusedIn : Database → List ℕ → Command → Type 0
IsRefusedIn d text command = (line : Line) × IsLineOf d line × Spells d text line
    × ((refused : Refusal) × (refused ≢ refusal.Memory)
    × Enters (session_on d line) command (Err refused) (session_on d line))

-- a command can't be entered: the text is none of the database, or its session refuses the command
abbrev pub IsUnfitFor : Database → List ℕ → Command → Type 0
IsUnfitFor d text command =
    ((fault : LiveFault) × (fault ≢ live_fault.Memory) × IsLiveFault d text fault)
    ⊎ IsRefusedIn d text command

-- commands can't be entered: they are several, or events of the one were logged and it can't
abbrev pub AreUnfit : Database → List ℕ → List Command → Type 0
AreUnfit d text commands = (1 < length commands)
    ⊎ ((command : Command) × (commands ≡ command ∷ []) × (events_of command ≢ [])
    × IsUnfitFor d text command)

-- what the log of a text says is entered: the new text of the file, and the report
abbrev pub IsEntered : Database → (text log entered told : List ℕ) → Type 0
IsEntered d text log entered told = (commands : List Command) × LogsAll d text log commands
    × EntersOne d text commands entered told

-- there is nothing to enter: the log is one of another text, or says nothing
abbrev pub HasNothing : Database → (text log : List ℕ) → Type 0
HasNothing d text log = IsOther text log
    ⊎ ((commands : List Command) × LogsAll d text log commands × AreNone commands)

-- nothing can be entered: the log has a line that may not stand where it does, or what it says is
-- unfit
abbrev pub IsUnfit : Database → (text log : List ℕ) → Type 0
IsUnfit d text log =
    ((script : List ℕ) × (number : ℕ) × HasScript text log script
    × IsBadLine d.names script number)
    ⊎ ((commands : List Command) × LogsAll d text log commands × AreUnfit d text commands)

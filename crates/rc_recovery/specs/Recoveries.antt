-- What recoveries make of the two files, also where they are cut short, and where that ends.
use Rattle.std.specs.Prelude.{◌≡◌, ◌⊎◌, ◌++◌, ◌∷◌, [], ℕ, List, Option, Some, None, Ok}
use Rattle.rc_model.specs.declared.Event.{Event}
use Rattle.rc_model.specs.Database.{Database}
use Rattle.rc_model.specs.Line.{Line}
use Rattle.rc_model.specs.Session.{Command, IsLineOf, Reported}
use Rattle.rc_session.specs.Commands.{with_events}
use Rattle.rc_livetext.specs.Spelling.{spelling}
use Rattle.rc_script.specs.RunLines.{least_limited}
use Rattle.rc_recovery.specs.Recovering.{Enters}
use Rattle.rc_recovery.specs.RunLog.{HasNothing, IsEntered, IsUnfit, session_on}
use Rattle.rc_recovery.specs.Files.{AfterCrash, Empty, Files, IsFront, Replace, Write}
use Rattle.rc_recovery.specs.Logging.{HoldEvents, IsLogged, Logged, writes_of}

-- what a recovery makes of the two files: a new text, or there is nothing to enter
abbrev pub Makes : Database → Files → Option (List ℕ) → Type 0
Makes d f None = HasNothing d f.file f.log
Makes d f (Some text) = (told : List ℕ) × IsEntered d f.file f.log text told

-- the writes of a recovery: a new text replaces the file; the log is emptied, also where there was
-- nothing to enter
abbrev pub recovery_writes : Option (List ℕ) → List Write
recovery_writes None = Empty ∷ []
recovery_writes (Some text) = Replace text ∷ Empty ∷ []

-- the text of the file after a recovery
abbrev pub text_after : Files → Option (List ℕ) → List ℕ
text_after f None = f.file
text_after f (Some text) = text

-- a recovery leaves this that was cut short: it wrote nothing, or a crash came at some point of
-- its writes
abbrev pub IsCutRecovery : Database → Files → Files → Type 0
IsCutRecovery d f g = (g ≡ f)
    ⊎ ((made : Option (List ℕ)) × Makes d f made × AfterCrash (recovery_writes made) f g)

-- recoveries were cut short, one after the other; each left these files
abbrev pub AreCutRecoveries : Database → Files → List Files → Files → Type 0
AreCutRecoveries d f [] g = g ≡ f
AreCutRecoveries d f (h ∷ left) g = IsCutRecovery d f h × AreCutRecoveries d h left g

-- the text that a recovery leaves which is not cut short, after any number that were
abbrev pub EndsIn : Database → Files → List ℕ → Type 0
EndsIn d f text =
    (left : List Files) × (g : Files) × AreCutRecoveries d f left g
    × ((made : Option (List ℕ)) × Makes d g made × (text ≡ text_after g made))

-- nothing is entered of the two files, and nothing is wrong with the log
pub record IsAtRest (d : Database) (f : Files) : Type 0 where
  pub nothing : (text told : List ℕ) → IsEntered d f.file f.log text told → ⊥
  pub fits : IsUnfit d f.file f.log → ⊥

-- the line in which the command is entered with exactly these events, and with what was under way
-- ended as failed; with no events it is the line as it was
abbrev pub IsLineAfter : Database → Line → Command → List Event → Line → Type 0
IsLineAfter d line command [] end = end ≡ line
IsLineAfter d line command (event ∷ events) end =
    (report : Reported) × Enters (session_on d line)
    (with_events (least_limited command) (event ∷ events)) (Ok report) (session_on d end)

-- a crash came at some point of a command, which began with files of which nothing was left to
-- enter, and which was to replace the text of the line by that of a new one
pub record IsCrash (d : Database) (line new : Line) (l : Logged) (f g : Files) : Type 0 where
  pub logged : IsLogged d line l
  pub new_of : IsLineOf d new
  pub file : f.file ≡ spelling d line
  pub rest : IsAtRest d f
  pub crash : AfterCrash (writes_of (spelling d line) l (spelling d new)) f g

-- the line of the text in the end is the line before, and the log was not begun or says no event;
-- or that in which exactly the logged events are entered; or the new line, whose text was written
abbrev pub EndsOn : Database → (line new : Line) → Logged → (f g : Files) → Line → Type 0
EndsOn d line new l f g end =
    ((end ≡ line) × (g.file ≡ spelling d line)
    × ((g ≡ f) ⊎ IsFront g.log (spelling d line ++ l.step)))
    ⊎ ((events : List Event) × HoldEvents d line l events g
    × IsLineAfter d line l.command events end)
    ⊎ ((end ≡ new) × (g.file ≡ spelling d new))

-- whatever recoveries are cut short: the text in the end is that of one line, where `EndsOn` says,
-- and the same text whatever they were; none of them finds a log that can't be entered
pub record EndsInOneLine (d : Database) (line new : Line) (l : Logged) (f g : Files) : Type 0 where
  pub ends : (text : List ℕ) → EndsIn d g text →
      (end : Line) × IsLineOf d end × (text ≡ spelling d end) × EndsOn d line new l f g end
  pub one : (text other : List ℕ) → EndsIn d g text → EndsIn d g other → text ≡ other
  pub fits : (left : List Files) (h : Files) → AreCutRecoveries d g left h →
      IsUnfit d h.file h.log → ⊥

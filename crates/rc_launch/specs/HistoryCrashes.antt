-- A crash of a run on the present session of a history.
use Rattle.std.specs.Prelude.{◌≡◌, ◌⊎◌, ◌++◌, ◌∷◌, [], ℕ, List}
use Rattle.rc_model.specs.declared.Event.{Event}
use Rattle.rc_model.specs.Database.{Database}
use Rattle.rc_model.specs.Line.{Line}
use Rattle.rc_model.specs.Session.{IsLineOf}
use Rattle.rc_livetext.specs.Spelling.{spelling}
use Rattle.rc_historytext.specs.declared.keeping.Keeping.{Keeping}
use Rattle.rc_historytext.specs.declared.keeping.Keeping.TheVariants.{Seal}
use Rattle.rc_historytext.specs.Keeping.{IsKept}
use Rattle.rc_historytext.specs.Updates.{StandsOn}
use Rattle.rc_recovery.specs.Files.{AfterCrash, Append, Files, IsFront, after}
use Rattle.rc_recovery.specs.Logging.{HoldEvents, IsLogged, Logged, writes_of}
use Rattle.rc_recovery.specs.Recoveries.{IsAtRest, IsLineAfter}
use Rattle.rc_recovery.specs.RunLog.{EndsWhole, IsUnfit}
use Rattle.rc_launch.specs.HistoryRecoveries.{AreCutOf, EndsWithHistory, HasPresent, beside}
use Rattle.rc_launch.specs.Keeping.{keeping_of}

-- what a command does that runs: all but a seal
abbrev pub IsOfRun : Keeping → Type 0
IsOfRun Seal = ⊥
IsOfRun other = Unit {0}

-- a crash came at some point of a command, which began with a history that stood on a line, and of
-- whose log nothing was left to enter; the command was to replace the history by the one in which a
-- new line is kept
pub record IsHistoryCrash (d : Database) (line new : Line) (keeping : Keeping) (l : Logged)
    (kept : List ℕ) (f g : Files) : Type 0 where
  pub stands : StandsOn f.file d line
  pub logged : IsLogged d line l
  pub new_of : IsLineOf d new
  pub of_run : IsOfRun keeping
  pub kept_is : IsKept keeping f.file (spelling d new) kept
  pub rest : IsAtRest d (beside (spelling d line) f)
  pub crash : AfterCrash (writes_of (spelling d line) l kept) f g

-- a line is kept in the history as a command does that logs this; the history stays if it is the
-- line as it was
abbrev pub KeepsEnd : Database → (line end : Line) → Logged → (bytes whole : List ℕ) → Type 0
KeepsEnd d line end l bytes whole = ((end ≡ line) × (whole ≡ bytes))
    ⊎ IsKept (keeping_of l) bytes (spelling d end) whole

-- the history in the end is the one before, and the log was not begun or says no event; or the one
-- before, in which the line is kept that exactly the logged events lead to; or the new one, which
-- was written
abbrev pub EndsHistory : Database → Line → Logged → (kept : List ℕ) → (f g : Files) →
    (whole : List ℕ) → Type 0
EndsHistory d line l kept f g whole =
    ((whole ≡ f.file) × (g.file ≡ f.file)
    × ((g ≡ f) ⊎ IsFront g.log (spelling d line ++ l.step)))
    ⊎ ((events : List Event) × HoldEvents d line l events (beside (spelling d line) g)
    × (g.file ≡ f.file) × ((end : Line) × IsLineOf d end
    × IsLineAfter d line l.command events end × KeepsEnd d line end l f.file whole))
    ⊎ ((whole ≡ kept) × (g.file ≡ kept))

-- whatever recoveries are cut short: the history in the end is as `EndsHistory` says, and the same
-- one; none of them finds a log that can't be entered
pub record EndsInOneHistory (d : Database) (line : Line) (l : Logged) (kept : List ℕ)
    (f g : Files) : Type 0 where
  pub ends : (whole : List ℕ) → EndsWithHistory g whole → EndsHistory d line l kept f g whole
  pub one : (whole other : List ℕ) → EndsWithHistory g whole → EndsWithHistory g other
      → whole ≡ other
  pub fits : (left : List Files) (h : Files) → AreCutOf g left h → (e : Database)
      (session : List ℕ) → HasPresent h.file e session → IsUnfit e session h.log → ⊥

-- to the log of a command that was cut short the line of an event is appended: whatever a crash
-- leaves of that, it is what one leaves of the same command where it has logged this event, too
pub record IsHistoryMore (d : Database) (line new : Line) (keeping : Keeping) (l : Logged)
    (kept : List ℕ) (events : List Event) (text : List ℕ) (f g : Files) (more : Logged)
    : Type 0 where
  pub command : more.command ≡ l.command
  pub logged : more.events ≡ events
  pub cut : (h : Files) → AfterCrash (Append text ∷ []) g h
      → IsHistoryCrash d line new keeping more kept f h
  pub holds : HoldEvents d line more events (beside (spelling d line) (after g (Append text)))
  pub whole : EndsWhole (after g (Append text)).log

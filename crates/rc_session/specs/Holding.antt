-- What a session has, and what it answers to commands.
use Rattle.std.specs.Prelude.{◌≡◌, ◌⊎◌, ℕ, Bool, true, false, List, [], length, replicate, map}
use Rattle.std.specs.Prelude.{Option, Result, Ok, Err}
use Rattle.rc_model.specs.Database.{Database}
use Rattle.rc_model.specs.Plan.{PlanSets}
use Rattle.rc_line.specs.declared.aim.Aim.{Aim}
use Rattle.rc_line.specs.declared.aim.Aim.TheVariants as aims
use Rattle.rc_model.specs.Line.{Line}
use Rattle.rc_line.specs.Opening.{Opening, IsOpened}
use Rattle.rc_model.specs.declared.Refusal.{Refusal}
use Rattle.rc_model.specs.declared.Refusal.TheVariants.{Strange, Memory}
use Rattle.rc_model.specs.Session.{Command, Change, Undo, Redo, Add, Delete, Reported, IsTask, Does}
use Rattle.rc_model.specs.Session.{IsOwnFault, IsRunFault, Plays}

-- what a session has: its database, its line, whether a run was begun that is not ended
-- yet, and whether it is poisoned
pub record Holding : Type 0 where
  pub database : Database
  pub line : Line
  pub begun : Bool
  pub spoiled : Bool

-- the line that a database begins with, of this bound: nothing is live, and the bundles are its own
abbrev pub first_line : Database → ℕ → Line
first_line d bound = record {
  before = [];
  current = record { live = replicate (length d.names) false; table = d.table };
  after = [];
  bound = bound;
}

-- a run that was begun: its plan and its deadline, and what the line was opened for
pub record Task : Type 0 where
  pub plan : PlanSets
  pub deadline : Option ℕ
  pub opening : Opening

-- what the line is opened for by a command that a run carries out
abbrev pub IsAimOf : Command → Aim → Type 0
IsAimOf (Change ask events) aim = aim ≡ aims.Change
IsAimOf (Undo limit events) aim = aim ≡ aims.Undo
IsAimOf (Redo limit events) aim = aim ≡ aims.Redo
IsAimOf (Add name contents force) aim = ⊥
IsAimOf (Delete words force) aim = ⊥

-- the run was begun for this command, from this moment on, by this
-- session, which has not changed since
pub record IsBegun (h : Holding) (command : Command) (start : ℕ) (task : Task) : Type 0 where
  pub asked : IsTask h.database h.line command start task.plan task.deadline
  pub aims : IsAimOf command task.opening.aim
  pub opened : IsOpened (record { line = h.line; is_open = h.begun }) task.opening

-- the run was begun by this session, for some command and at some moment
abbrev pub IsOfSession : Holding → Task → Type 0
IsOfSession h task = (command : Command) × (start : ℕ) × IsBegun h command start task

-- the same session with a run begun
abbrev pub with_run : Holding → Holding
with_run h = record { database = h.database; line = h.line; begun = true; spoiled = h.spoiled }

-- the same session with another line, and nothing begun
abbrev pub with_line : Holding → Line → Holding
with_line h line = record { database = h.database; line = line; begun = false; spoiled = h.spoiled }

-- why a session does not begin a command: a poisoned one refuses each as strange; else a fault of
-- the command's own, and out of memory only where there is none
abbrev pub IsHindrance : (Refusal → Type 0) → Holding → Refusal → Type 0
IsHindrance Own h Strange = h.spoiled ≡ true
IsHindrance Own h Memory = (h.spoiled ≡ false) × ((fault : Refusal) → Own fault → ⊥)
IsHindrance Own h other = (h.spoiled ≡ false) × Own other

-- what a session answers to a command, and what it has from then on: the command is done, or it is
-- refused and nothing has changed
abbrev pub Obeys : Holding → Command → Result Reported Refusal → Holding → Type 0
Obeys old command (Ok told) new = (old.spoiled ≡ false)
    × Does old.database old.line command told new.line × (new ≡ with_line old new.line)
Obeys old command (Err refusal) new = (IsHindrance
    (IsOwnFault old.database old.line command) old refusal
    ⊎ ((old.spoiled ≡ false) × IsRunFault old.database old.line command refusal)) × (new ≡ old)

-- what a session answers to several commands, and what it has from then
-- on; a poisoned one refuses all
abbrev pub ObeysAll : Holding → List Command → List (Result Reported Refusal) → Holding → Type 0
ObeysAll old commands answers new = (new ≡ with_line old new.line)
    × (((old.spoiled ≡ false) × Plays old.database old.line commands answers new.line)
    ⊎ ((old.spoiled ≡ true) × (answers ≡ map (λ _. Err Strange) commands) × (new.line ≡ old.line)))

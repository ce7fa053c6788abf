-- What an undo or a redo of a history leaves of its text that ends with status 1 or 2.
use Rattle.std.specs.Prelude.{◌≡◌, ◌≢◌, ◌⊎◌, ℕ, zero, suc, Bool, true, false, List}
use Rattle.rc_model.specs.declared.Event.{Event}
use Rattle.rc_model.specs.Database.{Database, IsDatabase}
use Rattle.rc_model.specs.Line.{Line}
use Rattle.rc_model.specs.Session.{Does, IsLineOf, Reported}
use Rattle.rc_db.specs.Database.{IsWritable}
use Rattle.rc_dbtext.specs.Spelling.{spelling as database_text}
use Rattle.rc_livetext.specs.Spelling.{Spells, spelling}
use Rattle.rc_historytext.specs.declared.keeping.Keeping.TheVariants.{Way}
use Rattle.rc_historytext.specs.Keeping.{IsKept}
use Rattle.rc_historytext.specs.Present.{IsPresent}
use Rattle.rc_historytext.specs.Travelling.{CrossesOver, GoesOn, RunsInside, way_command}
use Rattle.rc_serve.specs.declared.ending.Ending.TheVariants.{Hindered}
use Rattle.rc_serve.specs.Ending.{ending_of}

-- the status of a command that was refused, or was carried out and is not all done
abbrev pub HasHalted : (status : ℕ) → Type 0
HasHalted status = (status ≡ 1) ⊎ (status ≡ 2)

-- the status of a command that ended with this one after a part of it was carried out: one that was
-- refused then is not all done
abbrev pub IsBehindRun : (code status : ℕ) → Type 0
IsBehindRun code status = ((code ≡ 1) × (status ≡ 2)) ⊎ ((code ≢ 1) × (status ≡ code))

-- one step: a run inside the present generation, or a border that is crossed
abbrev pub StepsBy : (runs : Bool) → (on : Bool) → (bytes next : List ℕ) → Type 0
StepsBy true on bytes next = RunsInside on bytes next
StepsBy false on bytes next = CrossesOver on bytes next

-- an undo (not `on`) or a redo (`on`) was carried out on a line, and something failed, was blocked
-- or was not tried
abbrev pub IsHindered : (on : Bool) → Database → (line new : Line) → Type 0
IsHindered on d line new = (limit : ℕ) × (events : List Event) × (report : Reported)
    × Does d line (way_command on limit events) report new × (ending_of report ≡ Hindered)

-- what a run with this status leaves of a line: one that is refused leaves the line as it was
abbrev pub LeavesBy : (status : ℕ) → (on : Bool) → Database → (line new : Line) → Type 0
LeavesBy status on d line new =
    ((status ≡ 1) × (new ≡ line)) ⊎ ((status ≡ 2) × IsHindered on d line new)

-- a run inside the present generation with this status: the texts there are those of a database
-- and of a line of its states, and what the run leaves of that line is kept
pub record EndsInsideBy (status : ℕ) (on : Bool) (bytes next : List ℕ) : Type 0 where
  pub base : Database
  pub line : Line
  pub new : Line
  pub session : List ℕ
  pub there : IsPresent bytes (database_text base) session
  pub is_database : IsDatabase base
  pub writable : IsWritable base
  pub is_line : IsLineOf base line
  pub begins : Spells base session line
  pub left : LeavesBy status on base line new
  pub kept : IsKept Way bytes (spelling base new) next

-- a step with this status: it is refused, and the history is as it was; or a run inside the present
-- generation ended so. No border is crossed
abbrev pub StepEndsBy : (status : ℕ) → (on : Bool) → (bytes next : List ℕ) → Type 0
StepEndsBy status on bytes next =
    ((status ≡ 1) × (next ≡ bytes)) ⊎ EndsInsideBy status on bytes next

-- so many borders are crossed, and it goes on behind each of them
abbrev pub CrossesTo : ℕ → (on : Bool) → (bytes next : List ℕ) → Type 0
CrossesTo zero on bytes next = next ≡ bytes
CrossesTo (suc n) on bytes next = (between : List ℕ) × CrossesTo n on bytes between
    × CrossesOver on between next × GoesOn on next true

-- an undo or a redo that is refused leads there: it has crossed borders alone, and the step behind
-- them is refused
abbrev pub IsRefusedOn : (on : Bool) → (bytes next : List ℕ) → Type 0
IsRefusedOn on bytes next =
    (n : ℕ) × (between : List ℕ) × CrossesTo n on bytes between × StepEndsBy 1 on between next

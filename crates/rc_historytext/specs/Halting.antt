-- What an undo or a redo leaves of the text of a history that does not go well.
use Rattle.std.specs.Prelude.{◌≡◌, ◌⊎◌, ℕ, Bool, true, false, List}
use Rattle.rc_model.specs.declared.Event.{Event}
use Rattle.rc_model.specs.Database.{Database, IsDatabase}
use Rattle.rc_model.specs.Line.{Line}
use Rattle.rc_model.specs.Headline.{Leaves, LeavesAhead}
use Rattle.rc_model.specs.Session.{Does, IsLineOf, Reported}
use Rattle.rc_db.specs.Database.{IsWritable}
use Rattle.rc_dbtext.specs.Spelling.{spelling as database_text}
use Rattle.rc_livetext.specs.Spelling.{Spells, spelling}
use Rattle.rc_historytext.specs.declared.keeping.Keeping.TheVariants.{Way}
use Rattle.rc_historytext.specs.Keeping.{IsKept}
use Rattle.rc_historytext.specs.Present.{IsPresent}
use Rattle.rc_history.specs.History.{History, IsHistory}
use Rattle.rc_historytext.specs.Places.{GivesHistory}
use Rattle.rc_historytext.specs.Travelling.{PassesTo, StandsNext, way_command}

-- an undo (not `on`) or a redo (`on`) was done on a line, whatever failed of it; or it was refused,
-- and the line is as it was
abbrev pub MayDo : Database → (on : Bool) → (line new : Line) → Type 0
MayDo base on line new = (new ≡ line)
    ⊎ ((limit : ℕ) × (events : List Event) × (report : Reported)
    × Does base line (way_command on limit events) report new)

-- a run inside the present generation, however it ended: the texts there are those of a database
-- and of a line of its states, and what the undo or redo leaves of that line is kept
pub record EndsInside (on : Bool) (bytes next : List ℕ) : Type 0 where
  pub base : Database
  pub line : Line
  pub new : Line
  pub session : List ℕ
  pub there : IsPresent bytes (database_text base) session
  pub is_database : IsDatabase base
  pub writable : IsWritable base
  pub is_line : IsLineOf base line
  pub begins : Spells base session line
  pub left : MayDo base on line new
  pub kept : IsKept Way bytes (spelling base new) next

-- a step that does not go well: the history is as it was, or a run inside the present generation
-- left it; no border is crossed
abbrev pub StaysAt : (on : Bool) → (bytes next : List ℕ) → Type 0
StaysAt on bytes next = (next ≡ bytes) ⊎ EndsInside on bytes next

-- an undo or a redo that does not go well: so many steps lead on, each from a passed state but the
-- first one, and the step behind them does not go well
abbrev pub Halts : (on : Bool) → (bytes next : List ℕ) → Type 0
Halts on bytes next =
    (n : ℕ) × (between : List ℕ) × PassesTo n on bytes between × StaysAt on between next

-- exactly what remains on the way from one state of a line to the next: the entry before the cursor
-- is the inverse of what an undo has still to do, the one after it is what a redo has
abbrev pub LeavesBetween : (on : Bool) → (next line new : Line) → Type 0
LeavesBetween true next line new = LeavesAhead next line new
LeavesBetween false next line new = Leaves next line new

-- what an undo or a redo leaves of a line: that as it was, the next state, or exactly what remains
abbrev pub Remains : (on : Bool) → (line new : Line) → Type 0
Remains on line new = (new ≡ line) ⊎ ((next : Line) × StandsNext on line next
    × ((new ≡ next) ⊎ LeavesBetween on next line new))

-- what is left is the text of this history; or one that a line of the present database is kept in,
-- which is what remains of its line
pub record LeavesIn (on : Bool) (there : History) (marks : List Bool) (next : List ℕ) : Type 0 where
  pub between : List ℕ
  pub gives : GivesHistory between there marks
  pub is : IsHistory there
  pub left : (next ≡ between) ⊎ ((new : Line)
      × IsKept Way between (spelling there.present.base new) next
      × Remains on there.present.line new)

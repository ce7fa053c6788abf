-- The writes of an undo or a redo on a history, and what a crash within them leaves.
use Rattle.std.specs.Prelude.{◌≡◌, ◌⊎◌, ◌++◌, ◌∷◌, ◌&&◌, [], ℕ, zero, suc, Bool, true}
use Rattle.std.specs.Prelude.{◌<◌, List, false, length}
use Rattle.rc_model.specs.declared.Event.{Event}
use Rattle.rc_model.specs.Database.{Database}
use Rattle.rc_model.specs.Line.{Line, states}
use Rattle.rc_livetext.specs.Spelling.{spelling}
use Rattle.rc_historytext.specs.Halting.{EndsInside, StaysAt}
use Rattle.rc_historytext.specs.Present.{StandingText, StandsAt, crosses, passes_next}
use Rattle.rc_historytext.specs.Travelling.{CrossesOver, GoesOn, PassesTo, StepsTo, way_command}
use Rattle.rc_recovery.specs.Files.{Replace, Write}
use Rattle.rc_recovery.specs.Logging.{IsLogged, Logged, unlogged_writes, writes_of}

-- the run of an undo (not `on`) or a redo (`on`) writes this, where the history is replaced in the
-- end by the kept one: its log, too, if it starts programs
abbrev pub WritesRun : (marked on : Bool) → Database → Line → (kept : List ℕ) → List Write → Type 0
WritesRun marked on d line kept writes =
    ((l : Logged) × (limit : ℕ) × (events : List Event)
    × (l.command ≡ way_command on limit events) × (l.marked ≡ marked) × IsLogged d line l
    × (writes ≡ writes_of (spelling d line) l kept))
    ⊎ (writes ≡ unlogged_writes kept)

-- a run inside the present generation, however it ended, on a session in the form in which lines
-- are written now, and what it writes
pub record WritesInside (on : Bool) (bytes next : List ℕ) (writes : List Write) : Type 0 where
  pub ends : EndsInside on bytes next
  pub spelled : ends.session ≡ spelling ends.base ends.line
  pub is : WritesRun false on ends.base ends.line next writes

-- a step and what it writes: such a run, or a border that is crossed
abbrev pub WritesStep : (on : Bool) → (bytes next : List ℕ) → List Write → Type 0
WritesStep on bytes next writes = WritesInside on bytes next writes
    ⊎ (CrossesOver on bytes next × (writes ≡ Replace next ∷ []))

-- so many whole steps, after each of which it goes on, and what they write
abbrev pub WritesPasses : ℕ → (on : Bool) → (bytes next : List ℕ) → List Write → Type 0
WritesPasses zero on bytes next writes = (next ≡ bytes) × (writes ≡ [])
WritesPasses (suc n) on bytes next writes = (between : List ℕ) × (first : List Write)
    × (second : List Write) × WritesPasses n on bytes between first
    × WritesStep on between next second × StepsTo on between next × GoesOn on next true
    × (writes ≡ first ++ second)

-- an undo or a redo and all that it writes: whole steps, and one more, however that ended
abbrev pub WritesWay : (on : Bool) → (bytes next : List ℕ) → List Write → Type 0
WritesWay on bytes next writes = (n : ℕ) × (between : List ℕ) × (first : List Write)
    × (second : List Write) × WritesPasses n on bytes between first
    × WritesStep on between next second × (writes ≡ first ++ second)

-- what a crash leaves of a step: the history as it was, or a run inside the present generation left
-- it; or the border is crossed
abbrev pub LeavesStep : (on : Bool) → (bytes end : List ℕ) → Type 0
LeavesStep on bytes end = StaysAt on bytes end ⊎ CrossesOver on bytes end

-- what a crash leaves of an undo or a redo: whole steps lead on, and then it is left by one more
abbrev pub LeavesWay : (on : Bool) → (bytes end : List ℕ) → Type 0
LeavesWay on bytes end =
    (n : ℕ) × (between : List ℕ) × PassesTo n on bytes between × LeavesStep on between end

-- an undo does not go on from the state before the current one, if that stands in the present
-- generation
abbrev pub StopsBehind : (bytes : List ℕ) → Type 0
StopsBehind bytes = (at : StandingText) × StandsAt bytes at
    × ((passes_next false at && crosses false at) ≡ false)

-- a line has room for one state more
abbrev pub LineHasRoom : Line → Type 0
LineHasRoom line = length (states line) < line.bound

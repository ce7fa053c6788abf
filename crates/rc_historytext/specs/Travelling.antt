-- The steps of an undo or a redo that leads across borders, on the text of a history.
use Rattle.std.specs.Prelude.{◌≡◌, ◌⊎◌, ◌&&◌, ◌||◌, ℕ, zero, suc, Bool, true, false, List}
use Rattle.rc_model.specs.declared.Event.{Event}
use Rattle.rc_model.specs.Database.{Database, IsDatabase}
use Rattle.rc_model.specs.Line.{IsNext, Line}
use Rattle.rc_model.specs.Session.{Command, Does, IsLineOf, Redo, Reported, Undo}
use Rattle.rc_db.specs.Database.{IsWritable}
use Rattle.rc_dbtext.specs.Spelling.{spelling as database_text}
use Rattle.rc_livetext.specs.Spelling.{Spells, spelling}
use Rattle.rc_historytext.specs.declared.keeping.Keeping.TheVariants.{Way}
use Rattle.rc_historytext.specs.Keeping.{IsKept}
use Rattle.rc_historytext.specs.Present.{IsPresent, StandingText, StandsAt, crosses, has_inside}
use Rattle.rc_historytext.specs.Present.{passes}
use Rattle.rc_historytext.specs.Updating.{IsCrossed}

-- an undo (not `on`) or a redo (`on`), with the events of its run
abbrev pub way_command : (on : Bool) → (limit : ℕ) → List Event → Command
way_command true limit events = Redo limit events
way_command false limit events = Undo limit events

-- a line stands on the next state: the one before, or the one after
abbrev pub StandsNext : (on : Bool) → Line → Line → Type 0
StandsNext true line new = IsNext line new
StandsNext false line new = IsNext new line

-- a run inside the present generation that comes to the next state: the texts there are those of a
-- database and of a line of its states, the undo or redo is done on that line, and what it leaves
-- is kept
pub record RunsInside (on : Bool) (bytes next : List ℕ) : Type 0 where
  pub base : Database
  pub line : Line
  pub new : Line
  pub session : List ℕ
  pub limit : ℕ
  pub events : List Event
  pub report : Reported
  pub there : IsPresent bytes (database_text base) session
  pub is_database : IsDatabase base
  pub writable : IsWritable base
  pub is_line : IsLineOf base line
  pub begins : Spells base session line
  pub does : Does base line (way_command on limit events) report new
  pub arrives : StandsNext on line new
  pub kept : IsKept Way bytes (spelling base new) next

-- the next step crosses a border: there is no state behind the current one in the present
-- generation, and there is a generation behind it
abbrev pub IsAtBorder : (on : Bool) → (bytes : List ℕ) → Type 0
IsAtBorder on bytes = (at : StandingText) × StandsAt bytes at
    × (has_inside on at ≡ false) × (crosses on at ≡ true)

-- it is crossed
abbrev pub CrossesOver : (on : Bool) → (bytes next : List ℕ) → Type 0
CrossesOver on bytes next = IsAtBorder on bytes × IsCrossed on bytes next

-- one step
abbrev pub StepsTo : (on : Bool) → (bytes next : List ℕ) → Type 0
StepsTo on bytes next = RunsInside on bytes next ⊎ CrossesOver on bytes next

-- whether it goes on from where a history stands: its state is passed, and there is one behind it
abbrev pub GoesOn : (on : Bool) → (bytes : List ℕ) → Bool → Type 0
GoesOn on bytes goes = (at : StandingText) × StandsAt bytes at
    × (goes ≡ (passes at && (has_inside on at || crosses on at)))

-- so many steps lead there, and it goes on after each of them
abbrev pub PassesTo : ℕ → (on : Bool) → (bytes next : List ℕ) → Type 0
PassesTo zero on bytes next = next ≡ bytes
PassesTo (suc n) on bytes next = (between : List ℕ) × PassesTo n on bytes between
    × StepsTo on between next × GoesOn on next true

-- an undo or a redo that goes well leads there: by one step, or by several that go on from passed
-- states
abbrev pub Travels : (on : Bool) → (bytes next : List ℕ) → Type 0
Travels on bytes next = (n : ℕ) × (between : List ℕ) × PassesTo n on bytes between
    × StepsTo on between next × GoesOn on next false

-- The writes of an update, and what one undo restores after a crash within them.
use Rattle.std.specs.Prelude.{◌≡◌, ◌⊎◌, ◌++◌, ◌∷◌, [], ℕ, Bool, true, false, List}
use Rattle.rc_model.specs.declared.Event.{Event}
use Rattle.rc_model.specs.Database.{Database}
use Rattle.rc_model.specs.Line.{Line}
use Rattle.rc_model.specs.Plan.{Ask}
use Rattle.rc_model.specs.Session.{Change, IsLineOf}
use Rattle.rc_update.specs.Conversions.{Conversion}
use Rattle.rc_dbtext.specs.Spelling.{spelling as database_text}
use Rattle.rc_livetext.specs.Spelling.{Spells, spelling}
use Rattle.rc_history.specs.History.{Place}
use Rattle.rc_historytext.specs.Present.{IsPresent}
use Rattle.rc_historytext.specs.Travelling.{Travels}
use Rattle.rc_historytext.specs.Updates.{CarriesOver}
use Rattle.rc_historytext.specs.Updating.{IsSettled}
use Rattle.rc_recovery.specs.Files.{Replace, Write}
use Rattle.rc_recovery.specs.Logging.{IsLogged, Logged, unlogged_writes, writes_of}

-- a change writes this, where the history is replaced in the end by the kept one: its log, too, if
-- it starts programs, which is marked where the change is one of several steps
abbrev pub WritesChange : (marked : Bool) → Database → Line → Ask → (kept : List ℕ) → List Write
    → Type 0
WritesChange marked d line ask kept writes =
    ((l : Logged) × (events : List Event) × (l.command ≡ Change ask events)
    × (l.marked ≡ marked) × IsLogged d line l × (writes ≡ writes_of (spelling d line) l kept))
    ⊎ (writes ≡ unlogged_writes kept)

-- an update, and all that it writes, in this order: its first half, the border, its second half,
-- and that its last state is made a stop. Its line stands in the history already, so that it is
-- kept there first writes nothing
pub record WritesUpdate (list : List Conversion) (d : Database) (bytes next : List ℕ)
    (writes : List Write) : Type 0 where
  pub done : List ℕ
  pub update : CarriesOver list d bytes done
  pub settles : IsSettled done next
  pub first : List Write
  pub second : List Write
  pub lowering : WritesChange true update.base update.line update.lowers.ask update.half first
  pub raising : WritesChange true d update.start update.raises.ask done second
  pub is : writes ≡ first ++ Replace update.entered ∷ (second ++ Replace next ∷ [])

-- a history stands on a place: on this state of this database
pub record StandsOnPlace (bytes : List ℕ) (place : Place) : Type 0 where
  pub line : Line
  pub session : List ℕ
  pub there : IsPresent bytes (database_text place.base) session
  pub is_line : IsLineOf place.base line
  pub spells : Spells place.base session line
  pub current : line.current ≡ place.state

-- one undo that goes well leads there: to the database, the live set and the bundles of a place
abbrev pub UndoRestores : Place → (bytes : List ℕ) → Type 0
UndoRestores place bytes = (back : List ℕ) → Travels false bytes back → StandsOnPlace back place

-- a history is as an update found it, or one undo restores what it found
abbrev pub IsTakenBack : (found : List ℕ) → Place → (bytes : List ℕ) → Type 0
IsTakenBack found place bytes = (bytes ≡ found) ⊎ UndoRestores place bytes

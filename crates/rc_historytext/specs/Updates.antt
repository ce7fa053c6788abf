-- An update on the text of a history, from where it begins to its end.
use Rattle.std.specs.Prelude.{◌≡◌, ◌⊎◌, ℕ, Bool, false, List, [], length, map}
use Rattle.rc_model.specs.declared.Event.{Event}
use Rattle.rc_model.specs.declared.Mode.TheVariants.{DownAll}
use Rattle.rc_model.specs.Names.{Has, Holds}
use Rattle.rc_model.specs.Database.{Database, IsDatabase}
use Rattle.rc_model.specs.Headline.{TargetOfCommand}
use Rattle.rc_model.specs.Line.{Line}
use Rattle.rc_model.specs.Plan.{Ask}
use Rattle.rc_model.specs.Session.{Change, Does, IsLineOf, Reported}
use Rattle.rc_db.specs.Database.{IsWritable}
use Rattle.rc_update.specs.Carrying.{AreNamesOf, Carried, IsAlteredUp, StaysUp}
use Rattle.rc_update.specs.Conversions.{Conversion}
use Rattle.rc_dbtext.specs.Spelling.{spelling as database_text}
use Rattle.rc_livetext.specs.Spelling.{spelling}
use Rattle.rc_history.specs.History.{History, IsHistory}
use Rattle.rc_history.specs.Promises.{AddsPlaces, IsUpdate}
use Rattle.rc_history.specs.Stops.{ArePassed}
use Rattle.rc_historytext.specs.declared.keeping.Keeping.TheVariants.{Step}
use Rattle.rc_historytext.specs.Keeping.{IsKept}
use Rattle.rc_historytext.specs.Places.{GivesHistory}
use Rattle.rc_historytext.specs.Present.{IsPresent}
use Rattle.rc_historytext.specs.Telling.{conversion_of}
use Rattle.rc_historytext.specs.Updating.{IsEntered, IsSettled, renames_of}

-- the conversions that a text says: those that restart a service are not among them
abbrev pub renamed : List Conversion → List Conversion
renamed list = map conversion_of (renames_of list)

-- a history of one generation, whose line this is
abbrev pub alone_in : Database → Line → History
alone_in d line = record {
  earlier = [];
  present = record { base = d; line = line; by = [] };
  later = [];
}

-- the texts of the present generation are those of a database and of a line of its states, in the
-- form in which lines are written now
pub record StandsOn (bytes : List ℕ) (base : Database) (line : Line) : Type 0 where
  pub there : IsPresent bytes (database_text base) (spelling base line)
  pub is_database : IsDatabase base
  pub writable : IsWritable base
  pub is_line : IsLineOf base line

-- what a step leaves of a line is kept: nothing if it left the line as it was
abbrev pub KeepsLeft : Database → (line new : Line) → (bytes kept : List ℕ) → Type 0
KeepsLeft d line new bytes kept =
    ((new ≡ line) × (kept ≡ bytes)) ⊎ IsKept Step bytes (spelling d new) kept

-- the line is kept where it stands, and then what the step leaves of it
abbrev pub KeepsTwice : Database → (line new : Line) → (bytes kept : List ℕ) → Type 0
KeepsTwice d line new bytes kept = (first : List ℕ)
    × IsKept Step bytes (spelling d line) first × KeepsLeft d line new first kept

-- the first half of an update from one database to another: what is live, and is altered, gone or
-- to be restarted, is lowered, with all that depends on it, so that the target is live; this is
-- kept
pub record Lowers (list : List Conversion) (base d : Database) (line : Line)
    (bytes kept : List ℕ) : Type 0 where
  pub new : Line
  pub ask : Ask
  pub events : List Event
  pub report : Reported
  pub stands : StandsOn bytes base line
  pub mode : ask.mode ≡ DownAll
  pub named : ask.all ≡ false
  pub words : AreNamesOf base (IsAlteredUp base d list (Has line.current.live)) ask.words
  pub does : Does base line (Change ask events) report new
  pub arrives : Holds new.current.live (TargetOfCommand base line (Change ask events))
  pub keeps : KeepsTwice base line new bytes kept

-- the border: the new database is entered on a line of one state, in which that is live as which
-- what is not lowered goes on
pub record EntersOn (list : List Conversion) (base d : Database) (was start : Line)
    (bytes kept : List ℕ) : Type 0 where
  pub is_database : IsDatabase d
  pub writable : IsWritable d
  pub before : start.before ≡ []
  pub after : start.after ≡ []
  pub bound : start.bound ≡ was.bound
  pub table : start.current.table ≡ d.table
  pub length : length start.current.live ≡ length d.names
  pub live : Holds start.current.live
      (Carried base d list (StaysUp base d list (Has was.current.live)))
  pub enters : IsEntered bytes (database_text d) (spelling d start) list kept

-- the second half: a change in the new database, whatever failed of it, and what it leaves is kept
pub record Raises (d : Database) (start : Line) (bytes kept : List ℕ) : Type 0 where
  pub new : Line
  pub ask : Ask
  pub events : List Event
  pub report : Reported
  pub does : Does d start (Change ask events) report new
  pub keeps : KeepsLeft d start new bytes kept

-- an update to a database by these conversions, up to the end of its second half
pub record CarriesOver (list : List Conversion) (d : Database) (bytes next : List ℕ)
    : Type 0 where
  pub base : Database
  pub line : Line
  pub start : Line
  pub half : List ℕ
  pub entered : List ℕ
  pub lowers : Lowers list base d line bytes half
  pub enters : EntersOn list base d line start half entered
  pub raises : Raises d start entered next

-- and to its end, where its last state is made a stop
abbrev pub UpdatesTo : List Conversion → Database → (bytes next : List ℕ) → Type 0
UpdatesTo list d bytes next =
    (done : List ℕ) × CarriesOver list d bytes done × IsSettled done next

-- the text gives the history after an update, in which what the update passed is passed
pub record GivesUpdated (list : List Conversion) (d : Database) (h : History) (next : List ℕ)
    : Type 0 where
  pub new : History
  pub marks : List Bool
  pub number : ℕ
  pub gives : GivesHistory next new marks
  pub is : IsHistory new
  pub update : IsUpdate h list d new
  pub said : update.by ≡ renamed list
  pub adds : AddsPlaces h list d new update number
  pub passed : ArePassed marks new number

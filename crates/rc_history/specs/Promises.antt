-- What holds of a history.
use Rattle.std.specs.Prelude.{◌≡◌, ◌≢◌, ◌≤◌, ◌<◌, ◌+◌, ◌-◌, ◌⊎◌, ◌++◌, ◌∷◌, [], ℕ, List, Some}
use Rattle.std.specs.Prelude.{slice_get}
use Rattle.std.specs.Prelude.{Result, Ok, length}
use Rattle.rc_model.specs.Names.{Has, Holds}
use Rattle.rc_model.specs.declared.Refusal.{Refusal}
use Rattle.rc_model.specs.declared.Event.{Event}
use Rattle.rc_model.specs.Database.{Database}
use Rattle.rc_model.specs.Line.{Line, IsNext, states}
use Rattle.rc_model.specs.Plan.{Ask}
use Rattle.rc_model.specs.declared.Mode.TheVariants.{DownAll}
use Rattle.rc_model.specs.Session.{Command, Change, Undo, Redo, Reported}
use Rattle.rc_model.specs.Headline.{IsUndo, IsRedo, WentWell, Leaves, LeavesAhead}
use Rattle.rc_model.specs.Headline.{TargetOfCommand}
use Rattle.rc_update.specs.Conversions.{Conversion}
use Rattle.rc_update.specs.Carrying.{IsTwin, IsUnaltered, IsAlteredUp, AreNamesOf}
use Rattle.rc_history.specs.History.{Generation, History, IsHistory, places, cursor_of}
use Rattle.rc_history.specs.History.{place_now, places_before, last_state, first_state}
use Rattle.rc_history.specs.History.{place_in, places_after}
use Rattle.rc_history.specs.Moves.{MovesInside, IsAcross, StepsBack, StepsOn, SeveralBack}
use Rattle.rc_history.specs.Moves.{SeveralOn, Enters}

-- only the cursor has moved, to this place, and the history stands on what was there: database,
-- live set and bundles
pub record IsRestored (h new : History) (place : ℕ) : Type 0 where
  pub same : places new ≡ places h
  pub there : cursor_of new ≡ place
  pub restored : slice_get (places h) place ≡ Some (place_now new)

-- steps back that all go well restore the place that is so many back, across updates too
abbrev pub StepsBackRestore : History → Type 0
StepsBackRestore h = (n : ℕ) (new : History) → SeveralBack n h new →
    (n ≤ cursor_of h) × IsRestored h new (cursor_of h - n)

-- steps on that all go well restore the place that is so many on
abbrev pub StepsOnRestore : History → Type 0
StepsOnRestore h = (n : ℕ) (new : History) → SeveralOn n h new →
    IsRestored h new (cursor_of h + n)

-- where there is a place before the current one, a step back can go well
abbrev pub CanStepBack : History → Type 0
CanStepBack h = (cursor_of h ≢ 0) → (new : History) × StepsBack h new

-- the same forwards
abbrev pub CanStepOn : History → Type 0
CanStepOn h = (places_after h ≢ []) → (new : History) × StepsOn h new

-- an undo inside a generation comes to the state before, or leaves exactly the inverse of what
-- remains; whatever it does, the database stays
abbrev pub UndosLeaveInside : History → Type 0
UndosLeaveInside h = (back : Line) (limit : ℕ) (events : List Event) (report : Reported)
    (new : History) → IsNext back h.present.line →
    MovesInside h (Undo limit events) (Ok report) new →
    (new.present.base ≡ h.present.base)
    × ((new.present.line ≡ back) ⊎ Leaves back h.present.line new.present.line)

-- a redo likewise
abbrev pub RedosLeaveInside : History → Type 0
RedosLeaveInside h = (on : Line) (limit : ℕ) (events : List Event) (report : Reported)
    (new : History) → IsNext h.present.line on →
    MovesInside h (Redo limit events) (Ok report) new →
    (new.present.base ≡ h.present.base)
    × ((new.present.line ≡ on) ⊎ LeavesAhead on h.present.line new.present.line)

-- where an undo inside did not come to the place before, and the very next command is an undo that
-- goes well, it ends there
abbrev pub UndosGoOnInside : History → Type 0
UndosGoOnInside h = (back : Line) (there new : History) (first next : Command) (report : Reported)
    (answer : Result Reported Refusal) → IsUndo first → IsUndo next → WentWell answer →
    IsNext back h.present.line → MovesInside h first (Ok report) there →
    there.present.line ≢ back → MovesInside there next answer new →
    place_now new ≡ place_in h.present.base back.current

-- a redo likewise
abbrev pub RedosGoOnInside : History → Type 0
RedosGoOnInside h = (on : Line) (there new : History) (first next : Command) (report : Reported)
    (answer : Result Reported Refusal) → IsRedo first → IsRedo next → WentWell answer →
    IsNext h.present.line on → MovesInside h first (Ok report) there →
    there.present.line ≢ on → MovesInside there next answer new →
    place_now new ≡ place_in h.present.base on.current

-- what an undo makes of the places, where its line is not full: it stays, or goes to the place
-- before, or puts one place between, in the present database; no other place is lost
abbrev pub UndosKeepPlaces : History → Type 0
UndosKeepPlaces h = (limit : ℕ) (events : List Event) (report : Reported) (new : History) →
    length (states h.present.line) < h.present.line.bound →
    MovesInside h (Undo limit events) (Ok report) new →
    ((places new ≡ places h) × (cursor_of new ≡ cursor_of h) × (place_now new ≡ place_now h))
    ⊎ ((places new ≡ places h) × (cursor_of h ≡ cursor_of new + 1))
    ⊎ ((new.present.base ≡ h.present.base) × (places_before new ≡ places_before h)
    × (places_after new ≡ place_now h ∷ places_after h))

-- each service that is live on one side of a border is one that is live on the other side: exactly
-- one, so that no service moves where it is crossed
pub record MovesNothing (g next : Generation) : Type 0 where
  pub forth : (s : ℕ) → Has (last_state g.line).live s
      → (t : ℕ) × IsTwin g.base next.base next.by s t × Has (first_state next.line).live t
  pub back : (t : ℕ) → Has (first_state next.line).live t
      → (s : ℕ) × IsTwin g.base next.base next.by s t × Has (last_state g.line).live s
  pub one_forth : (s t u : ℕ) → IsTwin g.base next.base next.by s t
      → IsTwin g.base next.base next.by s u → t ≡ u
  pub one_back : (s t u : ℕ) → IsTwin g.base next.base next.by s u
      → IsTwin g.base next.base next.by t u → s ≡ t

-- what the entering of an update leaves: a history with all places up to the current one and one
-- behind it; one step back across the border stands where the history stood
pub record IsEnteredBehind (h new : History) : Type 0 where
  pub history : IsHistory new
  pub before : places_before new ≡ places_before h ++ place_now h ∷ []
  pub way_back : (old : History) × IsAcross old new × (place_now old ≡ place_now h)

-- the first half of an update: all that is live and altered is to go down, essential or not; what
-- is not altered goes on unaltered, as the program decides it
pub record IsFirstHalf (h : History) (list : List Conversion) (d : Database) (ask : Ask)
    : Type 0 where
  pub mode : ask.mode ≡ DownAll
  pub words : AreNamesOf h.present.base
      (IsAlteredUp h.present.base d list (Has h.present.line.current.live)) ask.words
  pub spared : (s : ℕ) → Has h.present.line.current.live s
      → (IsAlteredUp h.present.base d list (Has h.present.line.current.live) s → ⊥)
      → IsUnaltered h.present.base d list s

-- where it goes well, what is live goes on unaltered: so the database can be entered
abbrev pub FirstHalvesLeaveWhatGoesOn : History → Type 0
FirstHalvesLeaveWhatGoesOn h = (list : List Conversion) (d : Database) (ask : Ask)
    (events : List Event) (report : Reported) (new : History) → IsFirstHalf h list d ask →
    MovesInside h (Change ask events) (Ok report) new → WentWell (Ok report) →
    (s : ℕ) → Has new.present.line.current.live s → IsUnaltered h.present.base d list s

-- the second history is the first one without its oldest generation
abbrev pub DropsOldest : History → History → Type 0
DropsOldest h new = (gone : Generation) × (h.earlier ≡ gone ∷ new.earlier)
    × (new.present ≡ h.present) × (new.later ≡ h.later)

-- or without the later ones
abbrev pub DropsLater : History → History → Type 0
DropsLater h new =
    (new.earlier ≡ h.earlier) × (new.present ≡ h.present) × (new.later ≡ [])

-- one of both
abbrev pub DropsEnd : History → History → Type 0
DropsEnd h new = DropsOldest h new ⊎ DropsLater h new

-- the present line has room for one state more
abbrev pub HasRoom : History → Type 0
HasRoom h = length (states h.present.line) < h.present.line.bound

-- the same history, or the first one without its oldest generation, where it may have no more
abbrev pub MayDropOldest : History → History → Type 0
MayDropOldest h new = (new ≡ h) ⊎ DropsOldest h new

-- an update is carried out: its first half comes to its target; its database is entered, by the
-- conversions that are said of it, for which the oldest generation may be dropped; and its second
-- half is a change there, which may fail
pub record IsUpdate (h : History) (list : List Conversion) (d : Database) (new : History)
    : Type 0 where
  pub by : List Conversion
  pub half : History
  pub room : History
  pub entered : History
  pub lowering : Ask
  pub raising : Ask
  pub lowered : List Event
  pub raised : List Event
  pub first : Reported
  pub second : Reported
  pub asks : IsFirstHalf h list d lowering
  pub lowers : MovesInside h (Change lowering lowered) (Ok first) half
  pub arrives : Holds half.present.line.current.live
      (TargetOfCommand h.present.base h.present.line (Change lowering lowered))
  pub drops : MayDropOldest half room
  pub enters : Enters room by d entered
  pub raises : MovesInside entered (Change raising raised) (Ok second) new

-- a change has added so many states to a line: none if it left the line as it was
abbrev pub AddsTo : (line new : Line) → (number : ℕ) → Type 0
AddsTo line new number = ((new ≡ line) × (number ≡ 0))
    ⊎ ((new.current ≢ line.current) × (number ≡ 1))

-- an update has added so many places: one where it entered its database, and one with each half
-- that moved something
abbrev pub AddsPlaces : (h : History) (list : List Conversion) (d : Database) (new : History)
    → IsUpdate h list d new → (number : ℕ) → Type 0
AddsPlaces h list d new update number = (first : ℕ) × (second : ℕ)
    × AddsTo h.present.line update.half.present.line first
    × AddsTo update.entered.present.line new.present.line second
    × (number ≡ first + 1 + second)

-- one, two or three steps back that go well restore what the update found: its database, its live
-- set and its bundles
abbrev pub UpdatesAreTakenBack : History → Type 0
UpdatesAreTakenBack h = (list : List Conversion) (d : Database) (new : History) →
    IsUpdate h list d new → (n : ℕ) × (1 ≤ n) × (n ≤ 3)
    × ((old : History) → SeveralBack n new old → place_now old ≡ place_now h)

-- an update that was cut short stands where its first half, or the part of it that was entered,
-- left it, or in the database that it has entered; what was entered of its second half is a change
abbrev pub IsCutShort : History → List Conversion → Database → History → Type 0
IsCutShort h list d new =
    ((ask : Ask) × (events : List Event) × (report : Reported)
    × MovesInside h (Change ask events) (Ok report) new)
    ⊎ ((half : History) × (room : History) × (ask : Ask) × (events : List Event)
    × (report : Reported) × MovesInside h (Change ask events) (Ok report) half
    × MayDropOldest half room × Enters room list d new)

-- two steps back at most, that go well, restore what it found
abbrev pub CutUpdatesAreTakenBack : History → Type 0
CutUpdatesAreTakenBack h = (list : List Conversion) (d : Database) (new : History) →
    IsCutShort h list d new → (n : ℕ) × (n ≤ 2)
    × ((old : History) → SeveralBack n new old → place_now old ≡ place_now h)

-- Where an undo and a redo of a history stop: they go on from the places that are passed, through
-- which the command went that they take back or repeat.
use Rattle.std.specs.Prelude.{◌≡◌, ◌≤◌, ◌<◌, ◌-◌, ◌⊎◌, ℕ, zero, suc, Bool, true, List, [], Some}
use Rattle.std.specs.Prelude.{slice_get}
use Rattle.rc_model.specs.Database.{Database}
use Rattle.rc_update.specs.Conversions.{Conversion}
use Rattle.rc_history.specs.History.{History, places, places_after, cursor_of, place_now}
use Rattle.rc_history.specs.Moves.{StepsBack, StepsOn}
use Rattle.rc_history.specs.Promises.{AddsPlaces, IsUpdate}

-- a place is passed, where there is a mark for each place, oldest first
abbrev pub IsPassedAt : List Bool → ℕ → Type 0
IsPassedAt marks k = slice_get marks k ≡ Some true

-- an undo stops on what is not passed, or where there is nothing before
abbrev pub IsStopBack : List Bool → History → Type 0
IsStopBack marks h = (IsPassedAt marks (cursor_of h) → ⊥) ⊎ (cursor_of h ≡ 0)

-- a redo stops on what is not passed, or where there is nothing after
abbrev pub IsStopOn : List Bool → History → Type 0
IsStopOn marks h = (IsPassedAt marks (cursor_of h) → ⊥) ⊎ (places_after h ≡ [])

-- an undo that goes well passes so many places, and stops behind them
abbrev pub UndoesPast : List Bool → ℕ → History → History → Type 0
UndoesPast marks zero h new = StepsBack h new × IsStopBack marks new
UndoesPast marks (suc n) h new = (next : History) × StepsBack h next
    × IsPassedAt marks (cursor_of next) × UndoesPast marks n next new

-- a redo likewise
abbrev pub RedoesPast : List Bool → ℕ → History → History → Type 0
RedoesPast marks zero h new = StepsOn h new × IsStopOn marks new
RedoesPast marks (suc n) h new = (next : History) × StepsOn h next
    × IsPassedAt marks (cursor_of next) × RedoesPast marks n next new

-- an undo that goes well
abbrev pub Undoes : List Bool → History → History → Type 0
Undoes marks h new = (n : ℕ) × UndoesPast marks n h new

abbrev pub Redoes : List Bool → History → History → Type 0
Redoes marks h new = (n : ℕ) × RedoesPast marks n h new

-- only the cursor has moved, back to the nearest stop, and the history stands on what was there:
-- database, live set and bundles
pub record StandsBefore (marks : List Bool) (h new : History) : Type 0 where
  pub same : places new ≡ places h
  pub restored : slice_get (places h) (cursor_of new) ≡ Some (place_now new)
  pub before : cursor_of new < cursor_of h
  pub between : (k : ℕ) → cursor_of new < k → k < cursor_of h → IsPassedAt marks k
  pub stop : IsStopBack marks new

-- the same forwards
pub record StandsAfter (marks : List Bool) (h new : History) : Type 0 where
  pub same : places new ≡ places h
  pub restored : slice_get (places h) (cursor_of new) ≡ Some (place_now new)
  pub after : cursor_of h < cursor_of new
  pub between : (k : ℕ) → cursor_of h < k → k < cursor_of new → IsPassedAt marks k
  pub stop : IsStopOn marks new

-- the marks that an update makes, which adds so many places: it begins on a stop, or where there is
-- nothing before, and passes what is between that and its end
pub record ArePassed (marks : List Bool) (new : History) (number : ℕ) : Type 0 where
  pub begins : (IsPassedAt marks (cursor_of new - number) → ⊥) ⊎ (cursor_of new - number ≡ 0)
  pub between : (k : ℕ) → cursor_of new - number < k → k < cursor_of new → IsPassedAt marks k

-- one undo that goes well takes an update back: database, live set and bundles
abbrev pub OneUndoTakesBack : History → Type 0
OneUndoTakesBack h = (list : List Conversion) (d : Database) (new : History) →
    (update : IsUpdate h list d new) → (number : ℕ)
    × AddsPlaces h list d new update number × (1 ≤ number) × (number ≤ 3)
    × ((marks : List Bool) (old : History) → ArePassed marks new number → Undoes marks new old →
    place_now old ≡ place_now h)

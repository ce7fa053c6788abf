-- States, edits of bundles, the entries between states, and the moves of a line.
use Rattle.std.specs.Prelude.{◌≡◌, ◌≢◌, ◌↔◌, ℕ, Bool, List, map, Contains, Option, ◌≤◌, suc, false}
use Rattle.std.specs.Prelude.{length, All, Some, None, ◌<◌, ◌^◌, [], ◌∷◌, ◌++◌, slice_get, ltb}
use Rattle.std.specs.Prelude.{if◌then◌else◌, ◌⊎◌}
use Rattle.rc_model.specs.Names.{IsInByteOrder, Holds, Has, IsAscending}
use Rattle.rc_model.specs.Database.{Bundles, value_of, Selected, IsKnown, IsFirst, IsUnknownAt}
use Rattle.rc_model.specs.Database.{IsTable, IsBundle}
use Rattle.rc_model.specs.declared.BundleFault.{BundleFault}
use Rattle.rc_model.specs.declared.BundleFault.TheVariants.{IsAtomic, Exists, Missing, Unknown}
use Rattle.rc_model.specs.declared.BundleFault.TheVariants.{Memory, Full}

-- what a change, an edit, an undo and a redo go
-- between: the services that are live, and the bundles
pub record State : Type 0 where
  pub live : List Bool
  pub table : Bundles

-- a name whose set changes, with the set before and the set after; none where it is no bundle's
pub record Alteration : Type 0 where
  pub name : List ℕ
  pub before : Option (List Bool)
  pub after : Option (List Bool)

-- the names that alter
abbrev pub names_altered : List Alteration → List (List ℕ)
names_altered edit = map (λ a. a.name) edit

-- the name has the one set in the old table and the other in the new, and they differ
pub record IsAlteration (old new : Bundles) (a : Alteration) : Type 0 where
  pub before : value_of old a.name ≡ a.before
  pub after : value_of new a.name ≡ a.after
  pub differs : a.before ≢ a.after

-- the difference of two tables, called an edit as is the command that makes
-- one: each alteration once, in byte order of the names, and nothing else
pub record IsEdit (old new : Bundles) (edit : List Alteration) : Type 0 where
  pub order : IsInByteOrder (names_altered edit)
  pub same : (a : Alteration) → Contains edit a ↔ IsAlteration old new a

-- an alteration the other way round
abbrev pub alteration_back : Alteration → Alteration
alteration_back a = record { name = a.name; before = a.after; after = a.before }

-- an edit the other way round
abbrev pub edit_back : List Alteration → List Alteration
edit_back edit = map alteration_back edit

-- the new table gives the name this value, where none means
-- that it is no bundle, and each other name the one that it had
pub record IsChangedAt (old : Bundles) (name : List ℕ) (value : Option (List Bool))
    (new : Bundles) : Type 0 where
  pub here : value_of new name ≡ value
  pub others : (other : List ℕ) → other ≢ name → value_of new other ≡ value_of old other

-- a name is defined: from now on it has the services that the
-- contents stood for in the old table, and no other name alters
pub record Defines (names : List (List ℕ)) (old : Bundles) (name : List ℕ)
    (contents : List (List ℕ)) (new : Bundles) : Type 0 where
  pub set : List Bool
  pub bound : length set ≡ length names
  pub services : Holds set (Selected names old contents)
  pub change : IsChangedAt old name (Some set) new

-- names are removed: from now on they are no bundles, and no other name alters
pub record Removes (old : Bundles) (words : List (List ℕ)) (new : Bundles) : Type 0 where
  pub gone : (name : List ℕ) → Contains words name → value_of new name ≡ None
  pub others : (name : List ℕ) → (Contains words name → ⊥) → value_of new name ≡ value_of old name

-- the name may be defined: it is no service's and, where nothing is forced, no bundle's
pub record MayBeDefined (names : List (List ℕ)) (table : Bundles) (name : List ℕ)
    (force : Bool) : Type 0 where
  pub no_service : Contains names name → ⊥
  pub fresh : force ≡ false → IsBundle table name → ⊥

-- nothing keeps a bundle from being defined: its name may be, its contents
-- are names of something, and the table is not full or has that name
pub record CanAdd (names : List (List ℕ)) (table : Bundles) (name : List ℕ)
    (contents : List (List ℕ)) (force : Bool) : Type 0 where
  pub name_may : MayBeDefined names table name force
  pub known : All (IsKnown names table) contents
  pub place : 4096 ≤ length table → IsBundle table name

-- nothing keeps names from being removed: none is a
-- service's and, where nothing is forced, each is a bundle's
pub record CanDelete (names : List (List ℕ)) (table : Bundles) (words : List (List ℕ))
    (force : Bool) : Type 0 where
  pub no_service : All (λ word. Contains names word → ⊥) words
  pub there : force ≡ false → All (IsBundle table) words

-- when a definition is refused, the first fault in this order; the name has place 0 and
-- the contents follow; `Memory`, of calls alone, comes only where all else is right
abbrev pub IsAddFault : List (List ℕ) → Bundles → List ℕ → List (List ℕ) → Bool → BundleFault →
    Type 0
IsAddFault names table name contents force (IsAtomic place) = (place ≡ 0) × Contains names name
IsAddFault names table name contents force Exists =
    (Contains names name → ⊥) × (force ≡ false) × IsBundle table name
IsAddFault names table name contents force (Unknown place) =
    MayBeDefined names table name force
    × ((k : ℕ) × (place ≡ suc k) × IsUnknownAt names table contents k)
IsAddFault names table name contents force Full =
    MayBeDefined names table name force × All (IsKnown names table) contents
    × (IsBundle table name → ⊥) × (4096 ≤ length table)
IsAddFault names table name contents force Memory = CanAdd names table name contents force
IsAddFault names table name contents force (Missing place) = ⊥

-- when a removal is refused: the first word that is a service's, else, where nothing is forced,
-- the first that is no bundle's; `Memory`, of calls alone, comes only where all words are right
abbrev pub IsDeleteFault : List (List ℕ) → Bundles → List (List ℕ) → Bool → BundleFault → Type 0
IsDeleteFault names table words force (IsAtomic place) = IsFirst (Contains names) words place
IsDeleteFault names table words force (Missing place) =
    All (λ word. Contains names word → ⊥) words × (force ≡ false)
    × IsFirst (λ word. IsBundle table word → ⊥) words place
IsDeleteFault names table words force Memory = CanDelete names table words force
IsDeleteFault names table words force Exists = ⊥
IsDeleteFault names table words force (Unknown place) = ⊥
IsDeleteFault names table words force Full = ⊥

-- the difference of two states: the services that went
-- up, those that went down, and each bundle that altered
pub record Entry : Type 0 where
  pub raised : List ℕ
  pub lowered : List ℕ
  pub edit : List Alteration

-- a service that the second set has and the first lacks
abbrev pub IsGained : List Bool → List Bool → ℕ → Type 0
IsGained from to s = Has to s × (Has from s → ⊥)

-- the ids of which this holds, each once, ascending
pub record Lists (P : ℕ → Type 0) (ids : List ℕ) : Type 0 where
  pub ascending : IsAscending ids
  pub same : (s : ℕ) → Contains ids s ↔ P s

-- the entry from one state to another names exactly what differs
pub record IsEntry (from to : State) (entry : Entry) : Type 0 where
  pub raised : Lists (IsGained from.live to.live) entry.raised
  pub lowered : Lists (IsGained to.live from.live) entry.lowered
  pub edit : IsEdit from.table to.table entry.edit

-- the inverse of an entry
abbrev pub entry_back : Entry → Entry
entry_back entry =
    record { raised = entry.lowered; lowered = entry.raised; edit = edit_back entry.edit }

-- a zipper: the states before the current one, it, and those after, in the order of
-- the line; its bound, unlike that of a set, is how many states it may have
pub record Line : Type 0 where
  pub before : List State
  pub current : State
  pub after : List State
  pub bound : ℕ

-- all states of a line, in order; the oldest is the first, whenever the others were put in
abbrev pub states : Line → List State
states line = line.before ++ line.current ∷ line.after

-- the place of the current state among them
abbrev pub cursor : Line → ℕ
cursor line = length line.before

-- all but the last
abbrev pub but_last : List State → List State
but_last [] = []
but_last (a ∷ []) = []
but_last (a ∷ b ∷ rest) = a ∷ but_last (b ∷ rest)

-- the line without its oldest state or, where that is the current one or beside
-- it, without its last; the first argument is `line.before`, to match on
abbrev pub shorter : List State → Line → Line
shorter [] line = record line { after = but_last line.after }
shorter (a ∷ []) line = record line { after = but_last line.after }
shorter (a ∷ b ∷ rest) line = record line { before = b ∷ rest }

-- a line with more states than it may have is left with one less, and any other as it is
abbrev pub within_bound : Line → Line
within_bound line = if ltb line.bound (length (states line)) then shorter line.before line else line

-- each state differs from the next one
abbrev pub DifferInTurn : List State → Type 0
DifferInTurn [] = Unit {0}
DifferInTurn (a ∷ []) = Unit {0}
DifferInTurn (a ∷ b ∷ rest) = (a ≢ b) × DifferInTurn (b ∷ rest)

-- states that a line may have: neighbours differ, all live sets
-- have this length, and each table is one of bundles (`IsTable`)
pub record AreStates (bound : ℕ) (all : List State) : Type 0 where
  pub differ : DifferInTurn all
  pub bounds : All (λ state. length state.live ≡ bound) all
  pub tables : All (λ state. IsTable state.table) all

-- how many states a line may have, a number of 32 bits: at least three, so that the
-- one which `within_bound` drops is neither the current one nor beside it
abbrev pub IsBound : ℕ → Type 0
IsBound bound = (3 ≤ bound) × (bound < 2 ^ 32)

-- a line: its states are as `AreStates` says, all live sets as long as the
-- current one; its bound is as `IsBound` says; and it has no more states than that
pub record IsLine (line : Line) : Type 0 where
  pub held : AreStates (length line.current.live) (states line)
  pub bound : IsBound line.bound
  pub few : length (states line) ≤ line.bound

-- the second line is the first with the cursor one state on:
-- the current state is left behind, and the one after it is reached
pub record IsNext (line next : Line) : Type 0 where
  pub left : next.before ≡ line.before ++ line.current ∷ []
  pub reached : line.after ≡ next.current ∷ next.after
  pub bound : next.bound ≡ line.bound

-- the line without what came after the current state, with one state more, and the cursor on it
abbrev pub put_last : Line → State → Line
put_last line end =
    record {
      before = line.before ++ line.current ∷ [];
      current = end;
      after = [];
      bound = line.bound;
    }

-- a change or an edit ends in this state: where it is the current one the line stays;
-- else what came after is cut off, and the state is added, within the bound
abbrev pub MovesTo : Line → State → Line → Type 0
MovesTo line end new = ((end ≡ line.current) × (new ≡ line))
    ⊎ ((end ≢ line.current) × (new ≡ within_bound (put_last line end)))

-- these services with the bundles of the current state
abbrev pub with_live : Line → List Bool → State
with_live line live = record { live = live; table = line.current.table }

-- the services of the current state with these bundles
abbrev pub with_table : Line → Bundles → State
with_table line table = record { live = line.current.live; table = table }

-- a change after which these services are live
abbrev pub MovesByChange : Line → List Bool → Line → Type 0
MovesByChange line live new = MovesTo line (with_live line live) new

-- an edit after which these are the bundles
abbrev pub MovesByEdit : Line → Bundles → Line → Type 0
MovesByEdit line table new = MovesTo line (with_table line table) new

-- where the second line is the next of the first (`IsNext`): the line with
-- this state between their two current ones, and the cursor on it
abbrev pub put_between : Line → State → Line → Line
put_between line end next =
    record { before = next.before; current = end; after = line.after; bound = line.bound }

-- an undo after which these services are live: if they are those of the state before, the cursor
-- goes back, also where the current state has the same; else, if they are those of the current
-- state, the line stays; else they, with the current bundles, are put between, within the bound
abbrev pub MovesByUndo : Line → List Bool → Line → Type 0
MovesByUndo line live new =
    (back : Line) × IsNext back line × (((live ≡ back.current.live) × (new ≡ back))
    ⊎ ((live ≢ back.current.live) × (live ≡ line.current.live) × (new ≡ line))
    ⊎ ((live ≢ back.current.live) × (live ≢ line.current.live)
    × (new ≡ within_bound (put_between back (with_live line live) line))))

-- a redo after which these services are live: if they are those of the state after, the cursor
-- goes on, also where the current state has the same; else, if they are those of the current
-- state, the line stays; else they, with the current bundles, are put between, within the bound
abbrev pub MovesByRedo : Line → List Bool → Line → Type 0
MovesByRedo line live new = (on : Line) × IsNext line on × (((live ≡ on.current.live) × (new ≡ on))
    ⊎ ((live ≢ on.current.live) × (live ≡ line.current.live) × (new ≡ line))
    ⊎ ((live ≢ on.current.live) × (live ≢ line.current.live)
    × (new ≡ within_bound (put_between line (with_live line live) on))))

-- the entry from the state at this place of the line to the one after it
abbrev pub IsEntryAt : Line → ℕ → Entry → Type 0
IsEntryAt line place entry =
    (a : State) × (b : State) × (slice_get (states line) place ≡ Some a)
    × (slice_get (states line) (suc place) ≡ Some b) × IsEntry a b entry

-- the entry that leads to the current state
abbrev pub IsEntryBefore : Line → Entry → Type 0
IsEntryBefore line entry = (place : ℕ) × (cursor line ≡ suc place) × IsEntryAt line place entry

-- the entry that leads on from the current state
abbrev pub IsEntryAfter : Line → Entry → Type 0
IsEntryAfter line entry = IsEntryAt line (cursor line) entry

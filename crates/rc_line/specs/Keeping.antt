-- How a line is kept, for its view alone: the current state, and two stacks of entries.
-- No public contract speaks of it.
use Rattle.std.specs.Prelude.{◌≡◌, ◌≢◌, ◌⊎◌, ◌+◌, ◌≤◌, ◌<◌, ℕ, suc, Contains, slice_get, drop, List}
use Rattle.std.specs.Prelude.{[], ◌∷◌, ◌++◌, reverse, Bool, true, false, Option, Some, None, length}
use Rattle.std.specs.Prelude.{slice_set, vec_len, vec_capacity}
use Rattle.std.specs.Global.{Vec}
use Rattle.std.specs.Ordering.{nat_cmp}
use Rattle.std.specs.Cmp.Lexicographic.{slice_cmp}
use Rattle.std.specs.FinMap.{FinMap, insert, remove, entries, from_entries}
use Rattle.rc_line.specs.declared.aim.Aim.{Aim}
use Rattle.rc_line.specs.declared.aim.Aim.TheVariants.{Change, Edit, Undo, Redo}
use Rattle.rc_line.specs.declared.room.Room.{Room}
use Rattle.rc_model.specs.Database.{Bundles, IsTable, value_of}
use Rattle.rc_model.specs.Line.{Alteration, State, Entry, IsGained, IsEntry, Line, IsBound, states}
use Rattle.rc_model.specs.Line.{Lists}

-- which of its two values an alteration leads to
abbrev pub towards : Bool → Alteration → Option (List Bool)
towards true a = a.after
towards false a = a.before

-- bundles as a map from names
abbrev pub Rows : Type 0
Rows = FinMap (slice_cmp nat_cmp) (List Bool)

-- the rows after a name was given this value, none among the values
abbrev pub put : Rows → List ℕ → Option (List Bool) → Rows
put rows name None = remove rows name
put rows name (Some set) = insert rows name set

-- the rows after one value of each alteration was put in
abbrev pub written : (Alteration → Option (List Bool)) → List Alteration → Rows → Rows
written value [] rows = rows
written value (a ∷ edit) rows = written value edit (put rows a.name (value a))

-- the table after one value of each alteration was put in
abbrev pub table_rewritten_by : (Alteration → Option (List Bool)) → List Alteration → Bundles →
    Bundles
table_rewritten_by value edit table = entries (written value edit (from_entries table))

-- a set with the flags at these ids written over
abbrev pub with_marks : Bool → List ℕ → List Bool → List Bool
with_marks flag [] set = set
with_marks flag (s ∷ ids) set = with_marks flag ids (slice_set set s flag)

-- the state that an entry leads to
unfoldable pub forth : Entry → State → State
forth e s = record {
  live = with_marks true e.raised (with_marks false e.lowered s.live);
  table = table_rewritten_by (towards true) e.edit s.table;
}

-- the state that an entry comes from
unfoldable pub back : Entry → State → State
back e s = record {
  live = with_marks true e.lowered (with_marks false e.raised s.live);
  table = table_rewritten_by (towards false) e.edit s.table;
}

-- two states that differ, of one bound and with tables that are such, and their entry
pub record IsStep (from to : State) (e : Entry) : Type 0 where
  pub bound : length to.live ≡ length from.live
  pub differ : from ≢ to
  pub from_table : IsTable from.table
  pub to_table : IsTable to.table
  pub entry : IsEntry from to e

-- the states that entries lead through, the nearest first
abbrev pub walk : (Entry → State → State) → List Entry → State → List State
walk step [] s = []
walk step (e ∷ es) s = step e s ∷ walk step es (step e s)

-- each entry is the difference of the two states that it stands between, the nearest
-- first, those that lead to a state
abbrev pub Behind : List Entry → State → Type 0
Behind [] s = Unit {0}
Behind (e ∷ es) s = IsStep (back e s) s e × Behind es (back e s)

-- the same of those that lead on
abbrev pub Ahead : List Entry → State → Type 0
Ahead [] s = Unit {0}
Ahead (e ∷ es) s = IsStep s (forth e s) e × Ahead es (forth e s)

-- the line of a state between the entries that lead to it and those that lead on,
-- the nearest last in both stacks
abbrev pub line_of : ℕ → List Entry → List Entry → State → Line
line_of most done undone s = record {
  before = reverse (walk back (reverse done) s);
  current = s;
  after = walk forth (reverse undone) s;
  bound = most;
}

-- the entries fit the state between them
pub record Fits (done undone : List Entry) (s : State) : Type 0 where
  pub behind : Behind (reverse done) s
  pub ahead : Ahead (reverse undone) s
  pub table : IsTable s.table

-- of this room, so many leave room for one more
abbrev pub HasSpare : ℕ → ℕ → Type 0
HasSpare room count = count + 1 ≤ room

-- the stacks fit the current state and the bound, and an open line has room for one more in both
pub record IsKept (most : ℕ) (done undone : List Entry) (s : State) (is_open : Bool)
    (done_most undone_most : ℕ) : Type 0 where
  pub fits : Fits done undone s
  pub bound : IsBound most
  pub few : length done + length undone + 1 ≤ most
  pub done_room : is_open ≡ true → HasSpare done_most (length done)
  pub undone_room : is_open ≡ true → HasSpare undone_most (length undone)

-- of stacks with one entry too many the farthest that leads here goes
-- or, if it is alone, that ahead
abbrev pub IsFit : ℕ → List Entry → List Entry → List Entry → List Entry → Type 0
IsFit most done undone new_done new_undone =
    ((length done + length undone < most) × (new_done ≡ done) × (new_undone ≡ undone))
    ⊎ ((most ≤ length done + length undone) × (2 ≤ length done) × (new_undone ≡ undone)
    × ((gone : Entry) × (done ≡ gone ∷ new_done)))
    ⊎ ((most ≤ length done + length undone) × (length done < 2) × (new_done ≡ done)
    × ((gone : Entry) × (undone ≡ gone ∷ new_undone)))

-- an empty list with room for this many
pub record HasRoom (bound : ℕ) (ids : Vec ℕ) : Type 0 where
  pub empty : vec_len ids ≡ 0
  pub capacity : bound ≤ vec_capacity ids

-- both lists of an entry are empty, with room for this many
pub record AreRooms (bound : ℕ) (room : Room) : Type 0 where
  pub raised : HasRoom bound room.raised
  pub lowered : HasRoom bound room.lowered

-- how many ids there is room for in the entry between the current state and where a move ends
abbrev pub near_room : Aim → ℕ → ℕ
near_room Change bound = bound
near_room Edit bound = 0
near_room Undo bound = bound
near_room Redo bound = bound

-- how many there is room for in the entry between there and where an undo or a redo aims
abbrev pub far_room : Aim → ℕ → ℕ
far_room Change bound = 0
far_room Edit bound = 0
far_room Undo bound = bound
far_room Redo bound = bound

-- an entry with the states that it stands between, at a place of the line
abbrev pub IsStepAt : Line → ℕ → Entry → Type 0
IsStepAt line place entry = (a : State) × (b : State) × (slice_get (states line) place ≡ Some a)
    × (slice_get (states line) (suc place) ≡ Some b) × IsStep a b entry

-- at this place an edit leads the name to this value
abbrev pub IsLedAt : Bool → List Alteration → ℕ → List ℕ → Option (List Bool) → Type 0
IsLedAt ahead edit place name value =
    (a : Alteration) × (slice_get edit place ≡ Some a) × (a.name ≡ name) × (towards ahead a ≡ value)

-- an edit leads from the values of one table to another table, which has the one value of each
-- alteration, and the same value for every other name
pub record LeadsTo (ahead : Bool) (edit : List Alteration) (from to : Bundles) : Type 0 where
  pub is_table : IsTable to
  pub named : (a : Alteration) → Contains edit a → value_of to a.name ≡ towards ahead a
  pub others : (name : List ℕ) → ((a : Alteration) → Contains edit a → a.name ≢ name) →
      value_of from name ≡ value_of to name

-- on the way there, names are taken from this place on: the first table has no name
-- that the other lacks but those
pub record TakesFrom (ahead : Bool) (edit : List Alteration) (place : ℕ)
    (from to : Bundles) : Type 0 where
  pub leads : LeadsTo ahead edit from to
  pub within : (name : List ℕ) → ((a : Alteration) → Contains (drop place edit) a → a.name ≢ name) →
      value_of to name ≡ None → value_of from name ≡ None

-- then sets are put from this place on: the first table has no name that the other lacks, and the
-- other's sets but for the names from there on
pub record PutsFrom (ahead : Bool) (edit : List Alteration) (place : ℕ)
    (from to : Bundles) : Type 0 where
  pub leads : LeadsTo ahead edit from to
  pub within : (name : List ℕ) → value_of to name ≡ None → value_of from name ≡ None
  pub done : (name : List ℕ) → ((a : Alteration) → Contains (drop place edit) a → a.name ≢ name) →
      value_of from name ≡ value_of to name

-- a state by its two parts
abbrev pub state : List Bool → Bundles → State
state live table = record { live = live; table = table }

-- from one state to another these ids come up and those go down, and the edit leads there
pub record Turns (ahead : Bool) (up down : List ℕ) (edit : List Alteration)
    (from to : State) : Type 0 where
  pub bound : length to.live ≡ length from.live
  pub rises : Lists (IsGained from.live to.live) up
  pub falls : Lists (IsGained to.live from.live) down
  pub is_table : IsTable from.table
  pub leads : LeadsTo ahead edit from.table to.table

-- the aim of a move to a neighbour, ahead or back
abbrev pub aim_of : Bool → Aim
aim_of true = Redo
aim_of false = Undo

-- an entry leads from one set of live services to another
pub record LeadsLive (from to : List Bool) (e : Entry) : Type 0 where
  pub raised : Lists (IsGained from to) e.raised
  pub lowered : Lists (IsGained to from) e.lowered

-- passed ahead or back, it does
abbrev pub PassesLive : Bool → List Bool → List Bool → Entry → Type 0
PassesLive true from to e = LeadsLive from to e
PassesLive false from to e = LeadsLive to from e

-- the entry from here to a target is split where these services are live: the near
-- part lies between here and there, and the far one has the edit
pub record Splits (ahead : Bool) (here target live : List Bool) (edit : List Alteration)
    (near far : Entry) : Type 0 where
  pub near_live : PassesLive ahead here live near
  pub near_edit : near.edit ≡ []
  pub far_live : PassesLive ahead live target far
  pub far_edit : far.edit ≡ edit

-- how a move over an entry ends, which lay on the rest of its stack, if these services are
-- live then: as it aimed, where it began, or anywhere else
abbrev pub EndsStep : Bool → List Entry → Entry → List Entry → State → State → List Bool →
    List Entry → List Entry → State → Type 0
EndsStep ahead rest e to here target live new_from new_to new =
    ((target.live ≡ live) × (new_from ≡ rest) × (new_to ≡ to ++ e ∷ []) × (new ≡ target))
    ⊎ ((target.live ≢ live) × (here.live ≡ live) × (new_from ≡ rest ++ e ∷ []) × (new_to ≡ to)
    × (new ≡ here))
    ⊎ ((near : Entry) × (far : Entry) × (target.live ≢ live) × (here.live ≢ live)
    × (new_from ≡ rest ++ far ∷ []) × (new_to ≡ to ++ near ∷ []) × (new ≡ state live here.table)
    × Splits ahead here.live target.live live e.edit near far)

-- the same of the nearest entry of a stack
abbrev pub EndsNearest : Bool → List Entry → List Entry → State → State → List Bool →
    List Entry → List Entry → State → Type 0
EndsNearest ahead from to here target live new_from new_to new =
    (rest : List Entry) × (e : Entry) × (from ≡ rest ++ e ∷ [])
    × EndsStep ahead rest e to here target live new_from new_to new

-- What holds all along of commands that are played.
use Rattle.std.specs.Prelude.{◌≡◌, ◌≢◌, ◌≤◌, ◌<◌, ◌+◌, ◌-◌, ◌⊎◌, ℕ, false, List, [], ◌∷◌, ◌++◌}
use Rattle.std.specs.Prelude.{length, take, drop, All, Option, Some, slice_get, Result, Ok, Err}
use Rattle.rc_model.specs.Names.{Has, Holds}
use Rattle.rc_model.specs.Database.{Database, IsDatabase}
use Rattle.rc_model.specs.Plan.{PlanSets, Ask, TargetOfAsk}
use Rattle.rc_model.specs.Line.{Alteration, IsEdit, State, Entry, IsEntry, entry_back, Line, IsNext}
use Rattle.rc_model.specs.Line.{IsEntryBefore, IsEntryAfter, states, cursor, put_last}
use Rattle.rc_model.specs.declared.Event.{Event}
use Rattle.rc_model.specs.Run.{course_of, IsStrictlyClosed}
use Rattle.rc_model.specs.declared.Refusal.{Refusal}
use Rattle.rc_model.specs.Session.{Command, Change, Undo, Redo, events_of, Reported, IsTask}
use Rattle.rc_model.specs.Session.{EndsWith, DoesByEdit, Does, IsLineOf, Answers, Plays, Add}
use Rattle.rc_model.specs.Session.{Delete}

-- a command that a run carries out: a change, an undo or a redo
abbrev pub HasRun : Command → Type 0
HasRun (Add name contents force) = ⊥
HasRun (Delete words force) = ⊥
HasRun other = Unit {0}

-- what is to be live after a run that goes well, and an edit has none: of a change the target of
-- what it asks, of an undo or redo what is live in the state that it goes to
abbrev pub TargetOfCommand : Database → Line → Command → ℕ → Type 0
TargetOfCommand d line (Change ask events) s =
    TargetOfAsk d line.current.table line.current.live ask s
TargetOfCommand d line (Undo limit events) s =
    (back : Line) × IsNext back line × Has back.current.live s
TargetOfCommand d line (Redo limit events) s =
    (on : Line) × IsNext line on × Has on.current.live s
TargetOfCommand d line other s = ⊥

-- a command ran in dependency order: the events that it was given are a settled run of its
-- task, which is how `DoesByRun` begins; and it is promised that after each of them each service
-- that is not down has all that it needs up, that the new state has what is live in the end, and
-- that where all went well this is the target of the command
pub record RanInOrder (d : Database) (line : Line) (command : Command) (report : Reported)
    (new : Line) : Type 0 where
  pub plan : PlanSets
  pub deadline : Option ℕ
  pub task : IsTask d line command 0 plan deadline
  pub given : report.trace ≡ events_of command
  pub ends : EndsWith (course_of d.needs plan deadline) report.trace new.current.live
  pub strict : (k : ℕ) → IsStrictlyClosed (course_of d.needs plan deadline) (take k report.trace)
  pub arrives : report.failed ≡ [] → report.stopped ≡ false →
      Holds new.current.live (TargetOfCommand d line command)

-- each change, undo and redo that is done runs in dependency order
abbrev pub RunsAreOrderly : Database → Line → Type 0
RunsAreOrderly d line =
    (command : Command) (report : Reported) (new : Line) → HasRun command →
    Does d line command report new → RanInOrder d line command report new

-- the entry names exactly what differs between the states before and after; where nothing
-- differs the line stays, else the entry is the last one of the line, with the cursor after it
pub record IsEntered (line new : Line) (entry : Entry) : Type 0 where
  pub exact : IsEntry line.current new.current entry
  pub entered : (new ≡ line) ⊎ ((new.current ≢ line.current) × (new.after ≡ [])
      × IsEntryBefore new entry)

-- each change enters exactly what it is reported to have altered, and no bundle
abbrev pub ChangesAreEntered : Database → Line → Type 0
ChangesAreEntered d line =
    (ask : Ask) (events : List Event) (report : Reported) (new : Line) →
    Does d line (Change ask events) report new →
    IsEntered line new (record { raised = report.raised; lowered = report.lowered; edit = [] })

-- the entry of an edit names exactly the bundles that it altered, and no service
abbrev pub EntersEdit : Line → Line → Type 0
EntersEdit line new = (edit : List Alteration) × IsEdit line.current.table new.current.table edit
    × IsEntered line new (record { raised = []; lowered = []; edit = edit })

-- each edit enters exactly the bundles that it altered
abbrev pub EditsAreEntered : Database → Line → Type 0
EditsAreEntered d line = (command : Command) (report : Reported) (new : Line) →
    DoesByEdit d line command report new → EntersEdit line new

-- the second line is the first without one state, the one that `shorter` drops: the oldest or,
-- where that stands beside the current one, the last; the current one is not the oldest itself,
-- since each state that a command adds stands after another
abbrev pub LosesOne : Line → Line → Type 0
LosesOne more line = (gone : State)
    × (((more ≡ record line { before = gone ∷ line.before }) × (1 ≤ cursor line))
    ⊎ ((more ≡ record line { after = line.after ++ gone ∷ [] }) × (cursor line ≡ 1)))

-- the second line is the first or, where that has more states than it may have, all but one of them
abbrev pub Keeps : Line → Line → Type 0
Keeps more line = (line ≡ more) ⊎ ((line.bound < length (states more)) × LosesOne more line)

-- the line with this state more, at the place where the command adds one, and the cursor on it
abbrev pub with_one_more : Line → Command → State → Line
-- an undo puts it in front of the current one
with_one_more line (Undo limit events) state =
    record line { current = state; after = line.current ∷ line.after }
-- a redo puts it after
with_one_more line (Redo limit events) state =
    record line { before = line.before ++ line.current ∷ []; current = state }
-- a change or an edit puts it after, in the place of what came after
with_one_more line other state = put_last line state

-- an undo
abbrev pub IsUndo : Command → Type 0
IsUndo (Undo limit events) = Unit {0}
IsUndo other = ⊥

-- a redo
abbrev pub IsRedo : Command → Type 0
IsRedo (Redo limit events) = Unit {0}
IsRedo other = ⊥

-- what a command leaves of the history of a line
pub record KeepsHistory (line : Line) (command : Command) (new : Line) : Type 0 where
  -- the line may have as many states as before
  pub bound : new.bound ≡ line.bound
  -- it stays, or an undo puts its cursor one back, or a redo one on, or it gets the new state, with
  -- the cursor on it; only the bound drops any, but a change or an edit first drops what could be
  -- redone
  pub history : (new ≡ line) ⊎ (IsUndo command × IsNext new line)
      ⊎ (IsRedo command × IsNext line new) ⊎ Keeps (with_one_more line command new.current) new

-- whatever is done, failed or not, keeps history
abbrev pub HistoryIsKept : Database → Line → Type 0
HistoryIsKept d line = (command : Command) (report : Reported) (new : Line) →
    Does d line command report new → KeepsHistory line command new

-- a command was not refused, nothing failed in it, so nothing was blocked, and it was not stopped
abbrev pub WentWell : Result Reported Refusal → Type 0
WentWell (Ok report) = (report.failed ≡ []) × (report.stopped ≡ false)
WentWell (Err refusal) = ⊥

-- only the cursor has moved, to this place, and the current
-- state is the one that stands there, live set and bundles
pub record HasMovedTo (line new : Line) (place : ℕ) : Type 0 where
  pub bound : new.bound ≡ line.bound
  pub same : states new ≡ states line
  pub there : cursor new ≡ place
  pub restored : slice_get (states line) place ≡ Some new.current

-- undos in a row that all go well restore the state that is so many back
abbrev pub UndosRestore : Database → Line → Type 0
UndosRestore d line =
    (undos : List Command) (answers : List (Result Reported Refusal)) (new : Line) →
    All IsUndo undos → All WentWell answers → Plays d line undos answers new →
    (length undos ≤ cursor line) × HasMovedTo line new (cursor line - length undos)

-- redos in a row that all go well restore the state that is so many on
abbrev pub RedosRestore : Database → Line → Type 0
RedosRestore d line =
    (redos : List Command) (answers : List (Result Reported Refusal)) (new : Line) →
    All IsRedo redos → All WentWell answers → Plays d line redos answers new →
    HasMovedTo line new (cursor line + length redos)

-- what an undo leaves that did not come to the state before
pub record Leaves (back line new : Line) : Type 0 where
  -- the bundles are still as they were
  pub bundles : new.current.table ≡ line.current.table
  -- the entry before the cursor is exactly the inverse of what the undo has still to do
  pub remains : (entry : Entry) × IsEntryBefore new entry
      × IsEntry new.current back.current (entry_back entry)
  -- nothing was undone and the line stays, or the entry after
  -- the cursor is exactly the inverse of what the undo did
  pub undone : (new ≡ line) ⊎ ((new.current ≢ line.current)
      × ((entry : Entry) × IsEntryAfter new entry × IsEntry new.current line.current entry))

-- each undo comes to the state before, or leaves exactly the inverse of what remains
abbrev pub UndosLeaveWhatRemains : Database → Line → Type 0
UndosLeaveWhatRemains d line =
    (back new : Line) (limit : ℕ) (events : List Event) (report : Reported) → IsNext back line →
    Does d line (Undo limit events) report new → (new ≡ back) ⊎ Leaves back line new

-- what a redo leaves that did not come to the state after
pub record LeavesAhead (on line new : Line) : Type 0 where
  -- the bundles are still as they were
  pub bundles : new.current.table ≡ line.current.table
  -- the entry after the cursor is exactly what remains to be redone
  pub remains : (entry : Entry) × IsEntryAfter new entry × IsEntry new.current on.current entry
  -- nothing was redone and the line stays, or what
  -- was redone is exactly the entry before the cursor
  pub redone : (new ≡ line) ⊎ ((new.current ≢ line.current)
      × ((entry : Entry) × IsEntryBefore new entry × IsEntry line.current new.current entry))

-- each redo comes to the state after, or leaves exactly what remains
abbrev pub RedosLeaveWhatRemains : Database → Line → Type 0
RedosLeaveWhatRemains d line =
    (on new : Line) (limit : ℕ) (events : List Event) (report : Reported) → IsNext line on →
    Does d line (Redo limit events) report new → (new ≡ on) ⊎ LeavesAhead on line new

-- a line has as many states as it may
abbrev pub IsFull : Line → Type 0
IsFull line = length (states line) ≡ line.bound

-- `rest` is what is left of the states `all` before some state, after a command that led from
-- `line` to `there`: all or, where `line` was full and `there` is another (a state was put
-- between), all but the oldest
abbrev pub AreLeftBefore : Line → Line → List State → List State → Type 0
AreLeftBefore line there all rest = (rest ≡ all)
    ⊎ ((there ≢ line) × IsFull line × ((oldest : State) × (all ≡ oldest ∷ rest)))

-- `rest` is what is left of the states `all` after some state, after a command that led from
-- `line` to `there`: all or, where `line` was full and `there` is another, all but the last
abbrev pub AreLeftAfter : Line → Line → List State → List State → Type 0
AreLeftAfter line there all rest = (rest ≡ all)
    ⊎ ((there ≢ line) × IsFull line × ((last : State) × (all ≡ rest ++ last ∷ [])))

-- where an undo did not come to the state before, and the very next command is an undo that goes
-- well, it ends on that state, with all before it or, where a full line altered, all but the oldest
abbrev pub UndosGoOn : Database → Line → Type 0
UndosGoOn d line =
    (back there new : Line) (first next : Command) (report : Reported)
    (answer : Result Reported Refusal) →
    IsUndo first → IsUndo next → WentWell answer → IsNext back line →
    Does d line first report there → there ≢ back → Answers d there next answer new →
    (new.current ≡ back.current) × AreLeftBefore line there back.before new.before

-- where a redo did not come to the state after, and the very next command is a redo that goes
-- well, it ends on that state, with all after it or, where a full line altered, all but the last
abbrev pub RedosGoOn : Database → Line → Type 0
RedosGoOn d line =
    (on there new : Line) (first next : Command) (report : Reported)
    (answer : Result Reported Refusal) →
    IsRedo first → IsRedo next → WentWell answer → IsNext line on →
    Does d line first report there → there ≢ on → Answers d there next answer new →
    (new.current ≡ on.current) × AreLeftAfter line there on.after new.after

-- all of this holds of all commands that may come where the line stands
pub record IsPromised (d : Database) (line : Line) : Type 0 where
  pub orderly : RunsAreOrderly d line
  pub changes : ChangesAreEntered d line
  pub edits : EditsAreEntered d line
  pub history : HistoryIsKept d line
  pub undos : UndosRestore d line
  pub redos : RedosRestore d line
  pub remains : UndosLeaveWhatRemains d line
  pub remains_ahead : RedosLeaveWhatRemains d line
  pub undos_go_on : UndosGoOn d line
  pub redos_go_on : RedosGoOn d line

-- at each place of a list of commands that is played: the first ones lead to a line of the
-- database, in each state of which all that is up has all that it needs up; the others go on from
-- there, and there all of this holds
abbrev pub IsPromisedAllAlong : Database → Line → List Command → List (Result Reported Refusal) →
    Line → Type 0
IsPromisedAllAlong d line commands answers new =
    (k : ℕ) → (here : Line) × IsLineOf d here × Plays d line (take k commands) (take k answers) here
    × Plays d here (drop k commands) (drop k answers) new × IsPromised d here

-- the headline: for every database and every line of it, commands are played, each with whatever
-- events: after each number of them, none included, all of this is promised of what comes next;
-- it is of the model alone, and the contract of `Session::play` (`rc_session`) says it of the code
abbrev pub Headline : Type 0
Headline = (d : Database) (line new : Line) (commands : List Command)
    (answers : List (Result Reported Refusal)) →
    IsDatabase d → IsLineOf d line → Plays d line commands answers new →
    IsPromisedAllAlong d line commands answers new

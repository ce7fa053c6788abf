-- A script: commands, each with its events, line by line.
use Rattle.std.specs.Prelude.{◌≡◌, ◌==◌, ◌⊎◌, ◌+◌, ℕ, List, [], ◌∷◌, ◌++◌, All, Option, None, Some}
use Rattle.std.specs.Prelude.{length, option_map}
use Rattle.std.specs.List.{slice_split}
use Rattle.std.specs.Str.{IsUtf8}
use Rattle.rc_model.specs.declared.Event.{Event}
use Rattle.rc_model.specs.Session.{Command, Change, Undo, Redo, Add, Delete}
use Rattle.rc_script.specs.Words.{words_in}
use Rattle.rc_script.specs.Says.{Saying, SaysNothing, SaysWrong, SaysStep, Says}
use Rattle.rc_script.specs.Events.{event_in}
use Rattle.rc_script.specs.declared.script.ScriptFault.{ScriptFault}
use Rattle.rc_script.specs.declared.script.ScriptFault.TheVariants.{BadLine, Memory}

-- what a line of a script is: nothing, a command, an event, or of another form
pub data Item : Type 0 where
  Skipped : Item
  Starts : (command : Command) → Item
  Happens : (event : Event) → Item
  OtherForm : Item

abbrev pub event_item : Option Event → Item
event_item None = OtherForm
event_item (Some event) = Happens event

-- what a line is that says this as a session line; one that has no form there may be an event line
abbrev pub IsItemSaying : List (List ℕ) → List ℕ → Saying → Item → Type 0
IsItemSaying names line SaysNothing item = item ≡ Skipped
IsItemSaying names line (SaysStep command) item = item ≡ Starts command
IsItemSaying names line SaysWrong item =
    (All IsUtf8 (words_in line) × (item ≡ event_item (event_in names (words_in line))))
    ⊎ ((All IsUtf8 (words_in line) → ⊥) × (item ≡ OtherForm))
IsItemSaying names line other item = item ≡ OtherForm

-- what a line of a script is
abbrev pub IsItem : List (List ℕ) → List ℕ → Item → Type 0
IsItem names line item = (saying : Saying) × Says line saying × IsItemSaying names line saying item

-- a command with one event more; an edit takes none
abbrev pub taking : Command → Event → Option Command
taking (Change ask events) event = Some (Change ask (events ++ event ∷ []))
taking (Undo limit events) event = Some (Undo limit (events ++ event ∷ []))
taking (Redo limit events) event = Some (Redo limit (events ++ event ∷ []))
taking (Add name contents force) event = None
taking (Delete words force) event = None

-- the last of commands takes an event
abbrev pub with_event : List Command → Event → Option (List Command)
with_event [] event = None
with_event (command ∷ []) event = option_map (λ c. c ∷ []) (taking command event)
with_event (command ∷ next ∷ commands) event =
    option_map (λ cs. command ∷ cs) (with_event (next ∷ commands) event)

-- the commands so far and one line more, where it may stand there
abbrev pub with_item : List Command → Item → Option (List Command)
with_item commands Skipped = Some commands
with_item commands (Starts command) = Some (commands ++ command ∷ [])
with_item commands (Happens event) = with_event commands event
with_item commands OtherForm = None

-- a line makes the old commands the new ones
abbrev pub AddsLine : List (List ℕ) → List ℕ → (old new : List Command) → Type 0
AddsLine names line old new =
    (item : Item) × IsItem names line item × (with_item old item ≡ Some new)

-- a line may not stand after the commands
abbrev pub CannotAdd : List (List ℕ) → List ℕ → List Command → Type 0
CannotAdd names line old = (item : Item) × IsItem names line item × (with_item old item ≡ None)

-- these lines after the old commands make them the new ones
abbrev pub Reads : List (List ℕ) → List (List ℕ) → (old new : List Command) → Type 0
Reads names [] old new = new ≡ old
Reads names (line ∷ lines) old new =
    (next : List Command) × AddsLine names line old next × Reads names lines next new

-- the lines of a text; the last may lack its newline
abbrev pub lines_in : List ℕ → List (List ℕ)
lines_in text = slice_split (λ byte. byte == 10) text

-- the commands of a script
abbrev pub IsScript : List (List ℕ) → List ℕ → List Command → Type 0
IsScript names text commands = Reads names (lines_in text) [] commands

-- the first line that may not stand where it does, counted from 1
pub record IsBadLine (names : List (List ℕ)) (text : List ℕ) (number : ℕ) : Type 0 where
  pub before : List (List ℕ)
  pub line : List ℕ
  pub after : List (List ℕ)
  pub commands : List Command
  pub item : Item
  pub lines : lines_in text ≡ before ++ line ∷ after
  pub reads : Reads names before [] commands
  pub is : IsItem names line item
  pub bad : with_item commands item ≡ None
  pub counted : number ≡ length before + 1

-- when each fault comes
abbrev pub IsScriptFault : List (List ℕ) → List ℕ → ScriptFault → Type 0
IsScriptFault names text (BadLine number) = IsBadLine names text number
IsScriptFault names text Memory = Unit {0}

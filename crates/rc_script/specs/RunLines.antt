-- The lines of a run log: a step, and the events of its run.
use Rattle.std.specs.Prelude.{◌≡◌, ◌++◌, ◌∷◌, [], ℕ, List, Bool, true, false, Contains, codes}
use Rattle.rc_model.specs.declared.Event.{Event}
use Rattle.rc_model.specs.Session.{Command, Change, Undo, Redo, Add, Delete}
use Rattle.rc_script.specs.Says.{Says, SaysStep}
use Rattle.rc_script.specs.Script.{Happens, IsItem}

-- the command with the least limit that there is, and without events; an edit has neither
abbrev pub least_limited : Command → Command
least_limited (Change ask events) = Change (record ask { limit = 1 }) []
least_limited (Undo limit events) = Undo 1 []
least_limited (Redo limit events) = Redo 1 []
least_limited (Add name contents force) = Add name contents force
least_limited (Delete words force) = Delete words force

-- a text is this line, and a newline at its end alone
abbrev pub IsLine : (text line : List ℕ) → Type 0
IsLine text line = (text ≡ line ++ 10 ∷ []) × (Contains line 10 → ⊥)

-- a text is a line that says a command under the least limit
abbrev pub IsStepLine : Command → List ℕ → Type 0
IsStepLine command text =
    (line : List ℕ) × IsLine text line × Says line (SaysStep (least_limited command))

-- the comment line that marks the log of a command whose states are passed until it is done
abbrev pub step_mark : List ℕ
step_mark = codes "# step" ++ 10 ∷ []

-- what stands behind the line of a step: this mark, or nothing
abbrev pub mark_of : (marked : Bool) → List ℕ
mark_of true = step_mark
mark_of false = []

-- a text is the line of a command, and its mark if it has one
abbrev pub IsHead : Command → (marked : Bool) → List ℕ → Type 0
IsHead command marked text =
    (step : List ℕ) × IsStepLine command step × (text ≡ step ++ mark_of marked)

-- a text is a line that tells of an event, of the services of these names
abbrev pub IsEventLine : List (List ℕ) → Event → List ℕ → Type 0
IsEventLine names event text =
    (line : List ℕ) × IsLine text line × IsItem names line (Happens event)

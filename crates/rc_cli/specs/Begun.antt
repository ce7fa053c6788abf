-- What the head of a run log says of its command: that it is a step of several, or an undo or a
-- redo.
use Rattle.std.specs.Prelude.{◌≡◌, ◌⊎◌, ◌++◌, ◌∷◌, ℕ, List, [], Contains}
use Rattle.rc_model.specs.Session.{Command, Redo, Undo}
use Rattle.rc_script.specs.RunLines.{IsStepLine, step_mark}

-- bytes begin with the line of this command
abbrev pub BeginsWith : Command → List ℕ → Type 0
BeginsWith command bytes =
    (step : List ℕ) × (rest : List ℕ) × (bytes ≡ step ++ rest) × IsStepLine command step

-- with that of an undo or a redo
abbrev pub SaysWay : List ℕ → Type 0
SaysWay bytes = BeginsWith (Undo 1 []) bytes ⊎ BeginsWith (Redo 1 []) bytes

-- the mark of a step stands behind their first line
abbrev pub SaysMarked : List ℕ → Type 0
SaysMarked bytes = (line : List ℕ) × (rest : List ℕ)
    × (bytes ≡ line ++ 10 ∷ (step_mark ++ rest)) × (Contains line 10 → ⊥)

-- a log has the text of the session in front, and then the line of an undo or a redo
abbrev pub LogsWay : (file log : List ℕ) → Type 0
LogsWay file log = (rest : List ℕ) × (log ≡ file ++ rest) × SaysWay rest

-- a log has the text of the session in front, and then a line that is marked as a step
abbrev pub LogsStep : (file log : List ℕ) → Type 0
LogsStep file log = (rest : List ℕ) × (log ≡ file ++ rest) × SaysMarked rest

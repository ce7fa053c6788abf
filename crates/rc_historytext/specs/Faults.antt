-- When bytes are refused that are to be the text of a history.
use Rattle.std.specs.Prelude.{◌≡◌, ◌≢◌, ◌+◌, ◌⊎◌, ℕ, List, [], ◌++◌, length, codes}
use Rattle.rc_dbtext.specs.Words.{HasNumber}
use Rattle.rc_dbtext.specs.Form.{IsStuck}
use Rattle.rc_historytext.specs.declared.fault.HistoryFault.{HistoryFault}
use Rattle.rc_historytext.specs.declared.fault.HistoryFault.TheVariants.{Bad, Version, Memory}
use Rattle.rc_historytext.specs.Text.{Line, HistoryText, IsHistoryText, history_lines, history_text}
use Rattle.rc_historytext.specs.Text.{spell}

-- the first line stands here with another number
abbrev pub HasOtherVersion : List ℕ → Type 0
HasOtherVersion bytes = HasNumber (codes "undorc-history") (λ number. number ≢ codes "1") bytes

-- reading is stuck here: the lines before stand in the text of a history, and in none that has
-- these lines does one more of its lines stand here
abbrev pub IsStuckAt : List ℕ → List ℕ → Line → Type 0
IsStuckAt bytes rest due = IsStuck spell IsHistoryText history_lines bytes rest due

-- a line has not the form that is due, and begins at this offset
abbrev pub IsBadAt : List ℕ → ℕ → Type 0
IsBadAt bytes offset =
    (rest : List ℕ) × (due : Line)
    × IsStuckAt bytes rest due × (offset + length rest ≡ length bytes)

-- after a text stand more bytes, from this offset on
abbrev pub HasMoreAt : List ℕ → ℕ → Type 0
HasMoreAt bytes offset =
    (t : HistoryText) × (rest : List ℕ) × IsHistoryText t × (bytes ≡ history_text t ++ rest)
    × (rest ≢ []) × (offset ≡ length (history_text t))

-- when bytes are refused: first for another version, then for the first line that is bad, bytes
-- after the text among that; out of memory may come at any place
abbrev pub IsHistoryFault : List ℕ → HistoryFault → Type 0
IsHistoryFault bytes Version = HasOtherVersion bytes
IsHistoryFault bytes (Bad offset) =
    (HasOtherVersion bytes → ⊥) × (IsBadAt bytes offset ⊎ HasMoreAt bytes offset)
IsHistoryFault bytes Memory = Unit {0}

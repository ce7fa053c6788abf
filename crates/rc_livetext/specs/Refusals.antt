-- When the form of a session's text is refused, and where reading is stuck.
use Rattle.std.specs.Prelude.{◌≡◌, ◌≢◌, ℕ, List, length, codes}
use Rattle.rc_livetext.specs.declared.form_fault.FormFault.{FormFault}
use Rattle.rc_livetext.specs.declared.form_fault.FormFault.TheVariants.{Bad, Version, Memory}
use Rattle.rc_dbtext.specs.Words.{HasNumber}
use Rattle.rc_dbtext.specs.Form.{IsRead, IsStuck}
use Rattle.rc_livetext.specs.Text.{Line, First, IsLiveText, LiveText, live_lines, spell}

-- the number of no form that is read
abbrev pub IsOtherVersion : List ℕ → Type 0
IsOtherVersion number = (number ≢ codes "1") × (number ≢ codes "2")

-- the first line is due, and stands here with another number
abbrev pub HasOtherVersion : Line → List ℕ → Type 0
HasOtherVersion (First bounded) rest = HasNumber (codes "undorc-live") IsOtherVersion rest
HasOtherVersion other rest = ⊥

-- reading is stuck here: the lines before stand in a live text, and in none that has these lines
-- does one more of its lines stand here
abbrev pub IsStuckAt : List ℕ → List ℕ → Line → Type 0
IsStuckAt bytes rest due = IsStuck spell IsLiveText live_lines bytes rest due

-- when the prefix of bytes is refused for its form; a bad line is told by how many bytes are left
-- there, and out of memory may come at any place
abbrev pub IsRefused : List ℕ → FormFault → Type 0
IsRefused bytes (Bad left) =
    (rest : List ℕ) × (due : Line)
    × IsStuckAt bytes rest due × (left ≡ length rest) × (HasOtherVersion due rest → ⊥)
IsRefused bytes Version =
    (rest : List ℕ) × (due : Line) × IsStuckAt bytes rest due × HasOtherVersion due rest
IsRefused bytes Memory = Unit {0}

-- a live text stands in front of the rest
abbrev pub BeginsWith : List ℕ → LiveText → List ℕ → Type 0
BeginsWith bytes t rest = IsRead spell IsLiveText live_lines bytes t rest

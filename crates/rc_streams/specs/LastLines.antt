-- The last lines of a text.
use Rattle.std.specs.Prelude.{◌+◌, ◌-◌, ◌==◌, ◌∷◌, [], ℕ, List, Bool, true, zero, suc}
use Rattle.std.specs.Prelude.{if◌then◌else◌}

-- a byte with these bytes behind it ends a line: it is a newline, or the last byte
abbrev pub ends_line : ℕ → List ℕ → Bool
ends_line byte [] = true
ends_line byte (next ∷ rest) = byte == 10

-- how many lines there are, of which the last may lack its newline
abbrev pub line_count : List ℕ → ℕ
line_count [] = 0
line_count (byte ∷ rest) = (if ends_line byte rest then 1 else 0) + line_count rest

-- what is behind so many lines
abbrev pub behind_lines : ℕ → List ℕ → List ℕ
behind_lines zero bytes = bytes
behind_lines (suc count) [] = []
behind_lines (suc count) (byte ∷ rest) =
    behind_lines (if byte == 10 then count else suc count) rest

-- the last lines, at most so many
abbrev pub last_lines : List ℕ → ℕ → List ℕ
last_lines bytes count = behind_lines (line_count bytes - count) bytes

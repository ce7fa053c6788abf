-- Since when services are where they are, by the log of the commands of a session.
use Rattle.std.specs.Prelude.{◌==◌, ◌&&◌, ◌∷◌, ◌++◌, ℕ, Bool, List, [], true}
use Rattle.std.specs.Prelude.{false, codes, if◌then◌else◌}
use Rattle.std.specs.List.{slice_split}
use Rattle.std.specs.Str.{bytes_eq}
use Rattle.rc_script.specs.Words.{words_in}
use Rattle.rc_cli.specs.declared.since.Mark.{Mark as Marked}

-- what a log has said of a service so far: the time of its last command; and the sign of the last
-- move of the service, 43 for up and 45 for down, or 0 where it has said none, with its time
pub record Mark : Type 0 where
  pub time : List ℕ
  pub sign : ℕ
  pub since : List ℕ

-- what a value of the program says
abbrev pub mark_of : Marked → Mark
mark_of m = record { time = m.time.now; sign = m.sign; since = m.since.now }

-- before a log nothing is known
abbrev pub unknown : Mark
unknown = record { time = codes "-"; sign = 0; since = codes "-" }

-- a word is a sign and a name
abbrev pub is_signed : (word : List ℕ) → (sign : ℕ) → (name : List ℕ) → Bool
is_signed [] sign name = false
is_signed (byte ∷ rest) sign name = (byte == sign) && bytes_eq rest name

-- one of these words is a sign and a name
abbrev pub has_moved : (words : List (List ℕ)) → (sign : ℕ) → (name : List ℕ) → Bool
has_moved [] sign name = false
has_moved (word ∷ more) sign name =
    if is_signed word sign name then true else has_moved more sign name

-- a byte is a sign
abbrev pub is_sign : ℕ → Bool
is_sign byte = if byte == 43 then true else byte == 45

-- a word begins with a sign
abbrev pub begins_signed : List ℕ → Bool
begins_signed [] = false
begins_signed (byte ∷ rest) = is_sign byte

-- the line of these words says what a command has moved: its first word begins with a sign, where
-- that of a command is a number
abbrev pub says_moves : List (List ℕ) → Bool
says_moves [] = false
says_moves (word ∷ words) = begins_signed word

-- the time of a command, which is the second word of its line
abbrev pub time_in : List (List ℕ) → List ℕ
time_in (number ∷ time ∷ words) = time
time_in other = codes "-"

-- after a move
abbrev pub moved : Mark → (sign : ℕ) → Mark
moved mark sign = record { time = mark.time; sign = sign; since = mark.time }

-- after the line of a command
abbrev pub timed : Mark → (time : List ℕ) → Mark
timed mark time = record { time = time; sign = mark.sign; since = mark.since }

-- after a line of moves
abbrev pub after_moves : (name : List ℕ) → Mark → (words : List (List ℕ)) → Mark
after_moves name mark words = if has_moved words 43 name then moved mark 43
    else (if has_moved words 45 name then moved mark 45 else mark)

-- after a line of these words
abbrev pub after_line : (name : List ℕ) → Mark → (words : List (List ℕ)) → Mark
after_line name mark words =
    if says_moves words then after_moves name mark words else timed mark (time_in words)

-- after the lines of a log
abbrev pub after_lines : (name : List ℕ) → Mark → (lines : List (List ℕ)) → Mark
after_lines name mark [] = mark
after_lines name mark (line ∷ more) =
    after_lines name (after_line name mark (words_in line)) more

-- the sign of the move by which a service gets where this word says that it is, or 0
abbrev pub sign_for : List ℕ → ℕ
sign_for word = if bytes_eq word (codes "up") then 43
    else (if bytes_eq word (codes "down") then 45
    else (if bytes_eq word (codes "failed") then 45 else 0))

-- since when a service is where a word says: the time of its last move, if that leads there
abbrev pub since_for : (word : List ℕ) → Mark → List ℕ
since_for word mark = if mark.sign == sign_for word then mark.since else codes "-"

-- a line of a service with the time since when it is there
abbrev pub timed_line : (log : List (List ℕ)) → (line : List ℕ) → (words : List (List ℕ)) → List ℕ
timed_line log line (name ∷ word ∷ more) =
    line ++ 32 ∷ since_for word (after_lines name unknown log) ++ 10 ∷ []
timed_line log line other = []

-- such lines, behind those so far
abbrev pub timed_lines : (log : List (List ℕ)) → (before : List ℕ) → (lines : List (List ℕ))
    → List ℕ
timed_lines log before [] = before
timed_lines log before (line ∷ more) =
    timed_lines log (before ++ timed_line log line (words_in line)) more

-- a text of such lines, by the text of a log
abbrev pub timed_text : (log text : List ℕ) → List ℕ
timed_text log text = timed_lines (slice_split (λ byte. byte == 10) log) []
    (slice_split (λ byte. byte == 10) text)

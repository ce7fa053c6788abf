-- Which line is due where, for reading alone: that it is what the texts say is a lemma. No public
-- contract speaks of it.
use Rattle.std.specs.Prelude.{◌≡◌, ◌≤◌, ◌<◌, ℕ, zero, suc, Bool, true, false, List, [], ◌∷◌, ◌++◌}
use Rattle.std.specs.Prelude.{length}
use Rattle.rc_dbtext.specs.Form.{spells}
use Rattle.rc_historytext.specs.declared.lines.LineFault.{LineFault}
use Rattle.rc_historytext.specs.declared.lines.LineFault.TheVariants.{Missing, Memory}
use Rattle.rc_historytext.specs.Text.{Line, First, OfPlace, OfMarks, OfDatabase, OfSession}
use Rattle.rc_historytext.specs.Text.{RenameCount, OfRename, Last, IsRename, IsShort, spell}

-- where reading stands: which line is due; in a generation also whether it is the oldest, and how
-- many generations follow it; in its renames how many of them follow the one that is due
pub data Place : Type 0 where
  AtFirst : Place
  AtPlace : Place
  AtMarks : (oldest : Bool) → (more : ℕ) → Place
  AtDatabase : (oldest : Bool) → (more : ℕ) → Place
  AtSession : (oldest : Bool) → (more : ℕ) → Place
  AtCount : (oldest : Bool) → (more : ℕ) → Place
  AtRename : (left more : ℕ) → Place
  AtLast : Place
  AtEnd : Place

-- how many renames a generation may have
abbrev pub most_renames : Bool → ℕ
most_renames true = 0
most_renames false = 4096

-- the line is due here
abbrev pub IsDue : Place → Line → Type 0
IsDue AtFirst First = Unit {0}
IsDue AtPlace (OfPlace present count) = (present < count) × (count ≤ 8)
IsDue (AtMarks oldest more) (OfMarks first last) = Unit {0}
IsDue (AtDatabase oldest more) (OfDatabase text) = IsShort text
IsDue (AtSession oldest more) (OfSession text) = IsShort text
IsDue (AtCount oldest more) (RenameCount count) = count ≤ most_renames oldest
IsDue (AtRename left more) (OfRename rename) = IsRename rename
IsDue AtLast Last = Unit {0}
IsDue place line = ⊥

-- where reading stands before so many generations, none of them the oldest
abbrev pub before_generations : ℕ → Place
before_generations zero = AtLast
before_generations (suc more) = AtMarks false more

-- and before so many renames
abbrev pub before_renames : ℕ → ℕ → Place
before_renames zero more = before_generations more
before_renames (suc left) more = AtRename left more

-- where it stands before so many generations, the first of them the oldest
abbrev pub before_all : ℕ → Place
before_all zero = AtLast
before_all (suc more) = AtMarks true more

-- where reading stands after a line that is due
abbrev pub behind : Place → Line → Place
behind AtFirst line = AtPlace
behind AtPlace (OfPlace present count) = before_all count
behind AtPlace other = AtEnd
behind (AtMarks oldest more) line = AtDatabase oldest more
behind (AtDatabase oldest more) line = AtSession oldest more
behind (AtSession oldest more) line = AtCount oldest more
behind (AtCount oldest more) (RenameCount count) = before_renames count more
behind (AtCount oldest more) other = AtEnd
behind (AtRename left more) line = before_renames left more
behind AtLast line = AtEnd
behind AtEnd line = AtEnd

-- where reading stands after lines
abbrev pub place_after : Place → List Line → Place
place_after place [] = place
place_after place (l ∷ ls) = place_after (behind place l) ls

-- each of the lines is due where it stands
abbrev pub AreDue : Place → List Line → Type 0
AreDue place [] = Unit {0}
AreDue place (l ∷ ls) = IsDue place l × AreDue (behind place l) ls

-- no line that is due here stands here
abbrev pub NoneDue : Place → List ℕ → Type 0
NoneDue place bytes =
    (l : Line) (tail : List ℕ) → IsDue place l → bytes ≡ spell l ++ tail → ⊥

-- after lines that are due one is missing, where so many bytes are left
pub record StopsAt (place : Place) (bytes : List ℕ) (left : ℕ) : Type 0 where
  pub before : List Line
  pub due : Line
  pub rest : List ℕ
  pub are_due : AreDue place before
  pub is_due : IsDue (place_after place before) due
  pub front : bytes ≡ spells spell before ++ rest
  pub size : left ≡ length rest
  pub none : NoneDue (place_after place before) rest

-- reading stops so, unless memory ran out
abbrev pub Stops : Place → List ℕ → LineFault → Type 0
Stops place bytes (Missing left) = StopsAt place bytes left
Stops place bytes Memory = Unit {0}

-- The text of a history: what it gives, its lines and their bytes, and what may be spelled.
use Rattle.std.specs.Prelude.{◌≡◌, ◌≤◌, ◌<◌, ◌^◌, ℕ, Bool, true, false, codes, length, map, All}
use Rattle.std.specs.Prelude.{List, [], ◌∷◌, ◌++◌}
use Rattle.std.specs.List.{flat_map}
use Rattle.std.specs.Fmt.{decimal}
use Rattle.rc_model.specs.Names.{IsName}
use Rattle.rc_dbtext.specs.Words.{line_of_words}
use Rattle.rc_dbtext.specs.Form.{spells}

-- a service of this old name goes on under this new one
pub record RenameText : Type 0 where
  pub old : List ℕ
  pub new : List ℕ

-- a generation as the text gives it: whether an undo and a redo pass its first state and its last,
-- the bytes of its database and of the session on it, and the renames of the update that led to it
pub record GenerationText : Type 0 where
  pub first_passed : Bool
  pub last_passed : Bool
  pub database : List ℕ
  pub session : List ℕ
  pub renames : List RenameText

-- a history as its text gives it: the place of the present generation, from 0, and all
-- generations, the oldest first
pub record HistoryText : Type 0 where
  pub present : ℕ
  pub generations : List GenerationText

-- a line by what it says; the bytes of a database or of a session are of one line with the one that
-- says how many they are
pub data Line : Type 0 where
  First : Line
  OfPlace : (present count : ℕ) → Line
  OfMarks : (first last : Bool) → Line
  OfDatabase : (text : List ℕ) → Line
  OfSession : (text : List ℕ) → Line
  RenameCount : (count : ℕ) → Line
  OfRename : (rename : RenameText) → Line
  Last : Line

-- whether a state is passed
abbrev pub mark_word : Bool → List ℕ
mark_word true = codes "passed"
mark_word false = codes "stop"

-- the words of a line
abbrev pub words : Line → List (List ℕ)
words First = codes "undorc-history" ∷ codes "1" ∷ []
words (OfPlace present count) = codes "at" ∷ decimal present ∷ codes "of" ∷ decimal count ∷ []
words (OfMarks first last) = codes "generation" ∷ mark_word first ∷ mark_word last ∷ []
words (OfDatabase text) = codes "database" ∷ decimal (length text) ∷ []
words (OfSession text) = codes "session" ∷ decimal (length text) ∷ []
words (RenameCount count) = codes "renames" ∷ decimal count ∷ []
words (OfRename rename) = codes "rename" ∷ rename.old ∷ rename.new ∷ []
words Last = codes "end" ∷ []

-- the bytes that follow a line
abbrev pub text_behind : Line → List ℕ
text_behind (OfDatabase text) = text
text_behind (OfSession text) = text
text_behind other = []

-- the bytes of a line
abbrev pub spell : Line → List ℕ
spell line = line_of_words (words line) ++ text_behind line

-- the lines of a generation
abbrev pub generation_lines : GenerationText → List Line
generation_lines g =
    OfMarks g.first_passed g.last_passed ∷ OfDatabase g.database ∷ OfSession g.session
    ∷ RenameCount (length g.renames) ∷ map OfRename g.renames

-- the lines of a history
abbrev pub history_lines : HistoryText → List Line
history_lines t =
    First ∷ OfPlace t.present (length t.generations)
    ∷ (flat_map generation_lines t.generations ++ Last ∷ [])

-- the text of a history, all of it
abbrev pub history_text : HistoryText → List ℕ
history_text t = spells spell (history_lines t)

-- a rename is of names
pub record IsRename (r : RenameText) : Type 0 where
  pub old : IsName r.old
  pub new : IsName r.new

-- a text whose length is a number of 32 bits
abbrev pub IsShort : List ℕ → Type 0
IsShort text = length text < 2 ^ 32

-- a generation that may be spelled: no more renames than a database may have services
pub record IsGenerationText (g : GenerationText) : Type 0 where
  pub database : IsShort g.database
  pub session : IsShort g.session
  pub few : length g.renames ≤ 4096
  pub each : All IsRename g.renames

-- the renames of the oldest generation
abbrev pub oldest_renames : List GenerationText → List RenameText
oldest_renames [] = []
oldest_renames (g ∷ rest) = g.renames

-- what may be spelled: 1 to 8 generations, one of them the present one; no update led to the oldest
pub record IsHistoryText (t : HistoryText) : Type 0 where
  pub present : t.present < length t.generations
  pub few : length t.generations ≤ 8
  pub each : All IsGenerationText t.generations
  pub oldest : oldest_renames t.generations ≡ []

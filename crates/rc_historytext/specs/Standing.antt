-- What stands in front of bytes, a line or none, for reading alone. No public contract speaks of
-- it.
use Rattle.std.specs.Prelude.{◌≡◌, ℕ, List, [], ◌∷◌, ◌++◌, length, map}
use Rattle.std.specs.Prelude.{All}
use Rattle.std.specs.List.{flat_map}
use Rattle.std.specs.Fmt.{decimal}
use Rattle.rc_dbtext.specs.Words.{line_of_words}
use Rattle.rc_dbtext.specs.Form.{spells}
use Rattle.rc_historytext.specs.Text.{Line, OfRename, RenameText, GenerationText, IsRename, IsShort}
use Rattle.rc_historytext.specs.Text.{generation_lines, spell}

-- the line stands in front of the rest
abbrev pub Stands : List ℕ → Line → List ℕ → Type 0
Stands bytes line rest = bytes ≡ spell line ++ rest

-- a text after the line of a word that says how long it is
abbrev pub block : List ℕ → List ℕ → List ℕ
block word text = line_of_words (word ∷ decimal (length text) ∷ []) ++ text

-- no such text stands here
abbrev pub HasNoBlock : List ℕ → List ℕ → Type 0
HasNoBlock word bytes =
    (text tail : List ℕ) → IsShort text → bytes ≡ block word text ++ tail → ⊥

-- renames, so many
abbrev pub AreRenames : ℕ → List RenameText → Type 0
AreRenames count renames = (length renames ≡ count) × All IsRename renames

-- their lines stand in front of the rest
abbrev pub RenamesStand : List ℕ → List RenameText → List ℕ → Type 0
RenamesStand bytes renames rest = bytes ≡ spells spell (map OfRename renames) ++ rest

-- the lines of generations stand in front of the rest
abbrev pub GenerationsStand : List ℕ → List GenerationText → List ℕ → Type 0
GenerationsStand bytes generations rest =
    bytes ≡ spells spell (flat_map generation_lines generations) ++ rest

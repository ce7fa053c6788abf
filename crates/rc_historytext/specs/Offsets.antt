-- Where the texts of the present generation stand in the text of a history.
use Rattle.std.specs.Prelude.{ℕ, List, [], ◌∷◌, ◌++◌, length, take}
use Rattle.std.specs.List.{flat_map}
use Rattle.rc_dbtext.specs.Words.{line_of_words}
use Rattle.rc_dbtext.specs.Form.{spells}
use Rattle.rc_historytext.specs.Text.{Line, First, OfPlace, OfMarks, OfDatabase, OfSession}
use Rattle.rc_historytext.specs.Text.{GenerationText, HistoryText, generation_lines, words, spell}

-- the lines before the present generation
abbrev pub lines_before : HistoryText → List Line
lines_before t =
    First ∷ OfPlace t.present (length t.generations)
    ∷ flat_map generation_lines (take t.present t.generations)

-- the bytes before its database
abbrev pub before_database : HistoryText → GenerationText → List ℕ
before_database t g =
    spells spell (lines_before t ++ OfMarks g.first_passed g.last_passed ∷ [])
    ++ line_of_words (words (OfDatabase g.database))

-- and before its session
abbrev pub before_session : HistoryText → GenerationText → List ℕ
before_session t g =
    spells spell
    (lines_before t ++ OfMarks g.first_passed g.last_passed ∷ OfDatabase g.database ∷ [])
    ++ line_of_words (words (OfSession g.session))

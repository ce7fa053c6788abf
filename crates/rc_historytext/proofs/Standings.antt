-- The texts of a generation stand in the text of a history.
use Rattle.std.proofs.Common.{◌≡◌, ◌∙◌, ℕ, zero, suc, List, [], ◌∷◌, ◌++◌, length, map, take, drop}
use Rattle.std.proofs.Common.{Some, slice_get, sym, ap, append_assoc}
use Rattle.std.proofs.lemmas.List.Concat.{flat_map-append}
use Rattle.std.specs.List.{flat_map}
use Rattle.rc_dbtext.specs.Words.{line_of_words}
use Rattle.rc_dbtext.specs.Form.{spells}
use Rattle.rc_dbtext.proofs.Stuck.{spells-append}
use Rattle.rc_historytext.specs.Text.{Line, First, OfPlace, OfMarks, OfDatabase, OfSession}
use Rattle.rc_historytext.specs.Text.{RenameCount, OfRename, Last, GenerationText, HistoryText}
use Rattle.rc_historytext.specs.Text.{generation_lines, history_lines, history_text, words}
use Rattle.rc_historytext.specs.Text.{text_behind, spell}
use Rattle.rc_historytext.specs.Offsets.{lines_before, before_database, before_session}

-- generations around one
around : (k : ℕ) (gs : List GenerationText) (g : GenerationText) → slice_get gs k ≡ Some g
    → gs ≡ take k gs ++ g ∷ drop (suc k) gs
around k [] g is = absurd cc
around zero (h ∷ gs) g is =
    let same : h ≡ g = cc in
    ap (λ (f : GenerationText). f ∷ gs) same
around (suc k) (h ∷ gs) g is =
    ap (λ (l : List GenerationText). h ∷ l) (around k gs g is)

-- a line with a text, after others
stands : (ls : List Line) (l : Line) (more : List Line)
    → spells spell (ls ++ l ∷ more)
    ≡ (spells spell ls ++ line_of_words (words l)) ++ (text_behind l ++ spells spell more)
stands ls l more =
    spells-append spell ls (l ∷ more)
    ∙ ap (λ (t : List ℕ). spells spell ls ++ t)
    (append_assoc (line_of_words (words l)) (text_behind l) (spells spell more))
    ∙ sym (append_assoc (spells spell ls) (line_of_words (words l))
    (text_behind l ++ spells spell more))

-- the lines of a history, around the marks of its present generation
abbrev behind_marks : HistoryText → GenerationText → List Line
behind_marks t g =
    (RenameCount (length g.renames) ∷ map OfRename g.renames)
    ++ (flat_map generation_lines (drop (suc t.present) t.generations) ++ Last ∷ [])

apart : (t : HistoryText) (g : GenerationText) → slice_get t.generations t.present ≡ Some g
    → history_lines t
    ≡ lines_before t ++ OfMarks g.first_passed g.last_passed ∷ OfDatabase g.database
    ∷ OfSession g.session ∷ behind_marks t g
apart t g is =
    let before : List Line = flat_map generation_lines (take t.present t.generations) in
    let after : List Line = flat_map generation_lines (drop (suc t.present) t.generations) in
    let whole : flat_map generation_lines t.generations ≡ before ++ (generation_lines g ++ after) =
    ap (flat_map generation_lines) (around t.present t.generations g is)
    ∙ flat_map-append generation_lines (take t.present t.generations)
    (g ∷ drop (suc t.present) t.generations) in
    ap (λ (ls : List Line). First ∷ OfPlace t.present (length t.generations) ∷ (ls ++ Last ∷ []))
    whole
    ∙ ap (λ (ls : List Line). First ∷ OfPlace t.present (length t.generations) ∷ ls)
    (append_assoc before (generation_lines g ++ after) (Last ∷ [])
    ∙ ap (λ (ls : List Line). before ++ ls)
    (append_assoc (generation_lines g) after (Last ∷ [])))

pub database_stands : (t : HistoryText) (g : GenerationText)
    → slice_get t.generations t.present ≡ Some g
    → (rest : List ℕ) × (history_text t ≡ before_database t g ++ (g.database ++ rest))
database_stands t g is = (
  spells spell (OfSession g.session ∷ behind_marks t g),
  ap (spells spell)
      (apart t g is
      ∙ sym (append_assoc (lines_before t) (OfMarks g.first_passed g.last_passed ∷ [])
      (OfDatabase g.database ∷ OfSession g.session ∷ behind_marks t g)))
      ∙ stands (lines_before t ++ OfMarks g.first_passed g.last_passed ∷ [])
      (OfDatabase g.database) (OfSession g.session ∷ behind_marks t g),
)

pub session_stands : (t : HistoryText) (g : GenerationText)
    → slice_get t.generations t.present ≡ Some g
    → (rest : List ℕ) × (history_text t ≡ before_session t g ++ (g.session ++ rest))
session_stands t g is = (
  spells spell (behind_marks t g),
  ap (spells spell)
      (apart t g is
      ∙ sym (append_assoc (lines_before t)
      (OfMarks g.first_passed g.last_passed ∷ OfDatabase g.database ∷ [])
      (OfSession g.session ∷ behind_marks t g)))
      ∙ stands
      (lines_before t ++ OfMarks g.first_passed g.last_passed ∷ OfDatabase g.database ∷ [])
      (OfSession g.session) (behind_marks t g),
)

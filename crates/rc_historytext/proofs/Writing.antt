-- What is written line by line is the text.
use Rattle.std.proofs.Common.{◌≡◌, ◌∙◌, ℕ, List, [], ◌∷◌, ◌++◌, length, map}
use Rattle.std.proofs.Common.{ap, sym, append_assoc}
use Rattle.std.proofs.lemmas.List.{append-nil}
use Rattle.std.proofs.lemmas.List.Concat.{flat_map-append}
use Rattle.std.specs.List.{flat_map}
use Rattle.rc_dbtext.specs.Words.{line_of_words}
use Rattle.rc_dbtext.specs.Form.{spells}
use Rattle.rc_dbtext.proofs.Stuck.{spells-append}
use Rattle.rc_historytext.specs.Text.{Line, OfMarks, OfDatabase, OfSession}
use Rattle.rc_historytext.specs.Text.{RenameCount, OfRename, GenerationText}
use Rattle.rc_historytext.specs.Text.{generation_lines, text_behind, words, spell}

-- a line that nothing follows
pub line_written : (old new : List ℕ) (l : Line) → text_behind l ≡ []
    → new ≡ old ++ line_of_words (words l) → new ≡ old ++ spell l
line_written old new l none written =
    written
    ∙ ap (λ (t : List ℕ). old ++ t)
    (sym (append-nil (line_of_words (words l)))
    ∙ ap (λ (t : List ℕ). line_of_words (words l) ++ t) (sym none))

-- two lines
pub two_written : (old middle new : List ℕ) (k l : Line) → middle ≡ old ++ spell k
    → new ≡ middle ++ spell l → new ≡ old ++ spells spell (k ∷ l ∷ [])
two_written old middle new k l first second =
    second ∙ ap (λ (t : List ℕ). t ++ spell l) first
    ∙ append_assoc old (spell k) (spell l)
    ∙ ap (λ (t : List ℕ). old ++ (spell k ++ t)) (sym (append-nil (spell l)))

five_parts : (old a b c d e : List ℕ) → ((((old ++ a) ++ b) ++ c) ++ d) ++ e
    ≡ old ++ (a ++ (b ++ (c ++ (d ++ e))))
five_parts old a b c d e = simp append_assoc

pub generation_written : (old a b c d e : List ℕ) (g : GenerationText)
    → a ≡ old ++ spell (OfMarks g.first_passed g.last_passed)
    → b ≡ a ++ spell (OfDatabase g.database) → c ≡ b ++ spell (OfSession g.session)
    → d ≡ c ++ spell (RenameCount (length g.renames))
    → e ≡ d ++ spells spell (map OfRename g.renames)
    → e ≡ old ++ spells spell (generation_lines g)
generation_written old a b c d e g one two three four five =
    five
    ∙ ap (λ (t : List ℕ). t ++ spells spell (map OfRename g.renames))
    (four ∙ ap (λ (t : List ℕ). t ++ spell (RenameCount (length g.renames)))
    (three ∙ ap (λ (t : List ℕ). t ++ spell (OfSession g.session))
    (two ∙ ap (λ (t : List ℕ). t ++ spell (OfDatabase g.database)) one)))
    ∙ five_parts old (spell (OfMarks g.first_passed g.last_passed)) (spell (OfDatabase g.database))
    (spell (OfSession g.session)) (spell (RenameCount (length g.renames)))
    (spells spell (map OfRename g.renames))

-- one line more
pub line_more : (old new : List ℕ) (ls : List Line) (k l : Line)
    → old ≡ spells spell (ls ++ k ∷ []) → new ≡ old ++ spell l
    → new ≡ spells spell (ls ++ k ∷ l ∷ [])
line_more old new ls k l before now =
    now ∙ ap (λ (t : List ℕ). t ++ spell l) before
    ∙ ap (λ (t : List ℕ). spells spell (ls ++ k ∷ []) ++ t) (sym (append-nil (spell l)))
    ∙ sym (spells-append spell (ls ++ k ∷ []) (l ∷ []))
    ∙ ap (spells spell) (append_assoc ls (k ∷ []) (l ∷ []))

-- one generation more
pub generations_written : (old so_far new : List ℕ) (gs more : List GenerationText)
    (g : GenerationText) → so_far ≡ old ++ spells spell (flat_map generation_lines gs)
    → new ≡ so_far ++ spells spell (generation_lines g) → more ≡ gs ++ g ∷ []
    → new ≡ old ++ spells spell (flat_map generation_lines more)
generations_written old so_far new gs more g before now pushed =
    now ∙ ap (λ (t : List ℕ). t ++ spells spell (generation_lines g)) before
    ∙ append_assoc old (spells spell (flat_map generation_lines gs))
    (spells spell (generation_lines g))
    ∙ ap (λ (t : List ℕ). old ++ t)
    (sym (spells-append spell (flat_map generation_lines gs) (generation_lines g)))
    ∙ ap (λ (ls : List Line). old ++ spells spell ls)
    (ap (λ (ls : List Line). flat_map generation_lines gs ++ ls)
    (sym (append-nil (generation_lines g)))
    ∙ sym (ap (flat_map generation_lines) pushed ∙ flat_map-append generation_lines gs (g ∷ [])))

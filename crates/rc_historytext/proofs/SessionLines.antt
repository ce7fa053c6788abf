-- The lines of a session, as they are written.
use Rattle.std.proofs.Common.{◌≡◌, ◌∙◌, ℕ, List, [], ◌∷◌, ◌++◌, ap, sym, append_assoc}
use Rattle.std.proofs.lemmas.List.{append-nil}
use Rattle.rc_dbtext.specs.Words.{line_of_words}
use Rattle.rc_dbtext.specs.Lines.{words_after_spaces}
use Rattle.rc_dbtext.specs.Form.{spells}
use Rattle.rc_dbtext.proofs.LineLemmas.{line_of}
use Rattle.rc_dbtext.proofs.Stuck.{spells-append}
use Rattle.rc_livetext.specs.Text.{Line, spell}

-- a line of a word and names
pub names_written : (old a b c first : List ℕ) (names : List (List ℕ)) → a ≡ old ++ first
    → b ≡ a ++ words_after_spaces names → c ≡ b ++ 10 ∷ []
    → c ≡ old ++ line_of_words (first ∷ names)
names_written old a b c first names one two three =
    three
    ∙ ap (λ (t : List ℕ). t ++ 10 ∷ [])
    (two ∙ ap (λ (t : List ℕ). t ++ words_after_spaces names) one)
    ∙ line_of old first names

-- a line of two words and names
pub bundle_written : (old a b c d first name : List ℕ) (names : List (List ℕ))
    → a ≡ old ++ first → b ≡ a ++ (32 ∷ name) → c ≡ b ++ words_after_spaces names
    → d ≡ c ++ 10 ∷ [] → d ≡ old ++ line_of_words (first ∷ name ∷ names)
bundle_written old a b c d first name names one two three four =
    names_written old a c d first (name ∷ names) one
    (three ∙ ap (λ (t : List ℕ). t ++ words_after_spaces names) two
    ∙ append_assoc a (32 ∷ name) (words_after_spaces names))
    four

-- two lines
pub two_lines : (old a b : List ℕ) (k l : Line) → a ≡ old ++ spell k → b ≡ a ++ spell l
    → b ≡ old ++ spells spell (k ∷ l ∷ [])
two_lines old a b k l one two =
    two ∙ ap (λ (t : List ℕ). t ++ spell l) one
    ∙ append_assoc old (spell k) (spell l)
    ∙ ap (λ (t : List ℕ). old ++ (spell k ++ t)) (sym (append-nil (spell l)))

-- three lines
pub three_lines : (old a b c : List ℕ) (k l m : Line) → a ≡ old ++ spell k → b ≡ a ++ spell l
    → c ≡ b ++ spell m → c ≡ old ++ spells spell (k ∷ l ∷ m ∷ [])
three_lines old a b c k l m one two three =
    two_lines a b c l m two three
    ∙ ap (λ (t : List ℕ). t ++ spells spell (l ∷ m ∷ [])) one
    ∙ append_assoc old (spell k) (spells spell (l ∷ m ∷ []))

-- some lines more
pub lines_more : (old a b : List ℕ) (ks ls : List Line) → a ≡ old ++ spells spell ks
    → b ≡ a ++ spells spell ls → b ≡ old ++ spells spell (ks ++ ls)
lines_more old a b ks ls one two =
    two ∙ ap (λ (t : List ℕ). t ++ spells spell ls) one
    ∙ append_assoc old (spells spell ks) (spells spell ls)
    ∙ ap (λ (t : List ℕ). old ++ t) (sym (spells-append spell ks ls))

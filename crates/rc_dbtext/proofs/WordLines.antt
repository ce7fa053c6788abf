-- Lines of words with what stands after them: bytes begin with one such line.
use Rattle.std.proofs.Common.{◌≡◌, ◌∙◌, ℕ, List, [], ◌∷◌, ◌++◌, All, sym, append_assoc}
use Rattle.std.specs.Str.{IsUtf8}
use Rattle.rc_dbtext.proofs.LineWords.{words_once}
use Rattle.rc_dbtext.specs.Text.{Line, words, line_of_words, text_behind}
use Rattle.rc_dbtext.specs.LineValues.{ArePlain, BeginsWith}
use Rattle.rc_dbtext.proofs.Sequences.{HasNo, IsOnce, once_line}

module _ {A : Type 0} (Is : A → Type 0) (line : A → Line)
    (plain : (a : A) → Is a → ArePlain (words (line a))) where
  -- a line is read once where its words and the text after it are
  pub once_words : ((a b : A) (x y : List ℕ) → Is a → Is b → words (line a) ≡ words (line b)
      → text_behind (line a) ++ x ≡ text_behind (line b) ++ y → a ≡ b)
      → IsOnce Is (λ a. line a ∷ [])
  once_words once = once_line Is line (λ a b x y is_a is_b same.
      let both = words_once (words (line a)) (words (line b)) (text_behind (line a) ++ x)
      (text_behind (line b) ++ y) (plain a is_a) (plain b is_b)
      (sym (append_assoc (line_of_words (words (line a))) (text_behind (line a)) x) ∙ same
      ∙ append_assoc (line_of_words (words (line b))) (text_behind (line b)) y) in
      once a b x y is_a is_b both.0 both.1)

  -- where a line of other words stands, or other bytes after it, there is no such line
  pub no_such_line : (bytes : List ℕ) (ws : List (List ℕ)) (rest : List ℕ)
      → BeginsWith bytes ws rest
      → ((a : A) (tail : List ℕ) → Is a → ws ≡ words (line a) → rest ≡ text_behind (line a) ++ tail
      → ⊥)
      → HasNo Is line bytes
  no_such_line bytes ws rest begins other a tail is same =
      let both =
      words_once ws (words (line a)) rest (text_behind (line a) ++ tail) begins.0 (plain a is)
      (sym begins.1 ∙ same ∙ append_assoc (line_of_words (words (line a)))
      (text_behind (line a)) tail) in
      other a tail is both.0 both.1

-- where there is no line of text at all, there is no such line
pub no_line : {A : Type 0} (Is : A → Type 0) (line : A → Line)
    → ((a : A) → Is a → All IsUtf8 (words (line a))) → (bytes : List ℕ)
    → ((ws : List (List ℕ)) (rest : List ℕ) → All IsUtf8 ws → bytes ≡ line_of_words ws ++ rest → ⊥)
    → HasNo Is line bytes
no_line Is line text bytes none a tail is same =
    none (words (line a)) (text_behind (line a) ++ tail) (text a is)
    (same ∙ append_assoc (line_of_words (words (line a))) (text_behind (line a)) tail)

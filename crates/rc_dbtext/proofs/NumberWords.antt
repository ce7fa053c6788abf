-- Lines of a word and a number.
use Rattle.std.proofs.Common.{◌≡◌, ◌∙◌, ℕ, List, [], ◌∷◌, All, sym}
use Rattle.std.proofs.lemmas.List.Elements.{All-cons}
use Rattle.std.specs.Str.{IsUtf8}
use Rattle.rc_dbtext.specs.Words.{IsPlain, ArePlain, BeginsWith, IsNumber, HasNumber}
use Rattle.rc_dbtext.proofs.LineWords.{words_once, each_cons}
use Rattle.rc_dbtext.proofs.Texts.{one_text, text_number}
use Rattle.rc_dbtext.proofs.Plain.{plain_number, plain_words, no_words}

-- a word and a number
pub plain_numbered : (word number : List ℕ) → IsPlain word → IsNumber number
    → ArePlain (word ∷ number ∷ [])
plain_numbered word number plain is =
    plain_words word (number ∷ []) plain
    (each_cons number [] (plain_number number is) no_words)

-- a word and a number are UTF-8
pub numbered_text : (word number : List ℕ) → IsUtf8 word → IsNumber number
    → All IsUtf8 (word ∷ number ∷ [])
numbered_text word number text is =
    All-cons IsUtf8 word (number ∷ []) text (one_text number (text_number number is))

-- a line of a word and a number has these words
pub number_words : (word bytes : List ℕ) → IsPlain word → (Such : List ℕ → Type 0)
    → (ws : List (List ℕ)) (rest : List ℕ) → BeginsWith bytes ws rest → HasNumber word Such bytes
    → (number : List ℕ) × IsNumber number × Such number × (ws ≡ word ∷ number ∷ [])
number_words word bytes plain Such ws rest begins (number, after, is, such, same) = (
  number,
  is,
  such,
  (words_once ws (word ∷ number ∷ []) rest after begins.0 (plain_numbered word number plain is)
      (sym begins.1 ∙ same)).0,
)

-- The options in front of the word that says what a line does.
use Rattle.std.specs.Prelude.{◌≡◌, ◌<◌, ◌≤◌, ◌==◌, ◌++◌, ℕ, Bool, true, false, List, [], ◌∷◌}
use Rattle.std.specs.Prelude.{Option, None, Some, codes, length, drop, slice_index, nat_lt}
use Rattle.std.specs.Prelude.{option_and_then, option_map, if◌then◌else◌}
use Rattle.std.specs.Str.{bytes_eq}
use Rattle.rc_model.specs.Plan.{Ask}
use Rattle.rc_select.specs.declared.request.Choice.{Choice}
use Rattle.rc_select.specs.declared.request.Choice.TheVariants.{Limit}
use Rattle.rc_select.specs.Ask.{choice_of, none_chosen, with_choices, asked_by}
use Rattle.rc_script.specs.Words.{limit_of}

-- what letters choose, where each chooses something
abbrev pub choices_of : List ℕ → Option (List Choice)
choices_of [] = Some []
choices_of (letter ∷ letters) = option_and_then (λ choice.
    option_map (λ others. choice ∷ others) (choices_of letters)) (choice_of letter)

-- what a word of one letter or more after a dash chooses
abbrev pub word_choices : List ℕ → Option (List Choice)
word_choices word = if nat_lt 1 (length word) then choices_of (drop 1 word) else None

-- the choices in front of a line, and the words after them
pub record Front : Type 0 where
  pub choices : List Choice
  pub words : List (List ℕ)

-- more choices in front
abbrev pub onto : List Choice → Option Front → Option Front
onto choices front =
    option_map (λ f. record { choices = choices ++ f.choices; words = f.words }) front

-- the choices in front of words, where they are well formed; after
-- `-t` the number of a limit is due
abbrev pub front_of : (number_due : Bool) → List (List ℕ) → Option Front
front_of true [] = None
front_of true (word ∷ words) =
    option_and_then (λ limit. onto (Limit limit ∷ []) (front_of false words)) (limit_of word)
front_of false [] = Some (record { choices = []; words = [] })
front_of false (word ∷ words) =
    if slice_index word 0 == 45 then
    (if bytes_eq word (codes "-t") then front_of true words
    else option_and_then (λ choices. onto choices (front_of false words)) (word_choices word))
    else Some (record { choices = []; words = word ∷ words })

-- whether words begin with an option
abbrev pub has_option : List (List ℕ) → Bool
has_option [] = false
has_option (word ∷ words) = slice_index word 0 == 45

-- what a change with these choices asks of these words
abbrev pub ask_chosen : List Choice → List (List ℕ) → Option Ask
ask_chosen choices words = asked_by (with_choices none_chosen choices) words

-- the limit of a line that may have one alone, 0 where it has none
abbrev pub only_limit : List Choice → Option ℕ
only_limit [] = Some 0
only_limit (Limit limit ∷ []) = Some limit
only_limit other = None

-- the new choices are the old ones with those of the option at the beginning, which takes so many
-- words; the number of a limit may be due
pub record IsOption (number_due : Bool) (old new : List Choice) (words : List (List ℕ))
    (count : ℕ) : Type 0 where
  pub added : List Choice
  pub choices : new ≡ old ++ added
  pub front : front_of number_due words ≡ onto added (front_of false (drop count words))
  pub some : 0 < count
  pub within : count ≤ length words

-- Numbers and words of event lines.
use Rattle.std.proofs.Common.{◌≡◌, ◌∙◌, ◌<◌, ◌==◌, ◌||◌, ℕ, true, List, [], ◌∷◌, ◌^◌, length, None}
use Rattle.std.proofs.Common.{Result, arith, refl, ltb, nat_lt, not, slice_index_or}
use Rattle.std.specs.Result.{result_ok}
use Rattle.std.specs.Str.Parse.{ParsesUnsigned, digits_value}
use Rattle.std.proofs.lemmas.Bool.{and_parts}
use Rattle.rc_script.specs.Words.{is_digits}
use Rattle.rc_script.proofs.Digits.{parsed_digits, past}
use Rattle.rc_script.specs.Numbers.{is_plain, number_in}
use Rattle.rc_script.specs.Events.{event_in}

-- a text in form is parsed to its number
pub number_is : {E : Type 0} (bits : ℕ) (word : List ℕ) (r : Result ℕ E) → is_plain word ≡ true
    → ParsesUnsigned bits 10 word r → result_ok r ≡ number_in bits word
number_is bits word r plain parsed =
    parsed_digits bits word r
    (and_parts (is_digits word) (nat_lt (length word) 2 || not (slice_index_or word 0 0 == 48))
    plain).0 parsed
    ∙ past (is_plain word) (ltb (digits_value 10 word) (2 ^ bits)) (digits_value 10 word) plain

-- fewer than three words give no event
pub too_few : (names words : List (List ℕ)) → length words < 3 → None ≡ event_in names words
too_few names [] few = refl
too_few names (a ∷ []) few = refl
too_few names (a ∷ b ∷ []) few = refl
too_few names (a ∷ b ∷ c ∷ words) few = absurd (omega arith)

-- Numbers read digit by digit.
use Rattle.std.proofs.Common.{◌≡◌, ℕ, ◌+◌, ◌*◌, ◌<◌, ◌≤◌, List, [], ◌∷◌, length, get_or, drop}
use Rattle.std.proofs.Common.{arith, sym, ◌∙◌}
use Rattle.std.proofs.lemmas.List.{at_drop_more}
use Rattle.std.proofs.lemmas.Str.{digit_value_digit}
use Rattle.std.specs.Char.{digit_value}
use Rattle.std.specs.Str.Parse.{digits_value_after}

-- what a digit stands for
pub digit_is : (digit : ℕ) → 48 ≤ digit → digit ≤ 57 → digit_value digit + 48 ≡ digit
digit_is digit low high = digit_value_digit digit (low, high)

-- more digits make no number smaller
after_ge : (n : ℕ) (digits : List ℕ) → n ≤ digits_value_after 10 n digits
after_ge n [] = omega arith
after_ge n (digit ∷ digits) = let more = after_ge (n * 10 + digit_value digit) digits in
    omega (arith, more)

-- a number that is too large stays so
pub too_large : (n i whole : ℕ) (digits : List ℕ) → digits_value_after 10 n (drop i digits) ≡ whole
    → i < length digits
    → 4294967295 < n * 10 + digit_value (get_or digits i 0) → 4294967295 < whole
too_large n i whole digits e within large =
    let step = at_drop_more (digits_value_after 10 n) digits i 0 within in
    let most = after_ge (n * 10 + digit_value (get_or digits i 0)) (drop (i + 1) digits) in
    let whole_is : digits_value_after 10 (n * 10 + digit_value (get_or digits i 0))
    (drop (i + 1) digits) ≡ whole = sym step ∙ e in
    omega (arith, large, most, whole_is)

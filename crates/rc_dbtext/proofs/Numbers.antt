-- Numbers in decimal, and what stands for one.
use Rattle.std.proofs.Common.{◌≡◌, ℕ, ◌+◌, ◌-◌, ◌*◌, ◌^◌, ◌<◌, ◌≤◌, ⊎_elim, List, length, get_or}
use Rattle.std.proofs.Common.{take, arith, ap}
use Rattle.std.proofs.lemmas.Bool.{cases_lt}
use Rattle.std.proofs.lemmas.Fmt.{decimal_is_IsNumeral, decimal_digit, digits_decimal}
use Rattle.std.proofs.lemmas.Fmt.{first_decimal, decimal-digits_value}
use Rattle.std.proofs.lemmas.Int.Digits.{digits_value_more}
use Rattle.std.proofs.lemmas.List.Elements.{All-from_get_or}
use Rattle.std.proofs.lemmas.Str.{digit_value_digit}
use Rattle.std.proofs.lemmas.Str.Parse.{IsNumeralModel, numerals_by_value, tells_by_index}
use Rattle.std.proofs.lemmas.Str.Parse.{digits_value-take-le}
use Rattle.std.specs.Fmt.{decimal}
use Rattle.std.specs.Int.{IsInRange}
use Rattle.std.specs.Str.Parse.{digits_value}
use Rattle.rc_dbtext.specs.Words.{IsNumber}

-- one more digit
pub digits_value-more : (ds : List ℕ) (i value digit : ℕ) → IsNumber ds → i < length ds
    → value ≡ digits_value 10 (take i ds) → digit ≡ get_or ds i 0 - 48
    → 10 * value + digit ≡ digits_value 10 (take (i + 1) ds)
digits_value-more ds i value digit number within so_far is =
    let in_range = number.each i 0 within in
    omega (arith, digits_value_more 10 ds i within, digit_value_digit (get_or ds i 0) in_range)

-- all of the digits write no less than some of them
pub digits_value-above : (ds : List ℕ) (i value most : ℕ) → value ≡ digits_value 10 (take i ds)
    → most < value → most < digits_value 10 ds
digits_value-above ds i value most so_far above =
    omega (arith, digits_value-take-le 10 ds i (omega arith))

model : IsNumeralModel (λ ds. (i : ℕ) → i < length ds → IsInRange 48 57 (get_or ds i 0))
    (digits_value 10)
model = numerals_by_value _ tells_by_index

-- digits are what `decimal` writes of their value
pub decimal-number : (ds : List ℕ) → IsNumber ds → digits_value 10 ds < 2 ^ 64
    → decimal (digits_value 10 ds) ≡ ds
decimal-number ds number small =
    decimal-digits_value model ds (λ i within. number.each i 0 within) number.some
    (λ zero. ⊎_elim (λ longer. absurd (number.plain longer zero))
    (λ short. omega (arith, number.some)) (cases_lt 1 (length ds)))
    small

-- what `decimal` writes is a number in form
pub IsNumber-decimal : (n : ℕ) → n < 2 ^ 64 → IsNumber (decimal n)
IsNumber-decimal n small =
    record {
      some = (decimal_is_IsNumeral n small).0.0;
      each =
          All-from_get_or (λ digit. (48 ≤ digit) × (digit ≤ 57)) (decimal n) 0
          (digits_decimal model n small);
      plain = λ longer zero. ⊎_elim
          (λ above. omega (arith, first_decimal n above small))
          (λ none. let is : n ≡ 0 = omega arith in
          omega (arith, ap (λ k. length (decimal k)) is, ap length (decimal_digit 0 (omega arith))))
          (cases_lt 0 n);
    }

pub digits_value-decimal : (n : ℕ) → n < 2 ^ 64 → digits_value 10 (decimal n) ≡ n
digits_value-decimal n small = (decimal_is_IsNumeral n small).1

-- digits that write more than a number write none up to it
pub not_decimal : (ds : List ℕ) (most n : ℕ) → most < digits_value 10 ds → most < 2 ^ 64 → n ≤ most
    → ds ≡ decimal n → ⊥
not_decimal ds most n above small few same =
    omega (arith, ap (digits_value 10) same, digits_value-decimal n (omega arith))

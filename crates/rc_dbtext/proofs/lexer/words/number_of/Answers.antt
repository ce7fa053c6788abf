use Rattle.std.proofs.Common.{ℕ, ◌≡◌, ◌<◌, ◌≤◌, ◌^◌, ◌∙◌, List, Option, Some, None, MatchOption}
use Rattle.std.proofs.Common.{arith, sym, ap, subst, true}
use Rattle.std.specs.Fmt.{decimal}
use Rattle.std.specs.Str.Parse.{digits_value}
use Rattle.rc_dbtext.specs.Words.{IsNumber}
use Rattle.rc_dbtext.proofs.Numbers.{IsNumber-decimal, decimal-number, not_decimal}
use Rattle.rc_dbtext.proofs.lexer.words.number_of.Goals as goal

-- what is read of a number's digits is its number
number_read : (word : List ℕ) (most : ℕ) (value : Option ℕ) → IsNumber word → most < 2 ^ 32
    → MatchOption value (most < digits_value 10 word) (λ n. (n ≤ most) × (n ≡ digits_value 10 word))
    → MatchOption value ((n : ℕ) → n ≤ most → word ≡ decimal n → ⊥)
    (λ n. (n ≤ most) × (word ≡ decimal n))
number_read word most None number small above =
    λ n few same. not_decimal word most n above (omega arith) few same
number_read word most (Some n) number small read =
    (read.0, sym (ap decimal read.1 ∙ decimal-number word number (omega (arith, read.0, read.1))))

pub returns-then-is_number : goal.returns-then-is_number
returns-then-is_number c =
    number_read c.args.word.now c.args.most c.value_of.result
    (c.is_number.ensures.0 c.if-is_number.true) (omega arith) c.value_of.ensures

pub returns-else-is_number : goal.returns-else-is_number
returns-else-is_number c n few same =
    let small : n < 2 ^ 64 = omega arith in
    let yes : c.is_number.result ≡ true =
    c.is_number.ensures.1 (subst IsNumber (sym same) (IsNumber-decimal n small)) in
    cc

-- Words that are UTF-8.
use Rattle.std.proofs.Common.{◌≡◌, ◌<◌, ◌^◌, ◌≤◌, ◌⊎◌, inl, inr, ℕ, true, List, [], ◌∷◌, All}
use Rattle.std.proofs.Common.{length, get_or, nat_lt, arith}
use Rattle.std.proofs.lemmas.Bool.{cases_lt, ltb-true}
use Rattle.std.proofs.lemmas.List.{get_or_past}
use Rattle.std.proofs.lemmas.List.Elements.{All-cons}
use Rattle.std.proofs.lemmas.Str.{IsUtf8-from_ascii}
use Rattle.std.proofs.lemmas.List.Sums.{AllPass-from_list_all}
use Rattle.std.proofs.lemmas.Str.Ascii.{IsAscii-from_all}
use Rattle.std.specs.Fmt.{decimal}
use Rattle.std.specs.List.{list_all}
use Rattle.std.specs.Str.{IsUtf8}
use Rattle.rc_model.specs.Names.{IsName}
use Rattle.rc_dbtext.specs.Words.{IsNumber}
use Rattle.rc_dbtext.proofs.Numbers.{IsNumber-decimal}

-- a number is UTF-8
pub text_number : (number : List ℕ) → IsNumber number → IsUtf8 number
text_number number is = IsUtf8-from_ascii number (λ k. ascii k (cases_lt k (length number)))
  where
    ascii : (k : ℕ) → (k < length number) ⊎ (length number ≤ k) → get_or number k 0 < 128
    ascii k (inl low) = omega (arith, (is.each k 0 low).1)
    ascii k (inr high) = omega (arith, get_or_past number k 0 high)

pub text_decimal : (n : ℕ) → n < 2 ^ 64 → IsUtf8 (decimal n)
text_decimal n small = text_number (decimal n) (IsNumber-decimal n small)

-- and so is a literal whose bytes are ASCII
pub text_from : (word : List ℕ) → list_all (λ byte. nat_lt byte 128) word ≡ true → IsUtf8 word
text_from word passes =
    IsUtf8-from_ascii word (IsAscii-from_all word (λ k d within.
    ltb-true (get_or word k d) 128
    (AllPass-from_list_all (λ byte. nat_lt byte 128) word passes k d within)))

pub text_names : (names : List (List ℕ)) → All IsName names → All IsUtf8 names
text_names names each = λ k d within. (each k d within).utf8

pub no_texts : All IsUtf8 []
no_texts = λ k d within. absurd (omega arith)

-- one word
pub one_text : (word : List ℕ) → IsUtf8 word → All IsUtf8 (word ∷ [])
one_text word text = All-cons IsUtf8 word [] text no_texts

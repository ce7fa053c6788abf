-- Words that are plain.
use Rattle.std.proofs.Common.{◌≡◌, ◌∙◌, ℕ, ◌<◌, ◌^◌, Bool, true, false, List, [], ◌∷◌, get_or, ◌==◌}
use Rattle.std.proofs.Common.{eq-eqb, All, arith, refl, sym, zero, suc}
use Rattle.std.proofs.lemmas.Bool.{false≢true}
use Rattle.std.specs.Prelude.{if◌then◌else◌, codes}
use Rattle.std.specs.Fmt.{decimal}
use Rattle.std.proofs.lemmas.Str.{IsUtf8-from_ascii}
use Rattle.std.proofs.lemmas.Str.Ascii.{IsAscii-from_all}
use Rattle.rc_model.specs.Names.{IsName, IsNameByte}
use Rattle.rc_dbtext.specs.Words.{IsPlain, ArePlain, IsNumber}
use Rattle.rc_dbtext.proofs.LineWords.{plain_cons, each_cons}
use Rattle.rc_dbtext.proofs.Numbers.{IsNumber-decimal}

-- a test for literals
abbrev pub plain_test : List ℕ → Bool
plain_test [] = true
plain_test (byte ∷ rest) =
    if byte == 32 then false else (if byte == 10 then false else plain_test rest)

pub plain_from : (word : List ℕ) → plain_test word ≡ true → IsPlain word
plain_from [] passes = λ k d within. absurd (omega arith)
plain_from (byte ∷ rest) passes = by (byte == 32) (byte == 10) refl refl passes (plain_from rest)
  where
    by : (space newline : Bool) → (byte == 32) ≡ space → (byte == 10) ≡ newline
        → (if space then false else (if newline then false else plain_test rest)) ≡ true
        → (plain_test rest ≡ true → IsPlain rest) → IsPlain (byte ∷ rest)
    by true newline is_space is_newline bad left = absurd (false≢true bad)
    by false true is_space is_newline bad left = absurd (false≢true bad)
    by false false is_space is_newline passes left =
        plain_cons byte rest (λ same. false≢true (sym is_space ∙ eq-eqb byte 32 same))
        (λ same. false≢true (sym is_newline ∙ eq-eqb byte 10 same)) (left passes)

pub plain_name : (name : List ℕ) → IsName name → IsPlain name
plain_name name is = λ k d within. let above = (is.bytes.each k d within).0 in
    (omega arith, omega arith)

pub plain_number : (number : List ℕ) → IsNumber number → IsPlain number
plain_number number is = λ k d within. let digit = is.each k d within in (omega arith, omega arith)

pub plain_decimal : (n : ℕ) → n < 2 ^ 64 → IsPlain (decimal n)
plain_decimal n small = plain_number (decimal n) (IsNumber-decimal n small)

pub plain_names : (names : List (List ℕ)) → All IsName names → All IsPlain names
plain_names names each = λ k d within. plain_name (get_or names k d) (each k d within)

pub no_words : All IsPlain []
no_words = λ k d within. absurd (omega arith)

-- a first word and others
pub plain_words : (word : List ℕ) (others : List (List ℕ)) → IsPlain word → All IsPlain others
    → ArePlain (word ∷ others)
plain_words word others plain each =
    record { some = omega arith; each = each_cons word others plain each }

-- some name
pub IsName-a : IsName (codes "a")
IsName-a = record {
  some = omega arith;
  short = omega arith;
  bytes = record {
    each = name_byte;
    no_option = λ same. omega (arith, same);
    no_comment =
        λ same. omega (arith, same);
  };
  unreserved = λ reserved. false≢true reserved;
  utf8 = IsUtf8-from_ascii (codes "a") (IsAscii-from_all (codes "a") low);
}
  where
    name_byte : All IsNameByte (codes "a")
    name_byte zero d within = (omega arith, omega arith, omega arith)
    name_byte (suc k) d within = absurd (omega arith)

    low : All (λ b. b < 128) (codes "a")
    low zero d within = omega arith
    low (suc k) d within = absurd (omega arith)

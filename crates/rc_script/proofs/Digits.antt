-- Numbers among the words of a line.
use Rattle.std.proofs.Common.{◌≡◌, ◌<◌, ◌≤◌, ◌^◌, ℕ, Bool, true, false, cond, List, Some, None}
use Rattle.std.proofs.Common.{Result, Ok, Err, length, arith, refl, ltb, ◌&&◌, ◌∙◌}
use Rattle.std.proofs.lemmas.Bool.{ltb-true, lt-ltb, and_parts, and_from}
use Rattle.std.proofs.lemmas.Str.Parse.{IsNumeralModel, numerals_by_value, tells_all_ascii_digits}
use Rattle.std.proofs.lemmas.Str.Parse.{parse_digits}
use Rattle.std.specs.Result.{OkIff, result_ok}
use Rattle.std.specs.Str.{all_ascii_digits}
use Rattle.std.specs.Str.Parse.{ParsesUnsigned, digits_value}
use Rattle.rc_script.specs.Words.{is_digits, limit_of}

model : IsNumeralModel (λ ds. all_ascii_digits ds ≡ true) (digits_value 10)
model = numerals_by_value _ tells_all_ascii_digits

-- what is chosen where a test passes, and where it does not
when : (b : Bool) (x : ℕ) → b ≡ true → Some x ≡ cond b (Some x) None
when true x e = refl
when false x e = absurd (cc)

unless : (b : Bool) (x : ℕ) → b ≡ false → None ≡ cond b (Some x) None
unless true x e = absurd (cc)
unless false x e = refl

not_below : (a b : ℕ) → (a < b → ⊥) → ltb a b ≡ false
not_below a b never = by_test (ltb a b) refl
  where
    by_test : (t : Bool) → ltb a b ≡ t → ltb a b ≡ false
    by_test true e = absurd (never (ltb-true a b e))
    by_test false e = e

-- digits are parsed to the number that they write, where it has so many bits
pub parsed_digits : {E : Type 0} (bits : ℕ) (word : List ℕ) (r : Result ℕ E) → is_digits word ≡ true
    → ParsesUnsigned bits 10 word r
    → result_ok r ≡ cond (ltb (digits_value 10 word) (2 ^ bits)) (Some (digits_value 10 word)) None
parsed_digits {E} bits word r digits parsed =
    by_result r (parse_digits model bits word r parsed parts.1)
  where
    parts : (ltb 0 (length word) ≡ true) × (all_ascii_digits word ≡ true)
    parts = and_parts (ltb 0 (length word)) (all_ascii_digits word) digits

    some : 0 < length word
    some = ltb-true 0 (length word) parts.0

    by_result : (r : Result ℕ E)
        → OkIff r ((0 < length word) × (digits_value 10 word < 2 ^ bits)) (digits_value 10 word)
        → result_ok r ≡ cond (ltb (digits_value 10 word) (2 ^ bits)) (Some (digits_value 10 word))
        None
    by_result (Ok x) k =
        rw (k.1) (when (ltb (digits_value 10 word) (2 ^ bits)) (digits_value 10 word)
        (lt-ltb (digits_value 10 word) (2 ^ bits) k.0.1))
    by_result (Err e) k =
        unless (ltb (digits_value 10 word) (2 ^ bits)) (digits_value 10 word)
        (not_below (digits_value 10 word) (2 ^ bits) (λ small. k (some, small)))

-- one more test in front that passes
pub past : (a b : Bool) (x : ℕ) → a ≡ true → cond b (Some x) None ≡ cond (a && b) (Some x) None
past a b x e = rw e refl

-- a text of few digits is parsed to the limit that it gives
pub limit_is : {E : Type 0} (word : List ℕ) (r : Result ℕ E) → is_digits word ≡ true
    → length word ≤ 10 → ParsesUnsigned 32 10 word r → result_ok r ≡ limit_of word
limit_is word r digits short parsed =
    parsed_digits 32 word r digits parsed
    ∙ past (is_digits word && ltb (length word) 11) (ltb (digits_value 10 word) (2 ^ 32))
    (digits_value 10 word)
    (and_from (is_digits word) (ltb (length word) 11) digits
    (lt-ltb (length word) 11 (omega arith)))

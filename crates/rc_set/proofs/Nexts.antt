-- The next id of a set, by the lowest bit of a shifted word.
use Rattle.std.proofs.Common.{◌≡◌, ◌≢◌, ℕ, ◌+◌, ◌-◌, ◌*◌, ◌/◌, ◌%◌, ◌^◌, ◌<◌, ◌≤◌, ◌↔◌, inl, inr}
use Rattle.std.proofs.Common.{List, length, slice_index, bit_and, Option, Some, None, IfSome}
use Rattle.std.proofs.Common.{IfNone, sym, ap, ◌∙◌, subst, arith}
use Rattle.std.specs.Int.{bit_at, trailing_zeros}
use mir.Syntax.{w64}
use Rattle.std.proofs.Math.Nat.{div-le_self}
use Rattle.std.proofs.lemmas.Nat.{shr-shr, and_le_l}
use Rattle.std.proofs.lemmas.Nat.Bits.{bit_at-trailing_zeros, bit_at-zero, bit_at_above, bit_at_not}
use Rattle.std.proofs.lemmas.Nat.Bits.{bit_at-lt}
use Rattle.std.proofs.lemmas.Bool.{cases_lt}
use Rattle.rc_set.specs.Words.{HasBit}
use Rattle.rc_set.specs.Next.{IsNextFrom, HasNoneFrom}
use Rattle.rc_set.proofs.Bits.{bit_of_word, and_not_one}

-- a bit of a word that is shifted down
shifted_bit : (word k i : ℕ) → bit_at (word / 2 ^ k) i ≡ bit_at word (k + i)
shifted_bit word k i = ap (λ (n : ℕ). n % 2) (shr-shr word k i)

-- a fact holds of the ids of one word whose bits are set in a number
abbrev pub AreBits : (ℕ → Type 0) → ℕ → ℕ → Type 0
AreBits P at word = (i : ℕ) → i < 64 → P (64 * at + i) ↔ (bit_at word i ≡ 1)

-- of the bits from a place of a word on, the lowest one that is set
module _ (P : ℕ → Type 0) (from at word : ℕ) (bits : AreBits P (at / 64) word)
    (fits : word < 2 ^ 64) (behind : from ≤ at)
    (none : (s : ℕ) → from ≤ s → s < at → P s → ⊥) where
  abbrev pub rest : ℕ
  rest = word / 2 ^ (at % 64)

  -- the ids of the word from the place on are those of the shifted word
  bit_behind : (s : ℕ) → at ≤ s → s < 64 * (at / 64) + 64 → P s → bit_at rest (s - at) ≡ 1
  bit_behind s from_here low holds =
      let e : s ≡ 64 * (at / 64) + (at % 64 + (s - at)) = omega arith in
      shifted_bit word (at % 64) (s - at)
      ∙ (bits (at % 64 + (s - at)) (omega arith)).0 (subst P e holds)

  -- none is set: none of them holds
  pub none_rest : rest ≡ 0 → (s : ℕ) → from ≤ s → s < (at / 64 + 1) * 64 → P s → ⊥
  none_rest zero s from_there low holds = elim (cases_lt s at) [
    | inl before ↦ none s from_there before holds
    | inr here ↦
        let one = bit_behind s here (omega arith) holds in
        let off = ap (λ (n : ℕ). bit_at n (s - at)) zero ∙ bit_at-zero (s - at) in
        omega (arith, one, off)
  ]

  -- the lowest is the next
  pub next_rest : 0 < rest → IsNextFrom P from (at + trailing_zeros w64 rest)
  next_rest some =
      let place = trailing_zeros w64 rest in
      let rest_fits : rest < 2 ^ 64 = omega (arith, div-le_self word (2 ^ (at % 64))) in
      let lowest = bit_at-trailing_zeros w64 rest some rest_fits in
      let set : bit_at word (at % 64 + place) ≡ 1 =
      sym (shifted_bit word (at % 64) place) ∙ lowest.1 in
      let low : at % 64 + place < 64 = elim (cases_lt (at % 64 + place) 64) [
        | inl low ↦ low
        | inr high ↦ absurd
            (omega (arith, set, bit_at_above word 64 (at % 64 + place) fits high))
      ] in
      let e : 64 * (at / 64) + (at % 64 + place) ≡ at + place = omega arith in
      record {
        holds = subst P e ((bits (at % 64 + place) low).1 set);
        behind = omega arith;
        least = λ t from_there before holds. elim (cases_lt t at) [
          | inl passed ↦ none t from_there passed holds
          | inr here ↦
              let one = bit_behind t here (omega arith) holds in
              omega (arith, one, lowest.2 (t - at) (omega arith))
        ];
      }

-- the ids of a word of a list
pub word_bits : (words : List ℕ) (at : ℕ) → AreBits (HasBit words) at (slice_index words at)
word_bits words at i low = bit_of_word words at i low

-- a word that is 0 has none
pub empty_word : (words : List ℕ) (at s : ℕ) → 64 * at ≤ s → s < 64 * at + 64
    → slice_index words at ≡ 0 → HasBit words s → ⊥
empty_word words at s from low zero has =
    let e : s ≡ 64 * at + (s - 64 * at) = omega arith in
    let one = (bit_of_word words at (s - 64 * at) (omega arith)).0 (subst (HasBit words) e has) in
    let off = ap (λ (n : ℕ). bit_at n (s - 64 * at)) zero ∙ bit_at-zero (s - 64 * at) in
    omega (arith, one, off)

-- the ids of a word of a list that stand in no word of another
pub word_bits_beyond : (words others : List ℕ) (at : ℕ) → slice_index others at < 2 ^ 64
    → AreBits (λ s. HasBit words s × (HasBit others s → ⊥)) at
    (bit_and (slice_index words at) (2 ^ 64 - 1 - slice_index others at))
word_bits_beyond words others at fits i low =
    let mine = bit_of_word words at i low in
    let theirs = bit_of_word others at i low in
    let alone = and_not_one (slice_index words at) (slice_index others at) i fits low in (
      λ h. alone.1 (mine.0 h.0, λ one. h.1 (theirs.1 one)),
      λ one. let h = alone.0 one in (mine.1 h.0, λ has. h.1 (theirs.0 has)),
    )

-- the ids of a word of a list whose bits are not set
pub clear_word_bits : (words : List ℕ) (at : ℕ) → at < length words
    → slice_index words at < 2 ^ 64
    → AreBits (λ s. (s < 64 * length words) × (HasBit words s → ⊥)) at
    (2 ^ 64 - 1 - slice_index words at)
clear_word_bits words at within fits i low =
    let mine = bit_of_word words at i low in
    let turned = bit_at_not w64 (slice_index words at) i fits low in
    let known : 64 * at + i < 64 * length words = omega arith in (
      λ h.
          let off : bit_at (slice_index words at) i ≢ 1 = λ one. h.1 (mine.1 one) in
          omega (arith, turned, off, bit_at-lt (slice_index words at) i),
      λ one. (known, λ has. omega (arith, turned, one, mine.0 has)),
    )

-- what stands in one list alone fits a word
pub beyond_fits : (word other : ℕ) → word < 2 ^ 64 → bit_and word (2 ^ 64 - 1 - other) < 2 ^ 64
beyond_fits word other fits = omega (arith, and_le_l word (2 ^ 64 - 1 - other))

-- the next number of which one fact holds is that of another that says the same
pub next_as : (P Q : ℕ → Type 0) (from : ℕ) (found : Option ℕ) → ((s : ℕ) → P s ↔ Q s)
    → IfSome found (IsNextFrom P from) → IfSome found (IsNextFrom Q from)
next_as P Q from None same some = some
next_as P Q from (Some s) same some = record {
  holds = (same s).0 some.holds;
  behind = some.behind;
  least = λ t from_there before holds. some.least t from_there before ((same t).1 holds);
}

-- and there is none where there is none of the other
pub none_as : (P Q : ℕ → Type 0) (from : ℕ) (found : Option ℕ) → ((s : ℕ) → P s ↔ Q s)
    → IfNone found (HasNoneFrom P from) → IfNone found (HasNoneFrom Q from)
none_as P Q from None same none = λ s from_there holds. none s from_there ((same s).1 holds)
none_as P Q from (Some s) same none = none

-- it is below the bound, where the fact holds of nothing else
pub next_low : (P : ℕ → Type 0) (from bound : ℕ) (found : Option ℕ) → bound ≤ 4096
    → ((s : ℕ) → P s → s < bound) → IfSome found (IsNextFrom P from)
    → IfSome found (λ s. (s < bound) × (s < 4096))
next_low P from bound None small within some = some
next_low P from bound (Some s) small within some =
    let low = within s some.holds in (low, omega arith)

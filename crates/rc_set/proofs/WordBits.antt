-- The bits of a word, taken from the lowest on.
use Rattle.std.proofs.Common.{◌≡◌, ◌≢◌, ℕ, ◌+◌, ◌-◌, ◌*◌, ◌%◌, ◌^◌, ◌<◌, ◌≤◌, inl, inr, bit_and}
use Rattle.std.proofs.Common.{refl, sym, ap, ◌∙◌, arith}
use Rattle.std.specs.Int.{bit_at, trailing_zeros}
use mir.Syntax.{w64}
use Rattle.std.proofs.lemmas.Nat.{and_le_l}
use Rattle.std.proofs.lemmas.Nat.Bits.{bit_at-trailing_zeros, bit_at_clear_same, bit_at_clear_other}
use Rattle.std.proofs.lemmas.Bool.{cases_lt, cases_eq}
use Rattle.rc_set.specs.Listed.{BitsLeft}

module _ (word left next place : ℕ) (some : 0 < left) (fits : left < 2 ^ 64)
    (is : place ≡ trailing_zeros w64 left) (bits : BitsLeft word left next) where
  place_is : (place < 64) × (bit_at left place ≡ 1) × ((i : ℕ) → i < place → bit_at left i ≡ 0)
  place_is = rw is (bit_at-trailing_zeros w64 left some fits)

  pub place_low : place < 64
  place_low = place_is.0

  pub place_ahead : next ≤ place
  place_ahead = elim (cases_lt place next) [
    | inl low ↦ absurd (omega (arith, bits.passed place low, place_is.1))
    | inr high ↦ high
  ]

  -- the lowest bit that is left is one of the word
  pub set_there : bit_at word place ≡ 1
  set_there = sym (bits.ahead place place_ahead place_low) ∙ place_is.1

  -- and below it none is
  pub none_before : (i : ℕ) → next ≤ i → i < place → bit_at word i ≡ 0
  none_before i from to =
      sym (bits.ahead i from (omega (arith, place_low))) ∙ place_is.2 i to

  cleared : ℕ
  cleared = bit_and left (2 ^ 64 - 1 - 1 * 2 ^ place % 2 ^ 64)

  cleared_same : bit_at cleared place ≡ 0
  unfolding cleared
  cleared_same = bit_at_clear_same w64 left place place_low

  cleared_other : (i : ℕ) → i < 64 → i ≢ place → bit_at cleared i ≡ bit_at left i
  unfolding cleared
  cleared_other i low ne = bit_at_clear_other w64 left place place_low i low ne

  less_bits : BitsLeft word cleared (place + 1)
  less_bits = record {
    within = omega (arith, place_low);
    passed = λ i low. elim (cases_eq i place) [
      | inl same ↦ ap (λ (k : ℕ). bit_at cleared k) same ∙ cleared_same
      | inr apart ↦ cleared_other i (omega (arith, place_low)) apart ∙ place_is.2 i (omega arith)
    ];
    ahead = λ i high low. cleared_other i low (λ same. omega arith)
        ∙ bits.ahead i (omega (arith, place_ahead)) low;
  }

  cleared_le : cleared ≤ left
  unfolding cleared
  cleared_le = and_le_l left (2 ^ 64 - 1 - 1 * 2 ^ place % 2 ^ 64)

  less_left : cleared < left
  less_left = elim (cases_eq cleared left) [
    | inl same ↦ absurd
        (omega (arith, cleared_same, ap (λ (n : ℕ). bit_at n place) same, place_is.1))
    | inr apart ↦ omega (arith, cleared_le)
  ]

-- what is left once that bit is cleared
pub next_bits : (word left next place : ℕ) → 0 < left → left < 2 ^ 64
    → place ≡ trailing_zeros w64 left → BitsLeft word left next
    → BitsLeft word (bit_and left (2 ^ 64 - 1 - 1 * 2 ^ place % 2 ^ 64)) (place + 1)
unfolding cleared
next_bits word left next place some fits is bits =
    less_bits word left next place some fits is bits

-- is less
pub left_falls : (word left next place : ℕ) → 0 < left → left < 2 ^ 64
    → place ≡ trailing_zeros w64 left → BitsLeft word left next
    → bit_and left (2 ^ 64 - 1 - 1 * 2 ^ place % 2 ^ 64) < left
unfolding cleared
left_falls word left next place some fits is bits =
    less_left word left next place some fits is bits

-- at first all bits are left
pub all_left : (word : ℕ) → BitsLeft word word 0
all_left word = record {
  within = omega arith;
  passed = λ i low. absurd (omega arith);
  ahead = λ i high low. refl;
}

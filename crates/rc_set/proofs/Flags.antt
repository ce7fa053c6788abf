-- The truth values of words are their bits, and sets with the same bits are equal.
use Rattle.std.proofs.Common.{◌≡◌, ◌≢◌, ℕ, ◌+◌, ◌*◌, ◌/◌, ◌%◌, ◌^◌, ◌<◌, ◌↔◌, inl, inr, Bool, true}
use Rattle.std.proofs.Common.{false, List, length, get_or, slice_index, slice_index_or, replicate}
use Rattle.std.proofs.Common.{sym, ap, ◌∙◌, subst, arith}
use Rattle.std.specs.Int.{bit_at}
use Rattle.std.proofs.lemmas.Nat.Bits.{bit_at-lt, bit_at-zero, same_from_bits_below}
use Rattle.std.proofs.lemmas.List.{get_or_past, get_or-replicate, length-replicate, ext_get_or}
use Rattle.std.proofs.lemmas.List.FromFn.{length-map-range_with_len, get_or-map-range_with_len}
use Rattle.std.proofs.lemmas.Bool.{cases_lt, cases_eq, ne_eqb}
use Rattle.rc_model.specs.Names.{Has}
use Rattle.rc_set.specs.Words.{has_bit, HasBit, flags_of, AreWords}
use Rattle.rc_model.proofs.SetMembers.{has_within}
use Rattle.rc_set.proofs.Bits.{bit_one, bit_of_word, bit_low}

-- the truth value of an id is its bit
pub flag_is : (bound : ℕ) (words : List ℕ) (s : ℕ) → s < bound
    → slice_index_or (flags_of bound words) s false ≡ has_bit words s
flag_is bound words s low =
    get_or-map-range_with_len (has_bit words) 0 bound s s false low (omega arith)

pub length_is : (bound : ℕ) (words : List ℕ) → length (flags_of bound words) ≡ bound
length_is bound words = length-map-range_with_len (has_bit words) 0 bound

-- a set of words has as many truth values as its bound says
pub bound_is : {bound : ℕ} {words : List ℕ} {set : List Bool} → AreWords bound words
    → flags_of bound words ≡ set → length set ≡ bound
bound_is {bound} {words} are view = ap length (sym view) ∙ length_is bound words

-- the bits of its words are what it has
pub bit_is : {bound : ℕ} {words now : List ℕ} {set : List Bool} → AreWords bound words
    → flags_of bound words ≡ set → now ≡ words → (s : ℕ) → HasBit now s ↔ Has set s
bit_is {bound} {words} {now} {set} are view same s = (
  λ bit.
      let here = subst (λ (ws : List ℕ). HasBit ws s) same bit in
      elim (cases_lt s bound) [
        | inl low ↦ subst (λ (flags : List Bool). Has flags s) view
            (flag_is bound words s low ∙ here)
        | inr high ↦ absurd (let bad : false ≡ true = sym (are.clear s high) ∙ here in cc)
      ],
  λ has.
      let low : s < bound = omega (arith, bound_is are view, has_within set s has) in
      let flag = subst (λ (flags : List Bool). Has flags s) (sym view) has in
      subst (λ (ws : List ℕ). HasBit ws s) (sym same) (sym (flag_is bound words s low) ∙ flag),
)

-- zeros have no bit set
pub none_set : (n s : ℕ) → has_bit (replicate n 0) s ≡ false
none_set n s =
    let zero_word : get_or (replicate n 0) (s / 64) 0 ≡ 0 = elim (cases_lt (s / 64) n) [
      | inl low ↦ get_or-replicate n (s / 64) 0 0 low
      | inr high ↦ get_or_past (replicate n 0) (s / 64) 0
          (omega (arith, length-replicate {A = ℕ} n 0))
    ] in
    let none = ap (λ (w : ℕ). bit_at w (s % 64)) zero_word ∙ bit_at-zero (s % 64) in
    ne_eqb _ 1 (λ one. omega (arith, none, one))

-- two numbers below 2 of which one is 1 where the other is
same_bits : (a b : ℕ) → a < 2 → b < 2 → (a ≡ 1 → b ≡ 1) → (b ≡ 1 → a ≡ 1) → a ≡ b
same_bits a b low other_low there back = elim (cases_eq a 1) [
  | inl one ↦ omega (arith, one, there one)
  | inr ne ↦ elim (cases_eq b 1) [
    | inl one ↦ omega (arith, one, back one)
    | inr other_ne ↦ omega arith
  ]
]

-- two lists of as many words with the same bits are the same
pub same_words : (words others : List ℕ) → length others ≡ length words
    → ((k : ℕ) → slice_index words k < 2 ^ 64) → ((k : ℕ) → slice_index others k < 2 ^ 64) →
    ((s : ℕ) → has_bit words s ≡ has_bit others s) → words ≡ others
same_words words others long fit other_fit each =
    ext_get_or 0 words others (sym long) (λ k within.
    same_from_bits_below 64 (slice_index words k) (slice_index others k) (fit k) (other_fit k)
    (λ i low.
    same_bits _ _ (bit_at-lt (slice_index words k) i) (bit_at-lt (slice_index others k) i)
    (λ one. (bit_of_word others k i low).0
    (sym (each (64 * k + i)) ∙ (bit_of_word words k i low).1 one))
    (λ one. (bit_of_word words k i low).0
    (each (64 * k + i) ∙ (bit_of_word others k i low).1 one))))

-- two sets are the same where their words have the same bits
pub same_flags : (bound : ℕ) (words others : List ℕ) → AreWords bound words → AreWords bound others
    →
    (flags_of bound words ≡ flags_of bound others) ↔ ((s : ℕ) → has_bit words s ≡ has_bit others s)
same_flags bound words others are other_are = (
  λ e s. elim (cases_lt s bound) [
    | inl low ↦ sym (flag_is bound words s low)
        ∙ ap (λ (flags : List Bool). slice_index_or flags s false) e ∙ flag_is bound others s low
    | inr high ↦ are.clear s high ∙ sym (other_are.clear s high)
  ],
  λ each. ext_get_or false (flags_of bound words) (flags_of bound others)
      (length_is bound words ∙ sym (length_is bound others)) (λ s within.
      let low : s < bound = omega (arith, within, length_is bound words) in
      flag_is bound words s low ∙ each s ∙ sym (flag_is bound others s low)),
)

-- words that are 0 are those with no bit set
pub zero_words : (words : List ℕ) → ((k : ℕ) → slice_index words k < 2 ^ 64)
    → ((k : ℕ) → k < length words → slice_index words k ≡ 0) ↔ ((s : ℕ) → HasBit words s → ⊥)
zero_words words fit = (
  λ zeros s has. let zero = zeros (s / 64) (omega (arith, bit_low words s has)) in
      omega (
        arith,
        (bit_one words s).0 has,
        ap (λ (w : ℕ). bit_at w (s % 64)) zero,
        bit_at-zero (s % 64),
      ),
  λ none k within. same_from_bits_below 64 (slice_index words k) 0 (fit k) (omega arith) (λ i low.
      let off : bit_at (slice_index words k) i ≢ 1 =
      λ one. none (64 * k + i) ((bit_of_word words k i low).1 one) in
      omega (arith, off, bit_at-lt (slice_index words k) i, bit_at-zero i)),
)

-- a set of zeros has no id
pub no_flag : (bound n : ℕ) (words : List ℕ) → words ≡ replicate n 0 → (s : ℕ)
    → Has (flags_of bound words) s → ⊥
no_flag bound n words zeros s has =
    let low : s < bound =
    omega (arith, length_is bound words, has_within (flags_of bound words) s has) in
    let set = sym (flag_is bound words s low) ∙ has in
    let off = ap (λ (ws : List ℕ). has_bit ws s) zeros ∙ none_set n s in
    let bad : false ≡ true = sym off ∙ set in cc

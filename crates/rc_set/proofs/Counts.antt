-- How many bits of words are set, counted word by word.
use Rattle.std.proofs.Common.{◌≡◌, ℕ, ◌+◌, ◌*◌, ◌/◌, ◌%◌, ◌^◌, ◌<◌, ◌≤◌, ◌-◌, inl, inr, Bool, false}
use Rattle.std.proofs.Common.{cond, List, map, slice_index, nat_eq, count_by, count_ones, zero, suc}
use Rattle.std.proofs.Common.{refl, sym, ap, ◌∙◌, arith}
use Rattle.std.specs.Int.{bit_at}
use Rattle.std.specs.List.{range_with_len}
use Rattle.std.proofs.lemmas.Nat.Bits.{bit_at_lowest, bit_at-suc, bit_at-lt}
use Rattle.std.proofs.Math.Nat.{pow-suc}
use Rattle.std.proofs.lemmas.Nat.{ones_le_self}
use Rattle.std.proofs.lemmas.List.FromFn.{sum_by-map-range_with_len_more, length-map-range_with_len}
use Rattle.std.proofs.lemmas.List.Sums.{sum_by-cons, count_by-le-length}
use Rattle.std.proofs.lemmas.Bool.{cases_eq, eq-eqb, ne_eqb}
use lib.Count.{ones_step}
use Rattle.rc_set.specs.Words.{has_bit, flags_of, AreWords}

-- how many of n numbers from a on pass a test
count_in : (ℕ → Bool) → ℕ → ℕ → ℕ
count_in p a n = count_by (λ flag. flag) (map p (range_with_len a n))

-- one number more, at the end and at the beginning
count_more : (p : ℕ → Bool) (a n : ℕ) → count_in p a (n + 1) ≡ count_in p a n + cond (p (a + n)) 1 0
unfolding count_in
count_more p a n = sum_by-map-range_with_len_more (λ flag. cond flag 1 0) p a n (a + n) refl

count_first : (p : ℕ → Bool) (a n : ℕ)
    → count_in p a (suc n) ≡ cond (p a) 1 0 + count_in p (a + 1) n
unfolding count_in
count_first p a n = sum_by-cons (λ flag. cond flag 1 0) (p a) (map p (range_with_len (a + 1) n))

-- n numbers and m more
count_both : (p : ℕ → Bool) (a n m : ℕ)
    → count_in p a (n + m) ≡ count_in p a n + count_in p (a + n) m
unfolding count_in
count_both p a n zero = let e : n + 0 ≡ n =
    omega arith in
    ap (λ (k : ℕ). count_in p a k) e
    ∙ (let none : count_in p a n ≡ count_in p a n + 0 = omega arith in none)
count_both p a n (suc m) =
    let more = count_more p a (n + m) in
    let last = count_more p (a + n) m in
    let e : n + suc m ≡ (n + m) + 1 = omega arith in
    let e_last : suc m ≡ m + 1 = omega arith in
    let same : a + (n + m) ≡ (a + n) + m = omega arith in
    let here = ap (λ (s : ℕ). cond {A = ℕ} (p s) 1 0) same in
    ap (λ (k : ℕ). count_in p a k) e
    ∙ (omega
    (arith, more, last, here, count_both p a n m, ap (λ (k : ℕ). count_in p (a + n) k) e_last))

-- none of m more numbers passes
count_none : (p : ℕ → Bool) (a n m : ℕ) → ((s : ℕ) → a + n ≤ s → p s ≡ false)
    → count_in p a (n + m) ≡ count_in p a n
count_none p a n zero none = let e : n + 0 ≡ n = omega arith in ap (λ (k : ℕ). count_in p a k) e
count_none p a n (suc m) none =
    let more = count_more p a (n + m) in
    let here = ap (λ (flag : Bool). cond {A = ℕ} flag 1 0) (none (a + (n + m)) (omega arith)) in
    let e : n + suc m ≡ (n + m) + 1 = omega arith in
    ap (λ (k : ℕ). count_in p a k) e ∙ omega (arith, more, here, count_none p a n m none)

-- what a bit adds
bit_value : (b : ℕ) → b < 2 → cond (nat_eq b 1) 1 0 ≡ b
bit_value b low = elim (cases_eq b 1) [
  | inl one ↦ ap (λ (flag : Bool). cond {A = ℕ} flag 1 0) (eq-eqb b 1 one) ∙ sym one
  | inr ne ↦ ap (λ (flag : Bool). cond {A = ℕ} flag 1 0) (ne_eqb b 1 ne)
      ∙ (let none : 0 ≡ b = omega arith in none)
]

-- the numbers from a on pass where the bits of a word of k bits are set: as many as its ones
count_word : (p : ℕ → Bool) (k a w : ℕ) → w < 2 ^ k
    → ((i : ℕ) → i < k → p (a + i) ≡ nat_eq (bit_at w i) 1) → count_in p a k ≡ count_ones w
unfolding count_in
count_word p zero a w fits bits = let none : 0 ≡ count_ones w =
    omega (arith, ones_le_self w) in none
count_word p (suc k) a w fits bits =
    let half : w / 2 < 2 ^ k = omega (arith, pow-suc 2 k) in
    let rest = count_word p k (a + 1) (w / 2) half (λ i low.
    let e : (a + 1) + i ≡ a + suc i = omega arith in
    ap p e ∙ bits (suc i) (omega arith) ∙ ap (λ (b : ℕ). nat_eq b 1) (bit_at-suc w i)) in
    let e : a + 0 ≡ a = omega arith in
    let here =
    ap (λ (flag : Bool). cond {A = ℕ} flag 1 0) (sym (ap p e) ∙ bits 0 (omega arith))
    ∙ bit_value (bit_at w 0) (bit_at-lt w 0) ∙ bit_at_lowest w in
    omega (arith, count_first p a k, rest, here, ones_step w)

-- how many truth values of words are true, one word more
pub counted_word : (words : List ℕ) (k : ℕ) → slice_index words k < 2 ^ 64 →
    count_by (λ flag. flag) (flags_of (64 * (k + 1)) words) ≡ count_by (λ flag. flag)
    (flags_of (64 * k) words) + count_ones (slice_index words k)
unfolding count_in
counted_word words k fits =
    let e : 64 * (k + 1) ≡ 64 * k + 64 = omega arith in
    let e_first : 0 + 64 * k ≡ 64 * k = omega arith in
    let word = count_word (has_bit words) 64 (64 * k) (slice_index words k) fits (λ i low.
    let at : (64 * k + i) / 64 ≡ k = omega arith in
    let place : (64 * k + i) % 64 ≡ i = omega arith in
    rw (at, place)) in
    ap (λ (n : ℕ). count_in (has_bit words) 0 n) e ∙ count_both (has_bit words) 0 (64 * k) 64
    ∙ ap (λ (n : ℕ). count_in (has_bit words) 0 (64 * k) + count_in (has_bit words) n 64)
    e_first ∙ ap (λ (n : ℕ). count_in (has_bit words) 0 (64 * k) + n) word

-- there are no more of them than ids
pub counted_at_most : (words : List ℕ) (n : ℕ) → count_by (λ flag. flag) (flags_of n words) ≤ n
counted_at_most words n =
    omega (
      arith,
      count_by-le-length (λ flag. flag) (flags_of n words),
      length-map-range_with_len (has_bit words) 0 n,
    )

-- no id from the bound on counts
pub counted_below : (bound n : ℕ) (words : List ℕ) → AreWords bound words → bound ≤ n
    → count_by (λ flag. flag) (flags_of n words) ≡ count_by (λ flag. flag) (flags_of bound words)
unfolding count_in
counted_below bound n words are le =
    let e : n ≡ bound + (n - bound) = omega arith in
    ap (λ (k : ℕ). count_in (has_bit words) 0 k) e
    ∙ count_none (has_bit words) 0 bound (n - bound) (λ s high. are.clear s (omega arith))

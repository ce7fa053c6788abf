-- Lists that are filled in part with a value.
use Rattle.std.proofs.Common.{◌≡◌, ◌∙◌, ℕ, ◌+◌, ◌-◌, ◌*◌, ◌^◌, ◌<◌, ◌≤◌, ◌⊎◌, inl, inr, List}
use Rattle.std.proofs.Common.{length, slice_index, slice_index_or, slice_set, refl, sym, subst}
use Rattle.std.proofs.Common.{arith, get_or-set_same, get_or-set_other}
use Rattle.std.specs.Int.{trailing_zeros}
use mir.Syntax.{w64}
use Rattle.std.proofs.lemmas.Nat.Bits.{bit_at-zero}
use Rattle.std.proofs.lemmas.Bool.{cases_lt, cases_eq}
use Rattle.std.proofs.lemmas.List.{length-set}
use Rattle.rc_set.specs.Words.{HasBit}
use Rattle.rc_set.specs.Listed.{BitsLeft}
use Rattle.rc_set.specs.Filled.{Fills}
use Rattle.rc_set.proofs.Nexts.{clear_word_bits}
use Rattle.rc_set.proofs.WordBits.{place_low, place_ahead, set_there, none_before}

-- nowhere
pub none_filled : {X : Type 0} (P : ℕ → Type 0) (list : List X) (value : X)
    → ((s : ℕ) → P s → ⊥) → Fills P list list value
none_filled P list value none = record {
  bound = refl;
  filled = λ s d low holds. absurd (none s holds);
  same = λ s d not. refl;
}

-- at one place more
pub one_filled : {X : Type 0} (P Q : ℕ → Type 0) (old mid : List X) (value : X) (id : ℕ)
    → Fills P old mid value → ((s : ℕ) → Q s → P s ⊎ (s ≡ id)) → ((s : ℕ) → P s → Q s) → Q id
    → id < length mid → Fills Q old (slice_set mid id value) value
one_filled P Q old mid value id fills from to here within = record {
  bound = length-set mid id value ∙ fills.bound;
  filled = λ s d low holds. elim (cases_eq s id) [
    | inl same ↦ subst (λ (t : ℕ). slice_index_or (slice_set mid id value) t d ≡ value) (sym same)
        (get_or-set_same mid id value d within)
    | inr apart ↦ elim (from s holds) [
      | inl before ↦ get_or-set_other mid id s value d apart ∙ fills.filled s d low before
      | inr same ↦ absurd (apart same)
    ]
  ];
  same = λ s d not.
      get_or-set_other mid id s value d (λ same. not (subst Q (sym same) here))
      ∙ fills.same s d (λ holds. not (to s holds));
}

-- a place that is not in the list is passed by
pub none_more : {X : Type 0} (P Q : ℕ → Type 0) (old mid : List X) (value : X) (id : ℕ)
    → Fills P old mid value → ((s : ℕ) → Q s → P s ⊎ (s ≡ id)) → ((s : ℕ) → P s → Q s)
    → length mid ≤ id → Fills Q old mid value
none_more P Q old mid value id fills from to past = record {
  bound = fills.bound;
  filled = λ s d low holds. elim (from s holds) [
    | inl before ↦ fills.filled s d low before
    | inr same ↦ absurd (omega (arith, low, past, same, fills.bound))
  ];
  same = λ s d not. fills.same s d (λ holds. not (to s holds));
}

-- the ids of one word below a bit that are not in a set
abbrev pub IsClearIn : List ℕ → ℕ → ℕ → ℕ → Type 0
IsClearIn words at next s = (64 * at ≤ s) × (s < 64 * at + next) × (HasBit words s → ⊥)

-- the list is filled for the bits of the word that are passed
pub record FillsWord {X : Type 0} (words : List ℕ) (at left next : ℕ) (old new : List X) (value : X)
    : Type 0 where
  pub bits : BitsLeft (2 ^ 64 - 1 - slice_index words at) left next
  pub fills : Fills (IsClearIn words at next) old new value

module _ (words : List ℕ) (at left next place : ℕ) (within : at < length words)
    (fit : slice_index words at < 2 ^ 64) (some : 0 < left) (fits : left < 2 ^ 64)
    (is : place ≡ trailing_zeros w64 left)
    (bits : BitsLeft (2 ^ 64 - 1 - slice_index words at) left next) where
  -- the next id of the word that is not in the set
  pub clear_there : IsClearIn words at (place + 1) (64 * at + place)
  clear_there =
      let low = place_low (2 ^ 64 - 1 - slice_index words at) left next place some fits is bits in
      let set = set_there (2 ^ 64 - 1 - slice_index words at) left next place some fits is bits in
      (omega arith, omega arith, ((clear_word_bits words at within fit place low).1 set).1)

  pub clear_more : (s : ℕ) → IsClearIn words at next s → IsClearIn words at (place + 1) s
  clear_more s (high, low, clear) =
      let ahead =
      place_ahead (2 ^ 64 - 1 - slice_index words at) left next place some fits is bits in
      (high, omega (arith, low, ahead), clear)

  pub clear_before : (s : ℕ) → IsClearIn words at (place + 1) s
      → IsClearIn words at next s ⊎ (s ≡ 64 * at + place)
  clear_before s (high, low, clear) =
      let short = place_low (2 ^ 64 - 1 - slice_index words at) left next place some fits is bits in
      elim (cases_lt s (64 * at + next)) [
        | inl before ↦ inl (high, before, clear)
        | inr behind ↦ elim (cases_eq s (64 * at + place)) [
          | inl same ↦ inr same
          | inr apart ↦
              let e : s ≡ 64 * at + (s - 64 * at) = omega (arith, high) in
              let off =
              none_before (2 ^ 64 - 1 - slice_index words at) left next place some fits is bits
              (s - 64 * at) (omega (arith, behind)) (omega (arith, low, apart, high)) in
              let near : s - 64 * at < 64 = omega (arith, low, short, high) in
              let on =
              (clear_word_bits words at within fit (s - 64 * at) near).0 (
                omega (arith, near, within),
                λ has. clear (subst (HasBit words) (sym e) has),
              ) in
              absurd (omega (arith, on, off))
        ]
      ]

-- the whole word is filled, of which nothing is left
pub word_filled : {X : Type 0} (words : List ℕ) (at next : ℕ) (old new : List X) (value : X)
    → at < length words → slice_index words at < 2 ^ 64
    → FillsWord words at 0 next old new value
    → Fills (λ s. (64 * at ≤ s) × (s < 64 * (at + 1)) × (HasBit words s → ⊥)) old new value
word_filled words at next old new value within fit so_far = record {
  bound = so_far.fills.bound;
  filled = λ s d low holds. elim (cases_lt s (64 * at + next)) [
    | inl passed ↦ so_far.fills.filled s d low (holds.0, passed, holds.2)
    | inr behind ↦
        let short : s - 64 * at < 64 = omega (arith, holds.0, holds.1) in
        let e : s ≡ 64 * at + (s - 64 * at) = omega (arith, holds.0) in
        let on =
        (clear_word_bits words at within fit (s - 64 * at) short).0
        (omega (arith, holds.1, within), λ has. holds.2 (subst (HasBit words) (sym e) has)) in
        let off = so_far.bits.ahead (s - 64 * at) (omega (arith, behind)) short in
        let zero = bit_at-zero (s - 64 * at) in
        absurd (omega (arith, on, off, zero))
  ];
  same = λ s d not. so_far.fills.same s d (λ passed.
      let within = so_far.bits.within in
      not (passed.0, omega (arith, passed.1, within), passed.2));
}

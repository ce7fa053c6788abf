-- Bits of words: which are set after one is written, and after words are joined or cleared.
use Rattle.std.proofs.Common.{◌≡◌, ◌≢◌, ℕ, ◌+◌, ◌-◌, ◌*◌, ◌/◌, ◌%◌, ◌^◌, ◌<◌, ◌⊎◌, ◌↔◌, inl, inr}
use Rattle.std.proofs.Common.{List, length, slice_index, slice_set, nat_eq, bit_or, bit_and, refl}
use Rattle.std.proofs.Common.{sym, ap, ◌∙◌, subst, arith, get_or-set_same, get_or-set_other}
use Rattle.std.specs.Int.{bit_at}
use mir.Syntax.{w64}
use Rattle.std.proofs.lemmas.Nat.Bits.{bit_at_or, bit_at_and, bit_at_not, bit_at-lt, bit_at-zero}
use Rattle.std.proofs.lemmas.Nat.Bits.{bit_at_set_same, bit_at_set_other, bit_at_clear_same}
use Rattle.std.proofs.lemmas.Nat.Bits.{bit_at_clear_other}
use Rattle.std.proofs.lemmas.List.{get_or_past}
use Rattle.std.proofs.lemmas.Bool.{cases_eq, cases_lt, eqb-true, eq-eqb}
use Rattle.rc_set.specs.Words.{has_bit, HasBit}

-- a bit is set where its value is 1
pub bit_one : (words : List ℕ) (s : ℕ)
    → HasBit words s ↔ (bit_at (slice_index words (s / 64)) (s % 64) ≡ 1)
bit_one words s = (λ h. eqb-true _ 1 h, λ h. eq-eqb _ 1 h)

-- two lists of words whose words agree at an id's bit agree on it
pub same_bit : (words others : List ℕ) (s : ℕ)
    → bit_at (slice_index words (s / 64)) (s % 64) ≡ bit_at (slice_index others (s / 64)) (s % 64)
    → has_bit words s ≡ has_bit others s
same_bit words others s e = ap (λ (b : ℕ). nat_eq b 1) e

-- a write into another word leaves a bit alone
bit_elsewhere : (words : List ℕ) (k v s : ℕ) → s / 64 ≢ k
    → has_bit (slice_set words k v) s ≡ has_bit words s
bit_elsewhere words k v s ne =
    same_bit (slice_set words k v) words s
    (ap (λ (w : ℕ). bit_at w (s % 64)) (get_or-set_other words k (s / 64) v 0 ne))

-- a write into its word
bit_there : (words : List ℕ) (k v s : ℕ) → s / 64 ≡ k → k < length words
    → bit_at (slice_index (slice_set words k v) (s / 64)) (s % 64) ≡ bit_at v (s % 64)
bit_there words k v s e within =
    ap (λ (w : ℕ). bit_at w (s % 64))
    (subst (λ (j : ℕ). slice_index (slice_set words k v) j ≡ v) (sym e)
    (get_or-set_same words k v 0 within))

-- ids in one word that differ stand at different bits of it
other_place : (s id : ℕ) → s ≢ id → s / 64 ≡ id / 64 → s % 64 ≢ id % 64
other_place s id ne e same = ne (omega arith)

module _ (words : List ℕ) (id : ℕ) (within : id / 64 < length words) where
  with_bit : List ℕ
  with_bit =
      slice_set words (id / 64) (bit_or (slice_index words (id / 64)) (1 * 2 ^ (id % 64) % 2 ^ 64))

  set_here : HasBit with_bit id
  unfolding with_bit
  set_here =
      (bit_one with_bit id).1
      (bit_there words (id / 64) _ id refl within
      ∙ bit_at_set_same w64 (slice_index words (id / 64)) (id % 64) (omega arith))

  set_other : (s : ℕ) → s ≢ id → has_bit with_bit s ≡ has_bit words s
  unfolding with_bit
  set_other s ne = elim (cases_eq (s / 64) (id / 64)) [
    | inl same ↦ same_bit with_bit words s
        (bit_there words (id / 64) _ s same within
        ∙ bit_at_set_other w64 (slice_index words (id / 64)) (id % 64) (omega arith) (s % 64)
        (other_place s id ne same)
        ∙ ap (λ (k : ℕ). bit_at (slice_index words k) (s % 64)) (sym same))
    | inr apart ↦ bit_elsewhere words (id / 64) _ s apart
  ]

-- a word with one bit more has what it had, and that
pub set_bits : (words : List ℕ) (id : ℕ) → id / 64 < length words → (s : ℕ)
    → HasBit
    (slice_set words (id / 64) (bit_or (slice_index words (id / 64)) (1 * 2 ^ (id % 64) % 2 ^ 64)))
    s ↔ (HasBit words s ⊎ (s ≡ id))
unfolding with_bit
set_bits words id within s = elim (cases_eq s id) [
  | inl same ↦ (
    λ _. inr same,
    λ _. subst (HasBit (with_bit words id within)) (sym same) (set_here words id within),
  )
  | inr apart ↦ (
    λ h. inl (sym (set_other words id within s apart) ∙ h),
    λ h. elim h [
      | inl had ↦ set_other words id within s apart
          ∙ had
      | inr same ↦ absurd (apart same)
    ],
  )
]

module _ (words : List ℕ) (id : ℕ) (within : id / 64 < length words) where
  without_bit : List ℕ
  without_bit =
      slice_set words (id / 64)
      (bit_and (slice_index words (id / 64)) (2 ^ 64 - 1 - 1 * 2 ^ (id % 64) % 2 ^ 64))

  cleared_here : HasBit without_bit id → ⊥
  unfolding without_bit
  cleared_here has = let one = (bit_one without_bit id).0 has in let none =
      bit_there words (id / 64) _ id refl within
      ∙ bit_at_clear_same w64 (slice_index words (id / 64)) (id % 64) (omega arith) in
      omega (arith, one, none)

  cleared_other : (s : ℕ) → s ≢ id → has_bit without_bit s ≡ has_bit words s
  unfolding without_bit
  cleared_other s ne = elim (cases_eq (s / 64) (id / 64)) [
    | inl same ↦ same_bit without_bit words s
        (bit_there words (id / 64) _ s same within
        ∙ bit_at_clear_other w64 (slice_index words (id / 64)) (id % 64) (omega arith) (s % 64)
        (omega arith) (other_place s id ne same)
        ∙ ap (λ (k : ℕ). bit_at (slice_index words k) (s % 64)) (sym same))
    | inr apart ↦ bit_elsewhere words (id / 64) _ s apart
  ]

-- a word with one bit less has what it had, but that
pub cleared_bits : (words : List ℕ) (id : ℕ) → id / 64 < length words → (s : ℕ)
    → HasBit
    (slice_set words (id / 64)
    (bit_and (slice_index words (id / 64)) (2 ^ 64 - 1 - 1 * 2 ^ (id % 64) % 2 ^ 64))) s
    ↔ (HasBit words s × (s ≢ id))
unfolding without_bit
cleared_bits words id within s = elim (cases_eq s id) [
  | inl same ↦ (
    λ h. absurd
        (cleared_here words id within (subst (HasBit (without_bit words id within)) same h)),
    λ h. absurd (h.1 same),
  )
  | inr apart ↦ (
    λ h. (sym (cleared_other words id within s apart) ∙ h, apart),
    λ h. cleared_other words id within s apart ∙ h.0,
  )
]

-- a bit of `a | b`
or_one : (a b i : ℕ) → (bit_at (bit_or a b) i ≡ 1) ↔ ((bit_at a i ≡ 1) ⊎ (bit_at b i ≡ 1))
or_one a b i = (
  λ one. elim (cases_eq (bit_at a i) 1) [
    | inl first ↦ inl first
    | inr ne ↦ inr (omega (arith, one, bit_at_or a b i, bit_at-lt a i, bit_at-lt b i))
  ],
  λ h. elim h [
    | inl first ↦ omega (arith, first, bit_at_or a b i, bit_at-lt a i, bit_at-lt b i)
    | inr second ↦ omega (arith, second, bit_at_or a b i, bit_at-lt a i, bit_at-lt b i)
  ],
)

-- a bit of `a & !b`
pub and_not_one : (a b i : ℕ) → b < 2 ^ 64 → i < 64
    → (bit_at (bit_and a (2 ^ 64 - 1 - b)) i ≡ 1) ↔ ((bit_at a i ≡ 1) × (bit_at b i ≢ 1))
and_not_one a b i fits low =
    let turned = bit_at_not w64 b i fits low in
    let both = bit_at_and a (2 ^ 64 - 1 - b) i in (
      λ one. (
        omega (arith, one, turned, both, bit_at-lt a i, bit_at-lt b i),
        λ set. omega (arith, set, one, turned, both),
      ),
      λ h. let ne = h.1 in omega (arith, h.0, ne, turned, both, bit_at-lt a i, bit_at-lt b i),
    )

-- joined word by word
pub joined_bits : (old others new : List ℕ)
    → ((k : ℕ) → slice_index new k ≡ bit_or (slice_index old k) (slice_index others k)) → (s : ℕ)
    → HasBit new s ↔ (HasBit old s ⊎ HasBit others s)
joined_bits old others new each s =
    let e = ap (λ (w : ℕ). bit_at w (s % 64)) (each (s / 64)) in
    let one = or_one (slice_index old (s / 64)) (slice_index others (s / 64)) (s % 64) in (
      λ h. elim (one.0 (sym e ∙ (bit_one new s).0 h)) [
        | inl first ↦ inl ((bit_one old s).1 first)
        | inr second ↦ inr ((bit_one others s).1 second)
      ],
      λ h. (bit_one new s).1
          (e ∙ one.1
          (elim h [
            | inl first ↦ inl ((bit_one old s).0 first)
            | inr second ↦ inr ((bit_one others s).0 second)
          ])),
    )

-- cleared word by word
pub left_bits : (old others new : List ℕ) → ((k : ℕ) → slice_index others k < 2 ^ 64)
    → ((k : ℕ)
    → slice_index new k ≡ bit_and (slice_index old k) (2 ^ 64 - 1 - slice_index others k)) → (s : ℕ)
    → HasBit new s ↔ (HasBit old s × (HasBit others s → ⊥))
left_bits old others new fit each s =
    let e = ap (λ (w : ℕ). bit_at w (s % 64)) (each (s / 64)) in
    let one =
    and_not_one (slice_index old (s / 64)) (slice_index others (s / 64)) (s % 64) (fit (s / 64))
    (omega arith) in (
      λ h. let both =
          one.0 (sym e ∙ (bit_one new s).0 h) in
          ((bit_one old s).1 both.0, λ has. both.1 ((bit_one others s).0 has)),
      λ h. (bit_one new s).1
          (e ∙ one.1 ((bit_one old s).0 h.0, λ set. h.1 ((bit_one others s).1 set))),
    )

-- no bit is set past the words
pub bit_low : (words : List ℕ) (s : ℕ) → HasBit words s → s < 64 * length words
bit_low words s has = elim (cases_lt s (64 * length words)) [
  | inl low ↦ low
  | inr high ↦ (
      let none =
      ap (λ (w : ℕ). bit_at w (s % 64)) (get_or_past words (s / 64) 0 (omega arith))
      ∙ bit_at-zero (s % 64) in
      absurd (omega (arith, none, (bit_one words s).0 has))
      )
]

-- the id of a bit of a word
pub bit_of_word : (words : List ℕ) (k i : ℕ) → i < 64
    → HasBit words (64 * k + i) ↔ (bit_at (slice_index words k) i ≡ 1)
bit_of_word words k i low =
    let word : (64 * k + i) / 64 ≡ k = omega arith in
    let place : (64 * k + i) % 64 ≡ i = omega arith in
    let e : bit_at (slice_index words ((64 * k + i) / 64)) ((64 * k + i) % 64) ≡ bit_at
    (slice_index words k) i = rw (word, place) in (
      λ h. sym e ∙ (bit_one words (64 * k + i)).0 h,
      λ one. (bit_one words (64 * k + i)).1 (e ∙ one),
    )

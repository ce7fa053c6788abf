-- The ids of one word, listed by taking its lowest bit until none is left.
use Rattle.std.proofs.Common.{◌≡◌, ℕ, ◌+◌, ◌-◌, ◌*◌, ◌%◌, ◌^◌, ◌<◌, ◌≤◌, List, [], ◌∷◌, ◌++◌}
use Rattle.std.proofs.Common.{slice_index, bit_and, sym, ◌∙◌, subst, arith}
use Rattle.std.specs.Int.{bit_at, trailing_zeros}
use mir.Syntax.{w64}
use Rattle.std.proofs.lemmas.Nat.Bits.{bit_at-zero}
use Rattle.rc_set.specs.Words.{HasBit}
use Rattle.rc_set.specs.Listed.{ListsBelow, ListsWord}
use Rattle.rc_set.proofs.Bits.{bit_of_word}
use Rattle.rc_set.proofs.Listing.{one_listed, none_between}
use Rattle.rc_set.proofs.WordBits.{place_low, place_ahead, set_there, none_before, next_bits}
use Rattle.rc_set.proofs.WordBits.{all_left}

-- ids of a word between two of its bits, of which none is set
none_listed_between : (words : List ℕ) (at from to : ℕ) (ids : List ℕ) → from ≤ to → to ≤ 64
    → ListsBelow (HasBit words) (64 * at + from) ids →
    ((i : ℕ) → from ≤ i → i < to → bit_at (slice_index words at) i ≡ 0)
    → ListsBelow (HasBit words) (64 * at + to) ids
none_listed_between words at from to ids further short listed none =
    none_between (HasBit words) (64 * at + from) (64 * at + to) ids listed (omega arith)
    (λ s high low has.
    let e : s ≡ 64 * at + (s - 64 * at) = omega arith in
    let one = (bit_of_word words at (s - 64 * at) (omega arith)).0 (subst (HasBit words) e has) in
    let zero = none (s - 64 * at) (omega arith) (omega arith) in
    omega (arith, one, zero))

-- the lowest bit that is left is listed and cleared
pub word_more : (words : List ℕ) (at left : ℕ) (ids : List ℕ) (next : ℕ) → 0 < left → left < 2 ^ 64
    → ListsWord words at left ids next → (place : ℕ) → place ≡ trailing_zeros w64 left
    → ListsWord words at (bit_and left (2 ^ 64 - 1 - 1 * 2 ^ place % 2 ^ 64))
    (ids ++ (64 * at + place) ∷ []) (place + 1)
word_more words at left ids next some fits lists place is =
    let word = slice_index words at in
    let low = place_low word left next place some fits is lists.bits in
    let up : ListsBelow (HasBit words) (64 * at + place) ids =
    none_listed_between words at next place ids
    (place_ahead word left next place some fits is lists.bits) (omega (arith, low)) lists.listed
    (none_before word left next place some fits is lists.bits) in
    let set : HasBit words (64 * at + place) =
    (bit_of_word words at place low).1 (set_there word left next place some fits is lists.bits) in
    let e : (64 * at + place) + 1 ≡ 64 * at + (place + 1) = omega arith in
    record {
      bits = next_bits word left next place some fits is lists.bits;
      listed =
          subst (λ (bound : ℕ). ListsBelow (HasBit words) bound (ids ++ (64 * at + place) ∷ [])) e
          (one_listed (HasBit words) (64 * at + place) ids up set);
    }

-- a word begins with all its bits left
pub word_begins : (words : List ℕ) (at : ℕ) (ids : List ℕ) → ListsBelow (HasBit words) (64 * at) ids
    → ListsWord words at (slice_index words at) ids 0
word_begins words at ids listed = record {
  bits = all_left (slice_index words at);
  listed = let e : 64 * at ≡ 64 * at + 0 =
      omega arith in subst (λ (bound : ℕ). ListsBelow (HasBit words) bound ids) e listed;
}

-- and ends with none left
pub word_ends : (words : List ℕ) (at : ℕ) (ids : List ℕ) (next : ℕ) → ListsWord words at 0 ids next
    → ListsBelow (HasBit words) (64 * (at + 1)) ids
word_ends words at ids next lists =
    let e : 64 * at + 64 ≡ 64 * (at + 1) = omega arith in
    subst (λ (bound : ℕ). ListsBelow (HasBit words) bound ids) e
    (none_listed_between words at next 64 ids lists.bits.within (omega arith) lists.listed
    (λ i from to. sym (lists.bits.ahead i from to) ∙ bit_at-zero i))

-- The ids of a set in ascending order, as they are listed word by word.
use Rattle.std.specs.Prelude.{◌≡◌, ℕ, ◌+◌, ◌*◌, ◌<◌, ◌≤◌, ◌↔◌, List, Contains, All, slice_index}
use Rattle.std.specs.Int.{bit_at}
use Rattle.rc_model.specs.Names.{IsAscending}
use Rattle.rc_set.specs.Words.{HasBit}

-- the ids below a bound of which a fact holds, ascending
pub record ListsBelow (P : ℕ → Type 0) (bound : ℕ) (ids : List ℕ) : Type 0 where
  pub ascending : IsAscending ids
  pub below : All (λ s. s < bound) ids
  pub same : (s : ℕ) → Contains ids s ↔ (P s × (s < bound))

-- of a word the bits below `next` are passed, and what is left of it has the others
pub record BitsLeft (word left next : ℕ) : Type 0 where
  pub within : next ≤ 64
  pub passed : (i : ℕ) → i < next → bit_at left i ≡ 0
  pub ahead : (i : ℕ) → next ≤ i → i < 64 → bit_at left i ≡ bit_at word i

-- the ids of the words before this one are listed, and of this word those at its bits that are
-- passed
pub record ListsWord (words : List ℕ) (at left : ℕ) (ids : List ℕ) (next : ℕ) : Type 0 where
  pub bits : BitsLeft (slice_index words at) left next
  pub listed : ListsBelow (HasBit words) (64 * at + next) ids

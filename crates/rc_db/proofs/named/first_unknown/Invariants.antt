use Rattle.std.proofs.Common.{◌≡◌, ℕ, ◌<◌, slice_get, Some, map, List}
use Rattle.std.specs.String.{string_bytes}
use Rattle.rc_model.specs.Database.{IsKnown}
use Rattle.rc_db.proofs.named.first_unknown.Given as goal

-- the words passed are names
abbrev pub invariant-loop-place : goal.invariant-loop-place
invariant-loop-place l = (k : ℕ) → (word : List ℕ) → k < l.place
    → slice_get (map string_bytes l.words) k ≡ Some word → IsKnown l.names l.table word

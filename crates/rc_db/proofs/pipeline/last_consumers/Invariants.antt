use Rattle.std.proofs.Common.{◌≡◌, ◌<◌, ℕ, length, slice_index, slice_get, Some}
use Rattle.rc_db.specs.Pipeline.{IsLastConsumer}
use Rattle.rc_db.proofs.pipeline.last_consumers.Given as goal

-- where the pipelines of those passed end
abbrev pub invariant-loop-s : goal.invariant-loop-s
invariant-loop-s l = record {
  bound : length l.ends.items ≡ length l.db.names;
  ends : (k s : ℕ) → k < l.s-index → slice_get l.order k ≡ Some s
      → IsLastConsumer l.db s (slice_index l.ends.items s);
}

use Rattle.std.proofs.Common.{◌≡◌, ◌<◌, ℕ, length, slice_index}
use Rattle.rc_core.proofs.ready.places_of.Given as goal

-- the places of the services so far are written down
abbrev pub invariant-loop-place : goal.invariant-loop-place
invariant-loop-place l = record {
  bound : length l.places.items ≡ l.services;
  placed : (k : ℕ) → k < l.place → slice_index l.places.items (slice_index l.queue k) ≡ k;
}

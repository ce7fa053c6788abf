use Rattle.std.proofs.Common.{◌≡◌, ◌<◌, ℕ, [], length, slice_index_or}
use Rattle.rc_model.specs.Names.{Has}
use Rattle.rc_model.specs.Graph.{Needs}
use Rattle.rc_compile.specs.Rows.{rows}
use Rattle.rc_compile.proofs.Needing.{Gained}
use Rattle.rc_compile.proofs.needs.need_bundles.Given as goal

-- the sets so far are in
abbrev pub invariant-loop-s : goal.invariant-loop-s
invariant-loop-s l = record {
  bound : length l.draft ≡ length l.fn.draft;
  pairs : Gained (Needs l.fn.draft)
      (λ s t. (s < l.s) × ((b : ℕ) × Needs (rows l.lists) s b × Has (slice_index_or l.sets b []) t))
      (Needs l.draft);
}

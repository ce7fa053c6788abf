use Rattle.std.proofs.Common.{◌≡◌, [], length, take, slice_index_or}
use Rattle.rc_model.specs.Names.{Has}
use Rattle.rc_model.specs.Graph.{Needs}
use Rattle.rc_compile.proofs.Needing.{Gained, Beside}
use Rattle.rc_compile.proofs.needs.need_sets.Given as goal

-- the sets so far are in
abbrev pub invariant-loop-b : goal.invariant-loop-b
invariant-loop-b l = record {
  bound : length l.draft ≡ length l.fn.draft;
  pairs : Gained (Needs l.fn.draft)
      (Beside (λ b t. Has (slice_index_or l.sets b []) t) l.service (take l.b-index l.list))
      (Needs l.draft);
}

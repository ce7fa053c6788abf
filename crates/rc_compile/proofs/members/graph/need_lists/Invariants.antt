use Rattle.std.proofs.Common.{◌≡◌, ◌<◌, ◌⊎◌, ◌↔◌, ℕ, length}
use Rattle.rc_model.specs.Graph.{Needs}
use Rattle.rc_compile.specs.Rows.{rows}
use Rattle.rc_compile.proofs.members.graph.need_lists.Given as goal

-- the pairs of the lists passed
abbrev pub invariant-loop-s : goal.invariant-loop-s
invariant-loop-s l = record {
  bound : length l.draft ≡ length l.fn.draft;
  pairs : (a b : ℕ)
      → Needs l.draft a b ↔ (Needs l.fn.draft a b ⊎ ((a < l.s) × Needs (rows l.lists) a b));
}

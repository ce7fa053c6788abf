use Rattle.std.proofs.Common.{◌≡◌, ◌⊎◌, ◌↔◌, ℕ, length, take, Contains}
use Rattle.rc_model.specs.Graph.{Needs}
use Rattle.rc_compile.proofs.members.graph.need_all.Given as goal

-- those passed are needed
abbrev pub invariant-loop-t : goal.invariant-loop-t
invariant-loop-t l = record {
  bound : length l.draft ≡ length l.fn.draft;
  pairs : (s t : ℕ)
      → Needs l.draft s t
      ↔ (Needs l.fn.draft s t ⊎ ((s ≡ l.id) × Contains (take l.t-index l.list) t));
}

use Rattle.std.proofs.Common.{◌≡◌, ◌<◌, ℕ, [], length, slice_index_or}
use Rattle.rc_model.specs.Names.{Holds}
use Rattle.rc_model.specs.Graph.{Needs}
use Rattle.rc_compile.specs.Rows.{rows}
use Rattle.rc_compile.specs.Joining.{AllWithin}
use Rattle.rc_compile.proofs.members.sets.sets_of.Given as goal

-- the sets of the lists passed
abbrev pub invariant-loop-s : goal.invariant-loop-s
invariant-loop-s l = record {
  few : length l.sets.items ≡ l.s;
  bounds : AllWithin l.bound l.sets.items;
  sets : (s : ℕ) → s < l.s → Holds (slice_index_or l.sets.items s []) (Needs (rows l.lists) s);
}

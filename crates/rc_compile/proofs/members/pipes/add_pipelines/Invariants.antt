use Rattle.std.proofs.Common.{◌≡◌, ℕ, List, Some, length, map, take, slice_get}
use Rattle.rc_compile.specs.Rows.{rows}
use Rattle.rc_source.specs.Said.{meaning_of}
use Rattle.rc_compile.specs.Joining.{AllWithin}
use Rattle.rc_compile.specs.Sets.{HasPiped}
use Rattle.rc_compile.proofs.SetLists.{Gain}
use Rattle.rc_compile.proofs.members.pipes.add_pipelines.Given as goal

-- what the pipelines of the definitions passed hold is in
abbrev pub invariant-loop-definition : goal.invariant-loop-definition
invariant-loop-definition l = record {
  few : length l.sets ≡ length l.fn.sets;
  bounds : AllWithin (length l.services) l.sets;
  sets : Gain (λ b s. (n : List ℕ) × (slice_get l.bundles b ≡ Some n)
      × HasPiped (map meaning_of (take l.definition-index l.definitions)) l.services
      (rows l.readers) n s) l.fn.sets l.sets;
}

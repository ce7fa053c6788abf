use Rattle.std.proofs.Common.{◌≡◌, take, All}
use Rattle.rc_update.specs.Conversions.{conversions_of}
use Rattle.rc_historytext.specs.Text.{IsRename}
use Rattle.rc_historytext.specs.Updating.{renames_of}
use Rattle.rc_historytext.proofs.updating.renames_of.Given as goal

-- the renames so far, each of names
abbrev pub invariant-loop-one : goal.invariant-loop-one
invariant-loop-one l = record {
  so_far : l.renames.items ≡ renames_of (conversions_of (take l.one-index l.list));
  each : All IsRename l.renames.items;
}

use Rattle.std.proofs.Common.{◌≡◌, length, take, All, Contains}
use Rattle.rc_model.specs.Names.{Holds}
use Rattle.rc_dbtext.specs.Parts.{IsNamed}
use Rattle.rc_dbtext.proofs.bundles.known_set.Given as goal

-- the texts so far are names, and the set has what they name
abbrev pub invariant-loop-text : goal.invariant-loop-text
invariant-loop-text l = record {
  bound : length l.set ≡ length l.names;
  members : Holds l.set (IsNamed l.names (take l.text-index l.texts));
  known : All (Contains l.names) (take l.text-index l.texts);
}

use Rattle.std.proofs.Common.{◌≡◌, length, map, take}
use Rattle.std.specs.String.{string_bytes}
use Rattle.rc_model.specs.Names.{Holds}
use Rattle.rc_model.specs.Database.{Selected}
use Rattle.rc_db.proofs.named.set_of.Given as goal

-- the set has what the words passed stand for
abbrev pub invariant-loop-word : goal.invariant-loop-word
invariant-loop-word l = record {
  bound : length l.set ≡ length l.names;
  members : Holds l.set (Selected l.names l.table (take l.word-index (map string_bytes l.words)));
}

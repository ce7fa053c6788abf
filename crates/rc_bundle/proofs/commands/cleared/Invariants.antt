use Rattle.std.proofs.Common.{take, map, string_bytes}
use Rattle.rc_model.specs.Line.{Removes}
use Rattle.rc_bundle.proofs.commands.cleared.Given as goal

-- the names before this one are removed
abbrev pub invariant-loop-name : goal.invariant-loop-name
invariant-loop-name l = Removes l.table (take l.name-index (map string_bytes l.names)) l.new

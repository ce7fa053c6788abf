use Rattle.std.proofs.Common.{◌≡◌, ◌++◌, All, map, string_bytes}
use Rattle.rc_model.specs.Names.{IsName}
use Rattle.rc_source.proofs.sets.names.Given as goal

abbrev pub invariant-loop-text : goal.invariant-loop-text
invariant-loop-text l =
    (l.names.items ++ map string_bytes l.text-iterator ≡ map string_bytes l.set.keys)
    × All IsName l.names.items

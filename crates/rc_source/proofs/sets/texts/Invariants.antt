use Rattle.std.proofs.Common.{◌≡◌, ◌++◌, map, string_bytes}
use Rattle.rc_source.proofs.sets.texts.Given as goal

abbrev pub invariant-loop-text : goal.invariant-loop-text
invariant-loop-text l =
    map string_bytes l.texts.items ++ map string_bytes l.text-iterator ≡ map string_bytes l.set.keys

use Rattle.std.proofs.Common.{ℕ, List, ◌↔◌, ◌⊎◌, Contains, map, take, string_bytes}
use Rattle.rc_source.proofs.sets.add_names.Given as goal

abbrev pub invariant-loop-name : goal.invariant-loop-name
invariant-loop-name l = (text : List ℕ) → Contains (map string_bytes l.set.keys) text
    ↔ (Contains (map string_bytes l.initial.set.keys) text
    ⊎ Contains (take l.name-index l.names) text)

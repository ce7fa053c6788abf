use Rattle.std.proofs.Common.{◌≡◌, ◌++◌, map, string_bytes}
use Rattle.std.specs.BTreeMap.{keys}
use Rattle.std.specs.List.{filter_map}
use Rattle.rc_source.specs.Tree.{next_name}
use Rattle.rc_source.proofs.memory_tree.next_names.Given as goal

abbrev pub invariant-loop-path : goal.invariant-loop-path
invariant-loop-path l =
    map string_bytes l.names.items ++ filter_map (next_name l.beginning)
    (map string_bytes l.path-iterator) ≡ filter_map (next_name l.beginning)
    (map string_bytes (keys l.files))

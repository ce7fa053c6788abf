use Rattle.std.proofs.Common.{◌≡◌, All, map, take, string_bytes}
use Rattle.rc_model.specs.Names.{IsName}
use Rattle.rc_source.proofs.folder.names_from.Given as goal

abbrev pub invariant-loop-text : goal.invariant-loop-text
invariant-loop-text l =
    (l.names.items ≡ take l.text-index (map string_bytes l.texts)) × All IsName l.names.items

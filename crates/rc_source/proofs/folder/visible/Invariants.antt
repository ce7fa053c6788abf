use Rattle.std.proofs.Common.{◌≡◌, ◌↔◌, ℕ, List, false, Contains, map, take, string_bytes}
use Rattle.rc_source.specs.Kinds.{is_hidden}
use Rattle.rc_source.proofs.folder.visible.Given as goal

abbrev pub invariant-loop-name : goal.invariant-loop-name
invariant-loop-name l = (text : List ℕ) → Contains (map string_bytes l.seen.keys) text
    ↔ (Contains (take l.name-index (map string_bytes l.names)) text × (is_hidden text ≡ false))

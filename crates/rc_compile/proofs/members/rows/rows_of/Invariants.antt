use Rattle.std.proofs.Common.{map, take}
use Rattle.rc_compile.specs.Rows.{rows}
use Rattle.rc_source.specs.Said.{meaning_of}
use Rattle.rc_compile.specs.Mirror.{HasListed, Mirrors}
use Rattle.rc_compile.proofs.members.rows.rows_of.Given as goal

-- what the definitions passed list is in
abbrev pub invariant-loop-definition : goal.invariant-loop-definition
invariant-loop-definition l =
    Mirrors (HasListed l.which (map meaning_of (take l.definition-index l.definitions))) l.from l.to
    (rows l.lists.items)

use Rattle.std.proofs.Common.{◌≡◌, ◌++◌, take}
use Rattle.std.specs.List.{join_with_byte}
use Rattle.rc_render.specs.Names.{names_in}
use Rattle.rc_render.proofs.NameLemmas.{is_none}
use Rattle.rc_render.proofs.journal.add_members.Given as goal

-- the names so far
abbrev pub invariant-loop-id : goal.invariant-loop-id
invariant-loop-id l =
    (l.text.items ≡ l.fn.text.items ++ join_with_byte 44
    (names_in (take l.id l.names) (take l.id l.set)))
    × (l.is_first ≡ is_none (names_in (take l.id l.names) (take l.id l.set)))

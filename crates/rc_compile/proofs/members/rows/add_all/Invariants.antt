use Rattle.std.proofs.Common.{take}
use Rattle.rc_compile.proofs.Listing.{Puts}
use Rattle.rc_compile.proofs.members.rows.add_all.Given as goal

-- the places of the names passed are in
abbrev pub invariant-loop-name : goal.invariant-loop-name
invariant-loop-name l = Puts l.to l.fn.ids.items (take l.name-index l.names) l.ids.items

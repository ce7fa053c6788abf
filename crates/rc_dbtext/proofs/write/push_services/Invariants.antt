use Rattle.std.proofs.Common.{◌≡◌, ◌∷◌, ◌++◌, length, take}
use Rattle.std.specs.List.{flat_map}
use Rattle.rc_dbtext.specs.Text.{ServiceCount, service_lines, spells}
use Rattle.rc_dbtext.specs.Spelling.{text_of}
use Rattle.rc_dbtext.proofs.write.push_services.Given as goal

-- the count and those so far are written
abbrev pub invariant-loop-id : goal.invariant-loop-id
invariant-loop-id l =
    l.out.items ≡ l.fn.out.items
    ++ spells (ServiceCount (length (text_of l.db).services) ∷ flat_map service_lines
    (take l.id (text_of l.db).services))

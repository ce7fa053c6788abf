use Rattle.std.proofs.Common.{◌≡◌, ◌∷◌, ◌++◌, length, take}
use Rattle.std.specs.List.{flat_map}
use Rattle.rc_dbtext.specs.Text.{BundleCount, bundle_lines, spells}
use Rattle.rc_dbtext.specs.Spelling.{text_of}
use Rattle.rc_dbtext.proofs.write.push_bundles.Given as goal

-- the count and those so far are written
abbrev pub invariant-loop-place : goal.invariant-loop-place
invariant-loop-place l =
    l.out.items ≡ l.fn.out.items
    ++ spells (BundleCount (length (text_of l.db).bundles) ∷ flat_map bundle_lines
    (take l.place (text_of l.db).bundles))

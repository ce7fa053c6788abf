use Rattle.rc_model.specs.Database.{IsBundle}
use Rattle.std.proofs.Common.{take, map, All, string_bytes}
use Rattle.rc_bundle.proofs.words.first_missing.Given as goal

-- each word before this place is a bundle's
abbrev pub invariant-loop-place : goal.invariant-loop-place
invariant-loop-place l = All (IsBundle l.table) (take l.place (map string_bytes l.words))

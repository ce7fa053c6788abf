-- What is left behind lines is shorter.
use Rattle.std.proofs.Common.{◌≡◌, ℕ, ◌<◌, List, [], ◌∷◌, ◌++◌, length, map, ap, arith}
use Rattle.std.proofs.Common.{length-append}
use Rattle.std.specs.List.{join_with_byte}
use Rattle.rc_dbtext.specs.Words.{BundleText}
use Rattle.rc_dbtext.specs.Form.{spells}
use Rattle.rc_livetext.specs.Text.{Line, OfBundle, spell, words}
use Rattle.rc_livetext.specs.Held.{HasBundles}

-- behind a line
pub shorter : (l : Line) (rest behind : List ℕ) → rest ≡ spell l ++ behind
    → length behind < length rest
shorter l rest behind is =
    omega (
      arith,
      ap length is,
      length-append (spell l) behind,
      length-append (join_with_byte 32 (words l)) (10 ∷ []),
    )

-- behind a line and bundles
pub shorter_behind : (l : Line) (rest middle behind : List ℕ) (bundles : List BundleText)
    → rest ≡ spell l ++ middle → HasBundles middle bundles behind → length behind < length rest
shorter_behind l rest middle behind bundles is has =
    let first : length middle < length rest = shorter l rest middle is in
    omega (
      arith,
      first,
      ap length has.1,
      length-append (spells spell (map OfBundle bundles)) behind,
    )

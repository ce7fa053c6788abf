-- The bytes of states in the order in which they are written. No public contract speaks of it.
use Rattle.std.specs.Prelude.{◌==◌, ℕ, suc, List, [], ◌∷◌, ◌++◌, map}
use Rattle.rc_model.specs.Database.{Bundles}
use Rattle.rc_model.specs.Line.{State}
use Rattle.rc_dbtext.specs.Form.{spells}
use Rattle.rc_dbtext.specs.Spelling.{bundle_text}
use Rattle.rc_livetext.specs.Text.{OfBundle, spell, state_lines}
use Rattle.rc_livetext.specs.Spelling.{state_text}

-- the lines of bundles
abbrev pub bundle_bytes : List (List ℕ) → Bundles → List ℕ
bundle_bytes names table = spells spell (map OfBundle (map (bundle_text names) table))

-- the lines of states from a place on, the current one at its place
abbrev pub state_bytes : List (List ℕ) → ℕ → ℕ → List State → List ℕ
state_bytes names cursor at [] = []
state_bytes names cursor at (s ∷ ss) =
    spells spell (state_lines (cursor == at) (state_text names s))
    ++ state_bytes names cursor (suc at) ss

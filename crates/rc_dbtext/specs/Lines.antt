-- The lines of a database in two parts: those of its services and those of its bundles.
use Rattle.std.specs.Prelude.{ℕ, List, ◌∷◌}
use Rattle.std.specs.List.{flat_map}
use Rattle.rc_model.specs.Database.{Database}
use Rattle.rc_dbtext.specs.Text.{Line, ServiceCount, BundleCount, bundle_lines, count_and_lines}
use Rattle.rc_dbtext.specs.Text.{service_lines}
use Rattle.rc_dbtext.specs.Spelling.{text_of}

-- words with a space before each
abbrev pub words_after_spaces : List (List ℕ) → List ℕ
words_after_spaces words = flat_map (λ word. 32 ∷ word) words

-- the lines of the services, their count in front
abbrev pub services_part : Database → List Line
services_part d = count_and_lines ServiceCount service_lines (text_of d).services

-- the lines of the bundles, their count in front
abbrev pub bundles_part : Database → List Line
bundles_part d = count_and_lines BundleCount bundle_lines (text_of d).bundles

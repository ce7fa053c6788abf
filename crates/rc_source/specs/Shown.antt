-- The files of a table, each a path with its bytes.
use Rattle.std.specs.Prelude.{ℕ, List, map, string_bytes, String, Vec}

-- files as they stand in a table
abbrev pub shown_files : {A B : Type 0} → List (String A × Vec ℕ B) → List (List ℕ × List ℕ)
shown_files files = map (λ file. (string_bytes file.0, file.1.items)) files

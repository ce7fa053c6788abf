-- How a name that nothing has is told.
use Rattle.std.specs.Prelude.{◌++◌, ℕ, List, codes}

-- the refusal of an unknown name in words, with the name
abbrev pub unknown_word : List ℕ → List ℕ
unknown_word name = codes "Unknown " ++ name

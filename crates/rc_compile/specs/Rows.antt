-- The lists that vectors of vectors hold.
use Rattle.std.specs.Prelude.{ℕ, List, map}
use Rattle.std.specs.Global.{Vec}

-- the lists that the vectors hold
abbrev pub rows : List (Vec ℕ) → List (List ℕ)
rows vectors = map (λ v. v.items) vectors

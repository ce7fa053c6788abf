-- What a run log says of the text that stands in the file of its session.
use Rattle.std.specs.Prelude.{◌≡◌, ◌≢◌, ◌++◌, ℕ, List, [], Option, None, Some, Result, Ok, Err}

-- a log is that of a command on the text that stood in the file: it begins with that text, and has
-- more
abbrev pub IsCutBy : (found : Option (List ℕ)) → (log : List ℕ) → Type 0
IsCutBy None log = ⊥
IsCutBy (Some text) log = (rest : List ℕ) × (rest ≢ []) × (log ≡ text ++ rest)

-- the text that stood in a file, if it could be read and there was one
abbrev pub text_in : {E B : Type 0} → (B → List ℕ) → Result (Option B) E → Option (List ℕ)
text_in bytes (Ok (Some held)) = Some (bytes held)
text_in bytes (Ok None) = None
text_in bytes (Err fault) = None

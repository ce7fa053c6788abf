-- Lines with their newline.
use Rattle.std.proofs.Common.{◌≡◌, ◌∙◌, ◌++◌, ◌∷◌, [], ℕ, List, Contains, Option, Some, None}
use Rattle.std.proofs.Common.{Result, Ok, Err, Global, ap, string_bytes}
use Rattle.std.specs.Prelude.{IfOk, IfSome, String}
use Rattle.rc_script.specs.RunLines.{IsLine}

-- the text of a line is that line, and what holds of the line holds of a line of the text
pub lined : {E : Type 0} (Holds : List ℕ → Type 0) (r : Result (Option (String Global)) E)
    (bytes line : List ℕ) → bytes ≡ line → (Contains line 10 → ⊥) → Holds line
    → IfOk r (λ made. IfSome made (λ text. string_bytes text ≡ bytes ++ 10 ∷ []))
    → IfOk r (λ made. IfSome made (λ text. (l : List ℕ) × IsLine (string_bytes text) l × Holds l))
lined Holds (Err e) bytes line same whole holds is = tt
lined Holds (Ok None) bytes line same whole holds is = tt
lined Holds (Ok (Some text)) bytes line same whole holds is =
    (line, (is ∙ ap (λ (l : List ℕ). l ++ 10 ∷ []) same, whole), holds)

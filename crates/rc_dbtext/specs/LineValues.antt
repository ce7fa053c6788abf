-- Values that are read from the words of one line.
use Rattle.std.specs.Prelude.{◌≡◌, ℕ, List, ◌++◌, length, All}
use Rattle.std.specs.Str.{IsUtf8}
use Rattle.rc_dbtext.specs.declared.syntax.fault.FormFault.{FormFault}
use Rattle.rc_dbtext.specs.declared.syntax.fault.FormFault.TheVariants.{Bad, Version, TooMany}
use Rattle.rc_dbtext.specs.declared.syntax.fault.FormFault.TheVariants.{Memory}
pub use Rattle.rc_dbtext.specs.Words.{IsPlain, ArePlain, BeginsWith}
use Rattle.rc_dbtext.specs.Text.{Line, words, line_of_words}

-- there is no line of text here, unless memory ran out
abbrev pub IsNoLine : List ℕ → FormFault → Type 0
IsNoLine bytes (Bad left) = (left ≡ length bytes)
    × ((words : List (List ℕ)) (rest : List ℕ) → All IsUtf8 words
    → bytes ≡ line_of_words words ++ rest → ⊥)
IsNoLine bytes Version = ⊥
IsNoLine bytes TooMany = ⊥
IsNoLine bytes Memory = Unit {0}

-- the value is such, and these are the words of its line
abbrev pub IsOfWords : {A : Type 0} → (A → Type 0) → (A → Line) → List (List ℕ) → A → Type 0
IsOfWords Is line ws value = Is value × (ws ≡ words (line value))

-- no such value's line has these words
abbrev pub IsOfNoWords : {A : Type 0} → (A → Type 0) → (A → Line) → List (List ℕ) → Type 0
IsOfNoWords {A} Is line ws = (value : A) → Is value → ws ≡ words (line value) → ⊥

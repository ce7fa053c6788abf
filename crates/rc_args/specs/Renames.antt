-- What the file of the renames says.
use Rattle.std.specs.Prelude.{◌≡◌, ◌==◌, ◌+◌, ◌++◌, ◌∷◌, ◌&&◌, ℕ, List, [], Option, None}
use Rattle.std.specs.Prelude.{Some, Result, Ok, Err, codes, false, true, option_map, if◌then◌else◌}
use Rattle.std.specs.Option.{option_map_or}
use Rattle.std.specs.Str.{bytes_eq}
use Rattle.std.specs.List.{slice_split}
use Rattle.rc_script.specs.Words.{is_silent, words_in}
use Rattle.rc_update.specs.Conversions.{Conversion}
use Rattle.rc_update.specs.Distinct.{AreDistinct, IsFirstTwice}
use Rattle.rc_args.specs.UpdateAsked.{restart_of}
use Rattle.rc_args.specs.declared.renames.RenameFault.{RenameFault}
use Rattle.rc_args.specs.declared.renames.RenameFault.TheVariants.{BadLine, Twice, Memory}

-- the conversion that words say: `NAME restart`, `OLD -> NEW` or `OLD -> NEW restart`
abbrev pub conversion_by : List (List ℕ) → Option Conversion
conversion_by (name ∷ end ∷ []) =
    if bytes_eq end (codes "restart") then Some (restart_of name) else None
conversion_by (old ∷ arrow ∷ new ∷ []) = if bytes_eq arrow (codes "->")
    then Some (record { old = old; new = new; restart = false }) else None
conversion_by (old ∷ arrow ∷ new ∷ end ∷ []) =
    if bytes_eq arrow (codes "->") && bytes_eq end (codes "restart")
    then Some (record { old = old; new = new; restart = true }) else None
conversion_by other = None

-- what a line says: nothing, where it has no words or is a comment; or a conversion; None: neither
abbrev pub line_says : List (List ℕ) → Option (Option Conversion)
line_says words =
    if is_silent words then Some None else option_map (λ one. Some one) (conversion_by words)

-- with what a line says behind them
abbrev pub behind : List Conversion → Option Conversion → List Conversion
behind before None = before
behind before (Some one) = before ++ one ∷ []

-- the conversions of lines, behind those before; or the number of the first line, from 1, that says
-- neither, where so many lines are passed
abbrev pub says_from : (passed : ℕ) → List Conversion → List (List ℕ)
    → Result (List Conversion) ℕ
says_from passed before [] = Ok before
says_from passed before (line ∷ more) = option_map_or
    (λ said. says_from (passed + 1) (behind before said) more) (line_says (words_in line))
    (Err (passed + 1))

-- why the lines say no conversions behind those before
abbrev pub IsSaidWrong : List Conversion → List (List ℕ) → RenameFault → Type 0
IsSaidWrong before lines (BadLine line) = says_from 0 before lines ≡ Err line
IsSaidWrong before lines (Twice name) = ⊥
IsSaidWrong before lines Memory = Unit {0}

-- the conversions of a text, behind those before
abbrev pub text_says : List Conversion → List ℕ → Result (List Conversion) ℕ
text_says before text = says_from 0 before (slice_split (λ byte. byte == 10) text)

-- why the conversions behind these are refused: a line; or a name that two of them share, only
-- where no line is wrong
abbrev pub IsRenameFault : List Conversion → List ℕ → RenameFault → Type 0
IsRenameFault before text (BadLine line) = text_says before text ≡ Err line
IsRenameFault before text (Twice name) = (list : List Conversion)
    × (text_says before text ≡ Ok list) × IsFirstTwice list name.now
IsRenameFault before text Memory = Unit {0}

-- the conversions of a text behind these, no two of which share a name
abbrev pub AreRenames : List Conversion → List ℕ → List Conversion → Type 0
AreRenames before text list = (text_says before text ≡ Ok list) × AreDistinct list

-- The words of a command line, as `clap` reads them.
use Rattle.std.specs.Prelude.{◌∷◌, Bool, List, [], Option, None, Some, codes, false, true}
use Rattle.std.specs.Prelude.{if◌then◌else◌, unwrap_or}
use Rattle.std.specs.Option.{option_map_or}
use Rattle.std.specs.Str.{bytes_eq}
use Rattle.clap.specs.Words.{Kinds, Row, Text, all_of, fault_of, first_of, subcommand_of}
use Rattle.rc_args.specs.Commands.{program}

-- whether there is some kind of fault
abbrev pub has_fault : Kinds → Bool
has_fault [] = false
has_fault (kind ∷ more) = true

-- the matches of the command that was entered, if it has this name
abbrev pub rows_named : Text → Option (Text × List Row) → Option (List Row)
rows_named name None = None
rows_named name (Some entered) = if bytes_eq entered.0 name then Some entered.1 else None

-- the matches of a command, where `clap` finds no fault in the words and they name it; the first
-- word is the program's own name
unfoldable pub rows_for : Text → List Text → Option (List Row)
rows_for name words = if has_fault (fault_of program words) then None
    else rows_named name (subcommand_of program words)

-- whether a flag was given
abbrev pub is_on : Text → List Row → Bool
is_on id rows = option_map_or (λ value. bytes_eq value (codes "true")) (first_of id rows) false

-- the values of an argument, in their order
abbrev pub values_in : Text → List Row → List Text
values_in id rows = unwrap_or (all_of id rows) []

-- the words of a command
abbrev pub words_in : List Row → List Text
words_in rows = values_in (codes "words") rows

-- What the words ask of a command.
use Rattle.std.specs.Prelude.{◌≡◌, ◌||◌, Bool, List, Option, codes, option_and_then}
use Rattle.std.specs.Str.{bytes_eq}
use Rattle.clap.specs.Words.{Row, Text, kind_of}
use Rattle.clap.specs.declared.error.ErrorKind.TheVariants.{DisplayHelp, MissingRequiredArgument}
use Rattle.rc_model.specs.Plan.{Ask}
use Rattle.rc_select.specs.Ask.{asked_by, chosen_in}
use Rattle.rc_args.specs.Words.{is_on, rows_for, words_in}
use Rattle.rc_args.specs.declared.asked.WordsFault.{WordsFault}
use Rattle.rc_args.specs.declared.asked.WordsFault.TheVariants.{Found, Names}

-- what the matches of `plan` ask
abbrev pub ask_in : List Row → Option Ask
ask_in rows = asked_by (chosen_in (λ name. is_on name rows)) (words_in rows)

-- whether a flag is on: it counts as given, or it is given
abbrev pub is_on_with : (flag : Text) → List Row → Text → Bool
is_on_with flag rows name = bytes_eq name flag || is_on name rows

-- what the matches of `plan` ask, where this flag counts as given
abbrev pub ask_with : (flag : Text) → List Row → Option Ask
ask_with flag rows = asked_by (chosen_in (is_on_with flag rows)) (words_in rows)

-- what the words ask of `plan`, or nothing where they are a wrong command line
abbrev pub plan_asked : List Text → Option Ask
plan_asked words = option_and_then ask_in (rows_for (codes "plan") words)

-- the words ask for help
abbrev pub AsksHelp : WordsFault → Type 0
AsksHelp (Found error) = kind_of error ≡ DisplayHelp
AsksHelp other = ⊥

-- the words lack others that the command wants
abbrev pub LacksWords : WordsFault → Type 0
LacksWords Names = Unit {0}
LacksWords (Found error) = kind_of error ≡ MissingRequiredArgument
LacksWords other = ⊥

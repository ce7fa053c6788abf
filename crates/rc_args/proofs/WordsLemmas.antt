-- What `clap`'s clauses say of the program's own rule.
use Rattle.std.proofs.Common.{Result, Ok, Err, IfErr, IfOk, ◌≡◌, ◌≢◌, ◌∙◌, Bool, List, [], ◌∷◌}
use Rattle.std.proofs.Common.{None, Option, option_map, if◌then◌else◌, false, true, refl, ap, sym}
use Rattle.std.proofs.Common.{unwrap_or, codes, inl, inr}
use Rattle.std.specs.Str.{bytes_eq}
use Rattle.clap.specs.Kinds.{FailsBy}
use Rattle.clap.specs.Matches.{first_value, found_of, matched_of, raw_values}
use Rattle.clap.specs.declared.builder.Command.{Command}
use Rattle.clap.specs.Words.{App, app_of, HasKind, HasMatchesOf, Kinds, Row, Text, fault_of}
use Rattle.clap.specs.Words.{is_simple, is_simple_and_free, kind_of, rows_of, subcommand_of}
use Rattle.clap.specs.Words.{subcommand_rows_of}
use Rattle.clap.specs.declared.error.Error.{Error}
use Rattle.clap.specs.declared.error.ErrorKind.TheVariants.{OutOfMemory}
use Rattle.clap.specs.declared.ArgMatches.{ArgMatches}
use Rattle.clap.proofs.WalkLemmas.{first_value-rows, raw_values-rows}
use Rattle.std.specs.Option.{option_map_or}
use Rattle.rc_args.specs.Commands.{Reads, altering_program, asking_program, bare, bare_program}
use Rattle.rc_args.specs.Commands.{change_command, changing_program, check_command}
use Rattle.rc_args.specs.Commands.{compile_command, db_command}
use Rattle.rc_args.specs.Commands.{flag, long_option, option, repeated}
use Rattle.rc_args.specs.Commands.{plan_command, program}
use Rattle.rc_args.specs.Commands.{edit_command, journal_command, list_command, restart_command}
use Rattle.rc_args.specs.Commands.{status_command, query_word, replay_command, session_command}
use Rattle.rc_args.specs.Commands.{show_command, source_list, start_command, step_command}
use Rattle.rc_args.specs.Commands.{cancel_command, stop_command, undo_command}
use Rattle.rc_args.specs.Commands.{update_command, with_arg}
use Rattle.rc_args.specs.Commands.{with_command, word_list}
use Rattle.rc_args.specs.Words.{has_fault, is_on, rows_for, rows_named, values_in, words_in}

-- what is opaque to the program is not to `clap`
pub read : (c : Command) → Reads (Ok c) program → app_of c ≡ program
unfolding Reads
read c reads = reads.0

-- what `clap`'s clauses ask of the program
program_is_plain : is_simple program ≡ true
unfolding program altering_program changing_program asking_program bare with_arg with_command flag
    option repeated word_list source_list query_word plan_command compile_command db_command
    replay_command session_command change_command start_command stop_command step_command
    cancel_command edit_command
    restart_command status_command check_command show_command list_command journal_command
    bare_program undo_command update_command long_option
program_is_plain = refl

program_is_simple : is_simple_and_free program ≡ true
unfolding program altering_program changing_program asking_program bare with_arg with_command flag
    option repeated word_list source_list query_word plan_command compile_command db_command
    replay_command session_command change_command start_command stop_command step_command
    cancel_command edit_command
    restart_command status_command check_command show_command list_command journal_command
    bare_program undo_command update_command long_option
program_is_simple = refl

-- what the matches hold is what the words ask for
pub entered_found : (a : App) (words : List Text) (m : ArgMatches) → a ≡ program
    → HasMatchesOf a words m → subcommand_rows_of m ≡ subcommand_of program words
entered_found a words m e h =
    (h (ap is_simple e ∙ program_is_plain)).1 ∙ ap (λ x. subcommand_of x words) e

-- a parse that succeeds had no fault to find
pub right_line : (a : App) (words : List Text) → a ≡ program
    → (is_simple_and_free a ≡ true → fault_of a words ≡ [])
    → has_fault (fault_of program words) ≡ false
right_line a words e h =
    ap has_fault
    (ap (λ x. fault_of x words) (sym e) ∙ h (ap is_simple_and_free e ∙ program_is_simple))

-- the same, of what a parse answers
pub right_lines : (a : App) (words : List Text) (r : Result ArgMatches Error) → a ≡ program
    → (is_simple_and_free a ≡ true → FailsBy (fault_of a words) r)
    → IfOk r (λ m. has_fault (fault_of program words) ≡ false)
right_lines a words (Ok m) is h = right_line a words is h
right_lines a words (Err e) is h = tt

-- a list that has an error's kind, memory aside, is not empty
has_fault-kind : (kinds : Kinds) (e : Error) → HasKind kinds e → kind_of e ≢ OutOfMemory
    → has_fault kinds ≡ true
has_fault-kind [] e h other =
    elim h [ inl memory ↦ absurd (other memory) | inr among ↦ absurd among ]
has_fault-kind (k ∷ ks) e h other = refl

-- an error that is not of memory tells of a fault
pub wrong_line : (a : App) (words : List Text) (e : Error) → a ≡ program
    → (is_simple_and_free a ≡ true → HasKind (fault_of a words) e) → kind_of e ≢ OutOfMemory
    → has_fault (fault_of program words) ≡ true
wrong_line a words e is h other =
    ap (λ x. has_fault (fault_of x words)) (sym is)
    ∙ has_fault-kind (fault_of a words) e (h (ap is_simple_and_free is ∙ program_is_simple)) other

-- the same, of what a parse answers
pub wrong_lines : (a : App) (words : List Text) (r : Result ArgMatches Error) → a ≡ program
    → (is_simple_and_free a ≡ true → FailsBy (fault_of a words) r)
    → IfErr r (λ e. kind_of e ≢ OutOfMemory → has_fault (fault_of program words) ≡ true)
wrong_lines a words (Ok m) is h = tt
wrong_lines a words (Err e) is h = wrong_line a words e is h

-- the matches of a command, by those of the words
pub rows_right : (name : Text) (words : List Text) (entered : Option (Text × List Row))
    → has_fault (fault_of program words) ≡ false → entered ≡ subcommand_of program words
    → rows_for name words ≡ rows_named name entered
unfolding rows_for
rows_right name words entered right is =
    ap (λ (b : Bool). if b then None else rows_named name (subcommand_of program words)) right
    ∙ ap (rows_named name) (sym is)

-- a wrong line has no command
pub rows_wrong : (name : Text) (words : List Text) → has_fault (fault_of program words) ≡ true
    → rows_for name words ≡ None
unfolding rows_for
rows_wrong name words wrong =
    ap (λ (b : Bool). if b then None else rows_named name (subcommand_of program words)) wrong

-- the values that `get_strs` gives
pub values_found : (m : ArgMatches) (id : Text) (given : Option (List Text))
    → given ≡ option_map raw_values (matched_of (found_of m) id)
    → unwrap_or given [] ≡ values_in id (rows_of (found_of m))
values_found m id given e = ap (λ o. unwrap_or o []) (e ∙ raw_values-rows (found_of m) id)

-- the words that it gives
pub words_found : (m : ArgMatches) (given : Option (List Text))
    → given ≡ option_map raw_values (matched_of (found_of m) (codes "words"))
    → unwrap_or given [] ≡ words_in (rows_of (found_of m))
words_found m given e = values_found m (codes "words") given e

-- whether a flag is on, by the text that `get_str` gives
pub flag_found : (m : ArgMatches) (id : Text) (value : Option Text)
    → value ≡ first_value (found_of m) id
    → option_map_or (λ value. bytes_eq value (codes "true")) value false
    ≡ is_on id (rows_of (found_of m))
flag_found m id value e =
    ap (λ o. option_map_or (λ value. bytes_eq value (codes "true")) o false)
    (e ∙ first_value-rows (found_of m) id)

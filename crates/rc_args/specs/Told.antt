-- The commands of the program, as its tables tell of them.
use Rattle.std.specs.Prelude.{List, ℕ, Some, codes, nat_lt}
use Rattle.std.specs.List.{fold}
use Rattle.clap.specs.Lexer.{usize_max}
use Rattle.clap.specs.Words.{App, Rule, Text, new_rule}
use Rattle.clap.specs.declared.builder.ArgAction.TheVariants.{Append}
use Rattle.rc_args.specs.Commands.{bare, flag, long_option, option, query_word, repeated}
use Rattle.rc_args.specs.Commands.{with_arg, with_command}
use Rattle.rc_args.specs.declared.cmdline.told.ToldArg.{ToldArg}
use Rattle.rc_args.specs.declared.cmdline.told.ToldArg.TheVariants.{Flag, Valued, Repeated}
use Rattle.rc_args.specs.declared.cmdline.told.ToldArg.TheVariants.{Long, Query, Words}
use Rattle.rc_args.specs.declared.cmdline.told.ToldCommand.{ToldCommand}

-- words, so many at least
abbrev pub listed : ℕ → Rule
listed least = record (new_rule (codes "words")) {
  value_names = 1;
  action = Some Append;
  range = Some (record { start_inclusive = least; end_inclusive = usize_max });
  required = nat_lt 0 least;
}

-- the rule of an argument
abbrev pub told_rule : ToldArg → Rule
told_rule (Flag id letter help) = flag id.now letter
told_rule (Valued id letter value help) = option id.now letter
told_rule (Repeated id letter value help) = repeated id.now letter
told_rule (Long id value help) = long_option id.now
told_rule Query = query_word
told_rule (Words least name help) = listed least

-- a command of this name with these arguments
abbrev pub told_command : Text → List ToldArg → App
told_command name args = fold (λ app told. with_arg app (told_rule told)) (bare name) args

-- a program with these commands, too
abbrev pub with_told : App → List ToldCommand → App
with_told program commands = fold
    (λ app told. with_command app (told_command told.name.now told.args.now)) program commands

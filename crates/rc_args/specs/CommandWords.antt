-- The words that stand for a command with one of its flags.
use Rattle.std.specs.Prelude.{[], codes, if◌then◌else◌}
use Rattle.std.specs.Str.{bytes_eq}
use Rattle.clap.specs.Words.{Text}
use Rattle.rc_args.specs.declared.command_words.Meaning.{Meaning as Read}

-- a command, and the flag of it that counts as given; an empty one is none
pub record Meaning : Type 0 where
  pub command : Text
  pub flag : Text

-- a command with this flag
abbrev pub with_flag : (command flag : Text) → Meaning
with_flag command flag = record { command = command; flag = flag }

-- what a word of the command line stands for: `start` is `change -u`, `stop` is `change -d`, `list`
-- is `live`, and any other word is the command of its own name
abbrev pub meaning_of : Text → Meaning
meaning_of word =
    if bytes_eq word (codes "start") then with_flag (codes "change") (codes "up")
    else if bytes_eq word (codes "stop") then with_flag (codes "change") (codes "down")
    else if bytes_eq word (codes "list") then with_flag (codes "live") []
    else with_flag word []

-- what the program has read of a word
abbrev pub meaning_view : Read → Meaning
meaning_view read = with_flag read.command.now read.flag.now

-- What a request of the program says about how transitions are made.
use Rattle.std.specs.Prelude.{map, option_map}
use Rattle.rc_args.specs.Programs.{ByPrograms, ByTable, MakingAsk}
use Rattle.rc_args.specs.Reading.{listed_of}
use Rattle.rc_args.specs.declared.program_words.Making.{Making}
use Rattle.rc_args.specs.declared.program_words.Making.TheVariants as making

-- how a request of the program asks that transitions are made
abbrev pub making_ask_of : Making → MakingAsk
making_ask_of (making.Table failing) = ByTable (map listed_of failing.items)
making_ask_of (making.Programs programs) =
    ByPrograms (option_map (λ text. text.now) programs.runner)
    (option_map (λ text. text.now) programs.controller) programs.limit

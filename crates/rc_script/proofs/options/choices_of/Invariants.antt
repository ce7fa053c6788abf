use Rattle.std.proofs.Common.{◌≡◌, ◌++◌, drop}
use Rattle.std.specs.Option.{option_map}
use Rattle.rc_script.specs.Options.{choices_of}
use Rattle.rc_script.proofs.options.choices_of.Given as goal

abbrev pub invariant-loop-letter : goal.invariant-loop-letter
invariant-loop-letter l =
    choices_of l.letters ≡ option_map (λ others. l.choices.items ++ others)
    (choices_of (drop l.letter-index l.letters))

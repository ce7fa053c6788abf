use Rattle.std.proofs.Common.{◌≡◌, ◌++◌, map, take, string_bytes}
use Rattle.std.specs.Process.{command_program, command_args}
use Rattle.rc_runner.proofs.start.add_words.Given as goal

-- the words so far stand after those of the command
abbrev pub invariant-loop-word : goal.invariant-loop-word
invariant-loop-word l =
    (command_program l.command ≡ command_program l.fn.command)
    × (command_args l.command
    ≡ command_args l.fn.command ++ map string_bytes (take l.word-index l.words))

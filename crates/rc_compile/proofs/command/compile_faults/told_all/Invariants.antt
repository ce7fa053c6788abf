use Rattle.std.proofs.Common.{◌≡◌, take}
use Rattle.rc_compile.specs.CompileRefusals.{word_with_names}
use Rattle.rc_compile.proofs.command.compile_faults.told_all.Given as goal

-- the word and the names so far
abbrev pub invariant-loop-name : goal.invariant-loop-name
invariant-loop-name l = l.text.items ≡ word_with_names l.word (take l.name-index l.names)

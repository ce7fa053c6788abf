use Rattle.std.proofs.Common.{arith, rules, sym}
use Rattle.std.proofs.lemmas.List.Sums.{position_or_len_is}
use Rattle.rc_compile.specs.Interpreters.{ends_word}
use Rattle.rc_compile.proofs.command.diagnostics.interpreters.word_len.Goals as goal

pub returns-then-ends_word-clause-exact : goal.returns-then-ends_word-clause-exact
returns-then-ends_word-clause-exact c =
    sym (position_or_len_is ends_word c.args.line.now c.loop-count.count 0
    c.loop-count.invariant.0 c.loop-count.invariant.1 (λ _. search rules))

pub returns-clause-exact : goal.returns-clause-exact
returns-clause-exact c = sym (position_or_len_is ends_word c.args.line.now c.loop-count.count 0
    c.loop-count.invariant.0 c.loop-count.invariant.1
    (λ h. absurd (omega (arith, c.loop-count-test.false))))

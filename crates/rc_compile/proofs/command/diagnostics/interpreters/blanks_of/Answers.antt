use Rattle.std.proofs.Common.{arith, rules, sym}
use Rattle.std.proofs.lemmas.List.Sums.{prefix_len_is}
use Rattle.rc_compile.specs.Interpreters.{is_blank}
use Rattle.rc_compile.proofs.command.diagnostics.interpreters.blanks_of.Goals as goal

pub returns-then-not-is_blank-clause-exact : goal.returns-then-not-is_blank-clause-exact
returns-then-not-is_blank-clause-exact c =
    sym (prefix_len_is is_blank c.args.line.now c.loop-count.count 0
    c.loop-count.invariant.0 c.loop-count.invariant.1 (λ _. search rules))

pub returns-clause-exact : goal.returns-clause-exact
returns-clause-exact c = sym (prefix_len_is is_blank c.args.line.now c.loop-count.count 0
    c.loop-count.invariant.0 c.loop-count.invariant.1
    (λ h. absurd (omega (arith, c.loop-count-test.false))))

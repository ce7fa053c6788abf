use Rattle.std.proofs.Common.{ℕ, List, sym, string_bytes}
use Rattle.rc_session.specs.Commands.{plain_of}
use Rattle.rc_script.specs.RunLines.{least_limited}
use Rattle.rc_script.specs.Says.{Says, SaysStep}
use Rattle.rc_script.proofs.Lined.{lined}
use Rattle.rc_script.proofs.run_lines.step_line.Goals as goal

pub returns-then-branch : goal.returns-then-branch
returns-then-branch c =
    let is = c.in_ok-says_step.ensures c.if-branch.true in
    lined (λ (l : List ℕ). Says l (SaysStep (least_limited (plain_of c.args.command.now))))
    c.ended.result (string_bytes c.match-command.line) c.as_bytes.result.now
    (sym c.as_bytes.ensures.value) is.0 is.1 c.ended.ensures

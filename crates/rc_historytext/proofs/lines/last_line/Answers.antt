use Rattle.std.proofs.Common.{[]}
use Rattle.rc_historytext.specs.Due.{AtLast}
use Rattle.rc_historytext.proofs.Missing.{no_text_here, other_here, no_last}
use Rattle.rc_historytext.proofs.lines.last_line.Goals as goal

pub returns-in_default : goal.returns-in_default
returns-in_default c = no_text_here AtLast c.args.bytes.now c.in_default.ensures

pub returns-in_default-arguments : goal.returns-in_default-arguments
returns-in_default-arguments c =
    other_here AtLast c.args.bytes.now c.in-Some.rest.now c.in-Some.words c.in-Some.ensures
    (λ l. no_last c.in-Some.words (c.in_default-arguments.ensures []) l c.in-Some.rest.now)

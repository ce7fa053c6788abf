use Rattle.rc_livetext.specs.Text.{OfBundle}
use Rattle.rc_livetext.proofs.StateLines.{no_bundle_here}
use Rattle.rc_livetext.proofs.form_states.bundle_line.Goals as goal

pub returns-in_default : goal.returns-in_default
returns-in_default c = λ b tail is same.
    (rw c.in_default.is at c.in_ok-line.ensures) (OfBundle b) tail is same

pub returns-in_default-line : goal.returns-in_default-line
returns-in_default-line c =
    let read = rw c.in-Some.is at c.in_ok-line.ensures in
    no_bundle_here c.in-Some.line c.args.bytes.now c.in-Some.rest.now read.0 read.1
    c.in_default-line.not-Bundle

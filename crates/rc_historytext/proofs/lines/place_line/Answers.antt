use Rattle.rc_historytext.specs.Due.{AtPlace}
use Rattle.rc_historytext.proofs.Missing.{no_text_here, other_here, no_place}
use Rattle.rc_historytext.proofs.lines.place_line.Goals as goal

pub returns-in_default : goal.returns-in_default
returns-in_default c = no_text_here AtPlace c.args.bytes.now c.in_default.ensures

pub returns-in_default-place_of : goal.returns-in_default-place_of
returns-in_default-place_of c =
    other_here AtPlace c.args.bytes.now c.in-Some.rest.now c.in-Some.words c.in-Some.ensures
    (λ l. no_place c.in-Some.words c.in_default-place_of.ensures l c.in-Some.rest.now)

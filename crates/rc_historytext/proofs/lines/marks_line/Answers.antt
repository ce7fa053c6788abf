use Rattle.std.proofs.Common.{◌∙◌, ℕ, List, get_or, [], ap, sym}
use Rattle.rc_historytext.specs.Due.{AtMarks}
use Rattle.rc_historytext.specs.Text.{mark_word}
use Rattle.rc_historytext.proofs.Missing.{no_text_here, other_here, no_marks}
use Rattle.rc_historytext.proofs.lines.marks_line.Goals as goal

pub returns-in_default : goal.returns-in_default
returns-in_default c = λ oldest more.
    no_text_here (AtMarks oldest more) c.args.bytes.now c.in_default.ensures

pub returns-in_default-two_arguments : goal.returns-in_default-two_arguments
returns-in_default-two_arguments c = λ oldest more.
    other_here (AtMarks oldest more) c.args.bytes.now c.in-Some.rest.now c.in-Some.words
    c.in-Some.ensures
    (λ l. no_marks c.in-Some.words oldest more
    (λ a b. c.in_default-two_arguments.ensures (mark_word a) (mark_word b)) l c.in-Some.rest.now)

pub returns-in_default-both_marks : goal.returns-in_default-both_marks
returns-in_default-both_marks c = λ oldest more.
    other_here (AtMarks oldest more) c.args.bytes.now c.in-Some.rest.now c.in-Some.words
    c.in-Some.ensures
    (λ l. no_marks c.in-Some.words oldest more
    (λ a b same.
    c.in_default-both_marks.ensures a b
    (ap (λ (ws : List (List ℕ)). get_or ws 1 []) (sym c.in-Some-two_arguments.ensures ∙ same))
    (ap (λ (ws : List (List ℕ)). get_or ws 2 []) (sym c.in-Some-two_arguments.ensures ∙ same))) l
    c.in-Some.rest.now)

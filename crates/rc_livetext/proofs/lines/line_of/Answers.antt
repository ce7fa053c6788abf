use Rattle.std.proofs.Common.{◌∙◌, sym}
use Rattle.rc_dbtext.proofs.LineWords.{words_once}
use Rattle.rc_livetext.specs.Text.{words}
use Rattle.rc_livetext.proofs.LineWords.{plain_line, text_line}
use Rattle.rc_livetext.proofs.lines.line_of.Goals as goal

pub returns-in_default : goal.returns-in_default
returns-in_default c = λ l tail is same.
    c.in_default.ensures (words l) tail (text_line l is) same

pub returns-in-None : goal.returns-in-None
returns-in-None c = λ l tail is same.
    let read = c.in-Some.ensures in
    let none = rw c.in-None.is at c.in_ok-line.ensures in
    none l is (words_once _ (words l) c.in-Some.rest.now tail read.0 (plain_line l is)
    (sym read.1 ∙ same)).0

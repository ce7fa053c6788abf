use Rattle.rc_dbtext.proofs.syntax.lines.head_of.Goals as goal

pub returns-in_default : goal.returns-in_default
returns-in_default c = λ value is same. c.in_default.ensures _ same

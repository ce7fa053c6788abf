use Rattle.rc_dbtext.proofs.LineWords.{words_once}
use Rattle.rc_dbtext.proofs.lexer.laws.words_are_read_once.Goals as goal

pub returns : goal.returns
returns c ws vs x y plain_ws plain_vs same = words_once ws vs x y plain_ws plain_vs same

use Rattle.rc_dbtext.specs.Text.{IsDbText, db_lines}
use Rattle.rc_dbtext.proofs.Aligned.{aligned_db}
use Rattle.rc_dbtext.proofs.OneRefusal.{one_refusal}
use Rattle.rc_dbtext.proofs.syntax.laws.refusals_are_one.Goals as goal

pub returns : goal.returns
returns c bytes a b of_a of_b not_a not_b =
    one_refusal IsDbText db_lines aligned_db bytes a b of_a of_b not_a not_b

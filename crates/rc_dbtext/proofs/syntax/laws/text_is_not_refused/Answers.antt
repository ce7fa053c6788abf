use Rattle.std.proofs.Common.{◌++◌, refl}
use Rattle.rc_dbtext.specs.Text.{IsDbText, db_lines, db_text}
use Rattle.rc_dbtext.proofs.Sequences.{never_refused}
use Rattle.rc_dbtext.proofs.syntax.laws.text_is_not_refused.Goals as goal

pub returns : goal.returns
returns c t rest fault is refused =
    never_refused IsDbText db_lines t (db_text t ++ rest) rest fault is refl refused

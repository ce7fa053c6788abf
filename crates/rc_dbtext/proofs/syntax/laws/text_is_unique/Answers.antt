use Rattle.std.proofs.Common.{◌∙◌, [], sym}
use Rattle.std.proofs.lemmas.List.{append-nil}
use Rattle.rc_dbtext.specs.Text.{IsDbText, db_lines, db_text}
use Rattle.rc_dbtext.proofs.Grammar.{once_db}
use Rattle.rc_dbtext.proofs.Sequences.{read_once}
use Rattle.rc_dbtext.proofs.syntax.laws.text_is_unique.Goals as goal

pub returns-clause-front : goal.returns-clause-front
returns-clause-front c a b rest is_a is_b same =
    (read_once IsDbText db_lines once_db a b rest [] is_a is_b
    (same ∙ sym (append-nil (db_text b)))).1

pub returns-clause-value : goal.returns-clause-value
returns-clause-value c a b x y is_a is_b same =
    (read_once IsDbText db_lines once_db a b x y is_a is_b same).0

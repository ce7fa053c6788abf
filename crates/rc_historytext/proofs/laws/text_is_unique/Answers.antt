use Rattle.std.proofs.Common.{◌∙◌, [], sym}
use Rattle.std.proofs.lemmas.List.{append-nil}
use Rattle.rc_historytext.specs.Text.{history_text}
use Rattle.rc_historytext.proofs.OneFault.{text_once}
use Rattle.rc_historytext.proofs.laws.text_is_unique.Goals as goal

pub returns-clause-front : goal.returns-clause-front
returns-clause-front c a b rest is_a is_b same =
    (text_once a b rest [] is_a is_b (same ∙ sym (append-nil (history_text b)))).1

pub returns-clause-value : goal.returns-clause-value
returns-clause-value c a b x y is_a is_b same = (text_once a b x y is_a is_b same).0

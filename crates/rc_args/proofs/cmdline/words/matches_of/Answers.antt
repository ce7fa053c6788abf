use Rattle.std.proofs.lemmas.Result.{IfOk-weaker}
use Rattle.rc_args.proofs.WordsLemmas.{entered_found, read, right_lines, wrong_lines}
use Rattle.rc_args.proofs.cmdline.words.matches_of.Goals as goal

pub returns-clause-rows : goal.returns-clause-rows
returns-clause-rows c =
    IfOk-weaker c.try_get_matches_from.result _ _
    (λ m h. entered_found _ _ m (read _ c.in_ok-command.ensures) h)
    c.try_get_matches_from.ensures.matches

pub returns-clause-right : goal.returns-clause-right
returns-clause-right c =
    right_lines _ _ c.try_get_matches_from.result (read _ c.in_ok-command.ensures)
    c.try_get_matches_from.ensures.kinds

pub returns-clause-wrong : goal.returns-clause-wrong
returns-clause-wrong c =
    wrong_lines _ _ c.try_get_matches_from.result (read _ c.in_ok-command.ensures)
    c.try_get_matches_from.ensures.kinds

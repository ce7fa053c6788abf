use Rattle.std.proofs.Common.{◌≡◌, ◌∙◌, List, None, Option, Some, codes, sym}
use Rattle.clap.specs.Words.{Row}
use Rattle.rc_args.proofs.replay_words.replay_asked.Goals as goal

pub returns-in-Some-clause-asked : goal.returns-in-Some-clause-asked
returns-in-Some-clause-asked c = λ none.
    let both : ◌≡◌ {A = Option (List Row)} None (Some _) =
    sym none ∙ (c.in-Ok.ensures.rows (codes "replay") ∙ sym c.in-Some.ensures) in cc

pub returns-in-None-clause-wrong : goal.returns-in-None-clause-wrong
returns-in-None-clause-wrong c = λ _. c.in-Ok.ensures.rows (codes "replay") ∙ sym c.in-None.ensures

pub returns-in-Err-clause-wrong : goal.returns-in-Err-clause-wrong
returns-in-Err-clause-wrong c = λ other. c.in-Err.ensures.wrong other (codes "replay")

use Rattle.std.proofs.lemmas.Result.{IfErr-weaker, IfOk-weaker}
use Rattle.clap.specs.Matches.{found_of}
use Rattle.clap.specs.Words.{rows_of}
use Rattle.rc_args.proofs.WordsLemmas.{words_found}
use Rattle.rc_args.proofs.OnceLemmas.{adds_asks, adds_nothing, asks_adds}
use Rattle.rc_args.proofs.once_words.add_in.Goals as goal

pub returns-in-Some-clause-asked : goal.returns-in-Some-clause-asked
returns-in-Some-clause-asked c =
    IfOk-weaker c.bundle_of.result _ _
    (λ once adds given. adds_asks given (rows_of (found_of c.args.matches.now)) _ _ _
    (words_found c.args.matches.now _ c.in-Some.ensures) c.is_on-force.ensures adds)
    c.bundle_of.ensures.asked

pub returns-in-Some-clause-wrong : goal.returns-in-Some-clause-wrong
returns-in-Some-clause-wrong c =
    IfErr-weaker c.bundle_of.result _ _
    (λ fault none other given what asks. none other what
    (asks_adds given (rows_of (found_of c.args.matches.now)) _ _ what
    (words_found c.args.matches.now _ c.in-Some.ensures) c.is_on-force.ensures asks))
    c.bundle_of.ensures.wrong

pub returns-in-None-clause-wrong : goal.returns-in-None-clause-wrong
returns-in-None-clause-wrong c = λ other given what asks. adds_nothing c.is_on-force.result what
    (asks_adds given (rows_of (found_of c.args.matches.now)) _ _ what
    (words_found c.args.matches.now _ c.in-None.ensures) c.is_on-force.ensures asks)

use Rattle.std.proofs.Common.{None, Some, map}
use Rattle.std.proofs.lemmas.Result.{IfOk-weaker}
use Rattle.rc_args.proofs.DbAskedLemmas.{none_along, some_along}
use Rattle.rc_args.proofs.WordsLemmas.{words_found}
use Rattle.rc_args.proofs.db_words.query_in.Goals as goal

pub returns-in-Some-clause-some : goal.returns-in-Some-clause-some
returns-in-Some-clause-some c =
    IfOk-weaker c.query_of.result _ _
    (λ found. some_along c.args.word.now _ _ found
    (words_found c.args.matches.now (Some (map (λ w. w.now) c.in-Some.words.now))
    c.in-Some.ensures)) c.query_of.ensures.some

pub returns-in-Some-clause-none : goal.returns-in-Some-clause-none
returns-in-Some-clause-none c =
    IfOk-weaker c.query_of.result _ _
    (λ found. none_along c.args.word.now _ _ found
    (words_found c.args.matches.now (Some (map (λ w. w.now) c.in-Some.words.now))
    c.in-Some.ensures)) c.query_of.ensures.none

pub returns-in-None-clause-some : goal.returns-in-None-clause-some
returns-in-None-clause-some c =
    IfOk-weaker c.query_of-in-None.result _ _
    (λ found. some_along c.args.word.now _ _ found
    (words_found c.args.matches.now None c.in-None.ensures)) c.query_of-in-None.ensures.some

pub returns-in-None-clause-none : goal.returns-in-None-clause-none
returns-in-None-clause-none c =
    IfOk-weaker c.query_of-in-None.result _ _
    (λ found. none_along c.args.word.now _ _ found
    (words_found c.args.matches.now None c.in-None.ensures)) c.query_of-in-None.ensures.none

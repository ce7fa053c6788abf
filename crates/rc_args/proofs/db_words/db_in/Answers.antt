use Rattle.std.proofs.Common.{◌≡◌, ◌∙◌, ◌∷◌, Option, IfNone, IfSome, codes, subst, sym}
use Rattle.clap.specs.Words.{found_of, rows_of}
use Rattle.clap.proofs.WalkLemmas.{first_value-rows}
use Rattle.std.proofs.lemmas.Result.{IfErr-weaker, IfOk-weaker}
use Rattle.rc_args.specs.DbAsked.{db_ask_of}
use Rattle.rc_args.specs.Query.{Question, question_of, words_of_query}
use Rattle.rc_args.specs.Words.{words_in}
use Rattle.rc_args.specs.declared.db_words.Query.{Query}
use Rattle.rc_args.proofs.DbAskedLemmas.{no_generation, no_query, query_by, with_options}
use Rattle.rc_args.proofs.db_words.db_in.Goals as goal

pub returns-in_default-clause-wrong : goal.returns-in_default-clause-wrong
returns-in_default-clause-wrong c = λ _ ask asks.
    no_query (rows_of (found_of c.args.matches.now)) ask
    (c.in_default.ensures ∙ first_value-rows (found_of c.args.matches.now) (codes "query")) asks

pub returns-in-Some-2-clause-asked : goal.returns-in-Some-2-clause-asked
returns-in-Some-2-clause-asked c =
    let rows = rows_of (found_of c.args.matches.now) in
    let question = question_of c.in-Some-2.query in
    let spelled = query_by rows c.in-Some.word.now
    (c.in-Some.ensures ∙ first_value-rows (found_of c.args.matches.now) (codes "query"))
    ∙ subst (λ (found : Option Query). IfSome found
    (λ query. c.in-Some.word.now ∷ words_in rows ≡ words_of_query (question_of query)))
    c.in-Some-2.is c.in_ok-query.ensures.some in
    IfOk-weaker c.request_in.result _ _
    (λ request both. with_options rows question request.generation (db_ask_of request) both.0
    spelled both.1) c.request_in.ensures.asked

pub returns-in-Some-2-clause-wrong : goal.returns-in-Some-2-clause-wrong
returns-in-Some-2-clause-wrong c =
    IfErr-weaker c.request_in.result _ _
    (λ fault never other. no_generation (rows_of (found_of c.args.matches.now)) never)
    c.request_in.ensures.wrong

pub returns-in-None-clause-wrong : goal.returns-in-None-clause-wrong
returns-in-None-clause-wrong c = λ _ ask asks.
    let rows = rows_of (found_of c.args.matches.now) in
    let word = c.in-Some.word.now in
    let none : (question : Question) → word ∷ words_in rows ≡ words_of_query question → ⊥ =
    subst (λ (found : Option Query). IfNone found ((question : Question)
    → word ∷ words_in rows ≡ words_of_query question → ⊥)) c.in-None.is
    c.in_ok-query.ensures.none in
    none ask.question
    (sym (query_by rows word
    (c.in-Some.ensures ∙ first_value-rows (found_of c.args.matches.now) (codes "query"))) ∙ asks.0)

use Rattle.std.proofs.Common.{Option, None, Some, codes, option_map, refl}
use Rattle.std.proofs.lemmas.Result.{IfOk-weaker, IfErr-weaker}
use Rattle.clap.specs.Matches.{first_value, found_of}
use Rattle.clap.specs.Words.{Text, first_of, rows_of}
use Rattle.rc_args.specs.Limits.{IsLimitIn}
use Rattle.rc_args.specs.Making.{making_ask_of}
use Rattle.rc_args.specs.Programs.{ByPrograms, MakesBy}
use Rattle.rc_args.proofs.SessionWordsLemmas.{found_as, made_back, made_right, unlimited_none}
use Rattle.rc_args.proofs.program_words.making_in.Goals as goal

pub returns-in-Some-clause-asked : goal.returns-in-Some-clause-asked
returns-in-Some-clause-asked c =
    let m = c.args.matches.now in
    let given = λ (id : Text). first_value (found_of m) id in
    IfOk-weaker c.table_in.result _ _
    (λ making makes. made_right m (Some c.in-Some.list.now) (given (codes "runner"))
    (given (codes "controller")) (given (codes "usual")) (making_ask_of making)
    c.in-Some.ensures refl refl refl
    (makes (given (codes "runner")) (given (codes "controller")) (given (codes "usual"))))
    c.table_in.ensures.asked

pub returns-in-Some-clause-wrong : goal.returns-in-Some-clause-wrong
returns-in-Some-clause-wrong c =
    let m = c.args.matches.now in
    let given = λ (id : Text). first_value (found_of m) id in
    IfErr-weaker c.table_in.result _ _
    (λ fault never other ask makes. never other (given (codes "runner"))
    (given (codes "controller")) (given (codes "usual")) ask
    (made_back m (Some c.in-Some.list.now) (given (codes "runner")) (given (codes "controller"))
    (given (codes "usual")) ask c.in-Some.ensures refl refl refl makes))
    c.table_in.ensures.wrong

pub returns-in-Some-limit_of-clause-asked : goal.returns-in-Some-limit_of-clause-asked
returns-in-Some-limit_of-clause-asked c =
    let m = c.args.matches.now in
    let rows = rows_of (found_of m) in
    let runner = first_of (codes "runner") rows in
    let controller = first_of (codes "controller") rows in
    let limit = c.in-Some-limit_of.limit in
    found_as (λ (o : Option Text). MakesBy o runner controller (first_of (codes "usual") rows)
    (ByPrograms (option_map (λ t. t.now) c.text_in.result)
    (option_map (λ t. t.now) c.text_in-in-Some-limit_of.result) limit))
    m (codes "failing") None c.in-None.ensures (
      c.text_in.ensures,
      c.text_in-in-Some-limit_of.ensures,
      found_as (λ (o : Option Text). IsLimitIn o limit) m (codes "usual") _
          c.get_str-in-None.ensures
          c.in-Some-limit_of.ensures.some,
    )

pub returns-in-None-limit_of-clause-wrong : goal.returns-in-None-limit_of-clause-wrong
returns-in-None-limit_of-clause-wrong c = λ other ask makes.
    let m = c.args.matches.now in
    let given = λ (id : Text). first_value (found_of m) id in
    unlimited_none (given (codes "runner")) (given (codes "controller")) _
    c.in-None-limit_of.ensures.none ask
    (made_back m None (given (codes "runner")) (given (codes "controller")) _ ask
    c.in-None.ensures refl refl c.get_str-in-None.ensures makes)

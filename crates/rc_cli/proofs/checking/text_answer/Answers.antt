use Rattle.std.proofs.Common.{inl, inr, refl}
use Rattle.std.proofs.lemmas.Result.{IfOk-weaker, IfErr-weaker}
use Rattle.rc_args.specs.NamedAsked.{named_ask_of}
use Rattle.rc_args.specs.SessionAsked.{session_ask_of}
use Rattle.rc_cli.specs.Checking.{AnswersCheck, IsUnmet, finding_of}
use Rattle.rc_cli.specs.Filing.{file_named}
use Rattle.rc_cli.proofs.CheckingLemmas.{on_file}
use Rattle.rc_cli.proofs.UpdateLemmas.{begun_closed}
use Rattle.rc_cli.proofs.checking.text_answer.Goals as goal

pub session_answer-answer-requires : goal.session_answer-answer-requires
session_answer-answer-requires c = record {
  closed = (begun_closed c.in-Ok-begin.session c.in-Ok.db c.args.request.now.session.bound
      (file_named (session_ask_of c.args.request.now.session).live c.args.live)
      c.in-Ok-begin.ensures.begun).0;
}

pub returns-in-Err-clause-none : goal.returns-in-Err-clause-none
returns-in-Err-clause-none c = inl c.in-Err.ensures.fault

pub returns-in-Err-begin-clause-none : goal.returns-in-Err-begin-clause-none
returns-in-Err-begin-clause-none c =
    let spelled = c.in-Ok.ensures.spelled in inr (
      c.in-Ok.db,
      (spelled.0, spelled.1, spelled.2, refl),
      inl c.in-Err-begin.ensures.fault,
    )

pub returns-clause-answer : goal.returns-clause-answer
returns-clause-answer c =
    let spelled = c.in-Ok.ensures.spelled in
    IfOk-weaker c.session_answer-answer.result _ _
    (λ answer answers. (
      c.in-Ok.db,
      (spelled.0, spelled.1, spelled.2, refl),
      on_file (λ d here. AnswersCheck d here (named_ask_of c.args.request.now)
          (finding_of answer)) c.in-Ok.db c.args.request.now.session.bound
          (file_named (session_ask_of c.args.request.now.session).live c.args.live)
          c.in-Ok-begin.session c.in-Ok-begin.ensures.begun answers,
    )) c.session_answer-answer.ensures.answer

pub returns-clause-none : goal.returns-clause-none
returns-clause-none c =
    let spelled = c.in-Ok.ensures.spelled in
    IfErr-weaker c.session_answer-answer.result _ _
    (λ fault unmet. inr (
      c.in-Ok.db,
      (spelled.0, spelled.1, spelled.2, refl),
      inr (on_file (λ d here. IsUnmet d here (named_ask_of c.args.request.now) fault) c.in-Ok.db
          c.args.request.now.session.bound
          (file_named (session_ask_of c.args.request.now.session).live c.args.live)
          c.in-Ok-begin.session c.in-Ok-begin.ensures.begun unmet),
    )) c.session_answer-answer.ensures.none

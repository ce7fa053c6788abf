use Rattle.std.proofs.Common.{ap, inl, inr, map, refl}
use Rattle.std.specs.String.{string_bytes}
use Rattle.rc_args.specs.NamedAsked.{named_ask_of}
use Rattle.rc_args.specs.SessionAsked.{session_ask_of}
use Rattle.rc_cli.specs.Filing.{file_named}
use Rattle.rc_cli.proofs.StatusLemmas.{answers_on}
use Rattle.rc_cli.proofs.UpdateLemmas.{begun_closed}
use Rattle.rc_cli.proofs.status.text_answer.Goals as goal

pub session_answer-answer-requires : goal.session_answer-answer-requires
session_answer-answer-requires c = record {
  closed = (begun_closed c.in-Ok-begin.session c.in-Ok.db c.args.request.now.session.bound
      (file_named (session_ask_of c.args.request.now.session).live c.args.live)
      c.in-Ok-begin.ensures.begun).0;
}

pub returns-in-Err-clause-none : goal.returns-in-Err-clause-none
returns-in-Err-clause-none c = inl c.in-Err.ensures.fault

pub returns-in-Err-begin-clause-none : goal.returns-in-Err-begin-clause-none
returns-in-Err-begin-clause-none c =
    let spelled = c.in-Ok.ensures.spelled in inr (inl (
      c.in-Ok.db,
      (spelled.0, spelled.1, spelled.2, refl),
      c.in-Err-begin.ensures.fault,
    ))

pub returns-in-Ok-answer-clause-answer : goal.returns-in-Ok-answer-clause-answer
returns-in-Ok-answer-clause-answer c =
    let spelled = c.in-Ok.ensures.spelled in (
      c.in-Ok.db,
      (spelled.0, spelled.1, spelled.2, refl),
      answers_on c.in-Ok.db (named_ask_of c.args.request.now) c.args.live
          c.file_named-live.result c.args.log.now c.in-Ok-begin.session
          (map string_bytes c.deref.result.now) c.in-Ok-answer.answer.ending
          c.in-Ok-answer.answer.text.items c.file_named-live.ensures
          (ap (map string_bytes) c.deref.ensures.value) c.in-Ok-begin.ensures.begun
          c.in-Ok-answer.ensures,
    )

pub returns-in-Err-answer-clause-none : goal.returns-in-Err-answer-clause-none
returns-in-Err-answer-clause-none c = inr (inr refl)

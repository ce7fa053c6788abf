use Rattle.std.proofs.Common.{◌∙◌, ap, inl, inr, length, map, refl, sym}
use Rattle.std.proofs.lemmas.Result.{IfOk-weaker, IfErr-weaker}
use Rattle.std.specs.String.{string_bytes}
use Rattle.rc_model.specs.Database.{Database}
use Rattle.rc_session.proofs.States.{current_state}
use Rattle.rc_args.specs.NamedAsked.{named_ask_of}
use Rattle.rc_cli.specs.Checking.{finding_of}
use Rattle.rc_cli.proofs.CheckingLemmas.{known_answer, unknown_word, unmet_answer, with_ok}
use Rattle.rc_cli.proofs.checking.session_answer.Goals as goal

pub asked_answer-answer-requires-clause-live : goal.asked_answer-answer-requires-clause-live
asked_answer-answer-requires-clause-live c =
    let state = current_state c.args.session.now.database c.args.session.now.line
    c.journal-states.ensures.states in
    ap length c.live.ensures ∙ (state.bound
    ∙ sym (ap (λ (x : Database). length x.names) c.db-db.ensures.db))

pub returns-in-Ok-clause-answer : goal.returns-in-Ok-clause-answer
returns-in-Ok-clause-answer c =
    IfOk-weaker c.asked_answer-answer.result _ _
    (λ answer said. known_answer c.args.session.now.database c.db-db.result.now
    c.args.session.now.line (named_ask_of c.args.request.now)
    (map string_bytes c.deref.result.now) c.in-Ok.asked.longruns c.in-Ok.asked.all
    c.live.result.now (finding_of answer) c.db-db.ensures.db c.live.ensures
    (ap (map string_bytes) c.deref.ensures.value) c.in-Ok.ensures.members c.in-Ok.ensures.known
    said.0 said.1)
    (with_ok c.asked_answer-answer.result _ _ c.asked_answer-answer.ensures.answer
    c.asked_answer-answer.ensures.controlled)

pub returns-in-Ok-clause-none : goal.returns-in-Ok-clause-none
returns-in-Ok-clause-none c =
    IfErr-weaker c.asked_answer-answer.result _ _
    (λ fault unasked. unmet_answer c.args.session.now.database c.db-db.result.now
    c.args.session.now.line (named_ask_of c.args.request.now)
    (map string_bytes c.deref.result.now) c.in-Ok.asked.longruns c.in-Ok.asked.all fault
    c.db-db.ensures.db
    (ap (map string_bytes) c.deref.ensures.value) c.in-Ok.ensures.members c.in-Ok.ensures.known
    unasked)
    c.asked_answer-answer.ensures.none

pub returns-in-Err-Unknown-clause-answer : goal.returns-in-Err-Unknown-clause-answer
returns-in-Err-Unknown-clause-answer c =
    IfOk-weaker c.unknown_answer.result _ _
    (λ answer told. unknown_word c.args.session.now.database c.args.session.now.line
    (named_ask_of c.args.request.now) (map string_bytes c.deref.result.now)
    c.in-Err-Unknown.field-0 c.in-Err-Unknown.place (finding_of answer)
    (map string_bytes c.deref-in-Err-Unknown.result.now)
    (ap (map string_bytes) c.deref.ensures.value)
    (ap (map string_bytes) c.deref-in-Err-Unknown.ensures.value) c.in-Err-Unknown.field-0-is
    c.in-Err-Unknown.ensures.fault told)
    c.unknown_answer.ensures.answer

pub returns-in-Err-Unknown-clause-none : goal.returns-in-Err-Unknown-clause-none
returns-in-Err-Unknown-clause-none c =
    IfErr-weaker c.unknown_answer.result _ _ (λ fault memory. inr memory)
    c.unknown_answer.ensures.none

use Rattle.std.proofs.Common.{◌∙◌, ap, length, map, subst, sym}
use Rattle.std.proofs.lemmas.Result.{IfOk-weaker}
use Rattle.std.specs.String.{string_bytes}
use Rattle.rc_model.specs.Names.{Holds}
use Rattle.rc_model.specs.Database.{Bundles, Database, HaveBound, Selected}
use Rattle.rc_session.proofs.States.{current_state}
use Rattle.rc_cli.proofs.StatusLemmas.{both_of, named_answers, not_empty, unknown_answers}
use Rattle.rc_cli.proofs.status.answer_after.Goals as goal

pub selected-requires : goal.selected-requires
selected-requires c =
    let d = c.args.session.now.database in
    let state = current_state d c.args.session.now.line c.journal-states.ensures.states in
    subst (λ (x : Database). HaveBound (length x.names) c.table.result.now) (sym c.db-2.ensures.db)
    (subst (λ (t : Bundles). HaveBound (length d.names) t) (sym c.table.ensures) state.sets)

pub wanted_answer-answer-requires-clause-live : goal.wanted_answer-answer-requires-clause-live
wanted_answer-answer-requires-clause-live c =
    let state = current_state c.args.session.now.database c.args.session.now.line
    c.journal-states.ensures.states in
    ap length c.live-in-Ok.ensures ∙ (state.bound
    ∙ sym (ap (λ (x : Database). length x.names) c.db-in-Ok.ensures.db))

pub returns-in-Ok : goal.returns-in-Ok
returns-in-Ok c =
    let d = c.args.session.now.database in
    IfOk-weaker c.wanted_answer-answer.result _ _
    (λ answer said. named_answers d c.db-in-Ok.result.now c.args.session.now.line
    c.table.result.now c.args.events.now (map string_bytes c.args.names.now)
    c.live-in-Ok.result.now c.in-Ok.wanted answer.ending answer.text.items c.db-in-Ok.ensures.db
    c.table.ensures c.live-in-Ok.ensures
    (not_empty string_bytes c.args.names.now c.is_empty.result c.is_empty.ensures
    c.if-is_empty.false)
    (subst (λ (x : Database). Holds c.in-Ok.wanted (Selected x.names c.table.result.now
    (map string_bytes c.args.names.now))) (c.db-2.ensures.db ∙ sym c.db-in-Ok.ensures.db)
    c.in-Ok.ensures.members)
    said.0 said.1)
    (both_of c.wanted_answer-answer.result _ _ c.wanted_answer-answer.ensures.text
    c.wanted_answer-answer.ensures.ending)

pub returns-in_ok-text-in-Err-Unknown : goal.returns-in_ok-text-in-Err-Unknown
returns-in_ok-text-in-Err-Unknown c =
    unknown_answers c.args.session.now.database c.db-2.result.now c.args.session.now.line
    c.table.result.now c.args.events.now (map string_bytes c.args.names.now)
    c.in-Err-Unknown.field-0 c.in-Err-Unknown.place c.in_ok-text-in-Err-Unknown.text.items
    c.db-2.ensures.db c.table.ensures c.in-Err-Unknown.field-0-is c.in-Err-Unknown.ensures.fault
    c.in_ok-text-in-Err-Unknown.ensures

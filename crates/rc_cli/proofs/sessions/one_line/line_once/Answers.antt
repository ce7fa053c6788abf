-- One line is done. The session is kept first, if a file is named, and then the line is answered.
-- So the store goes through two states, and clauses about its texts are joined over both
-- (`served_line`, `puts_command`). A store that fails at first ends the line before anything moves.
use Rattle.std.proofs.Common.{◌≡◌, ◌∙◌, true, false, inl, inr, refl, sym}
use Rattle.rc_streams.specs.Noting.{inner_of}
use Rattle.rc_script.specs.Says.{saying_of}
use Rattle.rc_args.specs.SessionAsked.{session_ask_of}
use Rattle.rc_cli.specs.Storing.{HoldsText, store_of}
use Rattle.rc_cli.proofs.OnceLemmas.{fault_with, holds_alone, holds_text, served_line}
use Rattle.rc_cli.proofs.PuttingLemmas.{puts_alone, puts_command}
use Rattle.rc_cli.proofs.ServingLemmas.{keep_of_file}
use Rattle.rc_cli.proofs.sessions.one_line.line_once.Goals as goal

pub returns-in-Ok-clause-served : goal.returns-in-Ok-clause-served
returns-in-Ok-clause-served g c =
    let path = (session_ask_of c.args.request.now).live in
    let held = g.S.Store.holds (store_of c.args.outputs.now.keeper) in
    let answers = g.G.Gate.answers c.args.gate.now in
    let gives = g.G.Gate.gives c.args.gate.now in
    let saying = saying_of c.args.said.now in
    let written = g.W.Write.contents (inner_of c.args.outputs.now.writer) in
    let is = g.S.Store.holds (store_of c.answer_once.new.keeper) in
    let kept = c.is_kept.ensures.kept c.if-is_kept.true in
    served_line c.args.request.now.workers answers gives (λ fault. Unit {0})
    (HoldsText (g.S.Store.holds (store_of c.keep.new.self))) (HoldsText is) path held is saying
    written (g.W.Write.contents (inner_of c.answer_once.new.writer)) c.args.session.now
    c.answer_once.new.session c.answer_once.result c.requires.whole c.in-Ok.ensures.kept
    (λ line holds. holds_text path held is c.args.session.now.database saying line
    kept.0 kept.1 holds) c.answer_once.ensures.ended c.answer_once.ensures.arrives
    c.answer_once.ensures.kept c.answer_once.ensures.stopped

pub returns-in-Ok-clause-fault : goal.returns-in-Ok-clause-fault
returns-in-Ok-clause-fault g c =
    let kept = c.is_kept.ensures.kept c.if-is_kept.true in
    fault_with c.answer_once.result ⊥ _ _ ⊥ _ (λ x. x) (λ failed. (kept.0, failed))
    c.answer_once.ensures.fault

pub returns-in-Ok-clause-led : goal.returns-in-Ok-clause-led
returns-in-Ok-clause-led g c =
    let kept = c.is_kept.ensures.kept c.if-is_kept.true in
    puts_command g.S.Store.put c.args.session.now.database c.args.session.now.line
    c.answer_once.new.session.line c.args.outputs.now.keeper c.keep.new.self
    c.answer_once.new.keeper (session_ask_of c.args.request.now).live (saying_of c.args.said.now)
    c.answer_once.result kept.0 kept.1 c.in-Ok.ensures.led c.answer_once.ensures.led

pub returns-in-Err-clause-served : goal.returns-in-Err-clause-served
returns-in-Err-clause-served g c =
    let kept = c.is_kept.ensures.kept c.if-is_kept.true in
    inl (
      keep_of_file c.in-Err.fault c.from.result c.from.ensures,
      refl,
      elim c.in-Err.ensures.left [
        | inl same ↦ inl same
        | inr first ↦ inr (holds_text (session_ask_of c.args.request.now).live
            (g.S.Store.holds (store_of c.args.outputs.now.keeper))
            (g.S.Store.holds (store_of c.keep.new.self)) c.args.session.now.database
            (saying_of c.args.said.now) c.args.session.now.line kept.0 kept.1 first)
      ],
    )

pub returns-clause-served : goal.returns-clause-served
returns-clause-served g c =
    let path = (session_ask_of c.args.request.now).live in
    let held = g.S.Store.holds (store_of c.args.outputs.now.keeper) in
    let answers = g.G.Gate.answers c.args.gate.now in
    let gives = g.G.Gate.gives c.args.gate.now in
    let saying = saying_of c.args.said.now in
    let written = g.W.Write.contents (inner_of c.args.outputs.now.writer) in
    let alone = c.is_kept.ensures.alone
    (λ kept. let bad : false ≡ true = sym c.if-is_kept.false ∙ kept in cc) in
    served_line c.args.request.now.workers answers gives (λ fault. ⊥) (λ d line. Unit {0})
    (λ d line. Unit {0}) path held held saying written
    (g.W.Write.contents (inner_of c.answer_once-2.new.writer)) c.args.session.now
    c.answer_once-2.new.session c.answer_once-2.result c.requires.whole tt
    (λ line _. holds_alone path held c.args.session.now.database saying line alone)
    c.answer_once-2.ensures.ended c.answer_once-2.ensures.arrives c.answer_once-2.ensures.kept
    c.answer_once-2.ensures.stopped

pub returns-clause-fault : goal.returns-clause-fault
returns-clause-fault g c =
    fault_with c.answer_once-2.result ⊥ _ ⊥ ⊥ _ (λ x. x) (λ none. absurd none)
    c.answer_once-2.ensures.fault

pub returns-clause-led : goal.returns-clause-led
returns-clause-led g c =
    puts_alone g.S.Store.put (session_ask_of c.args.request.now).live c.args.session.now.database
    (saying_of c.args.said.now) c.args.session.now.line c.answer_once-2.new.session.line
    (store_of c.args.outputs.now.keeper) c.answer_once-2.result
    (c.is_kept.ensures.alone
    (λ kept. let bad : false ≡ true = sym c.if-is_kept.false ∙ kept in cc))

use Rattle.std.proofs.Common.{◌≡◌, ◌≢◌, ◌∙◌, ◌+◌, ℕ, [], ap, arith, length}
use Rattle.std.specs.Global.{Vec}
use Rattle.rc_model.specs.Names.{Has}
use Rattle.rc_model.specs.Database.{Database}
use Rattle.rc_model.specs.Line.{IsEntryAt, cursor, states}
use Rattle.rc_model.specs.Session.{Redo}
use Rattle.rc_model.specs.declared.Refusal.TheVariants.{NothingToRedo}
use Rattle.rc_serve.proofs.WaysShown.{none_after, opens, redo_task, refused_way, shown_way}
use Rattle.rc_serve.proofs.ways.redo_answer.Goals as goal

pub returns-then-cursor-states : goal.returns-then-cursor-states
returns-then-cursor-states c =
    let here : c.cursor-cursor.result ≡ cursor c.args.session.now.line =
    rw c.journal-line.ensures.journal at c.cursor-cursor.ensures in
    let all : c.states-states.result ≡ length (states c.args.session.now.line) =
    rw c.journal-line.ensures.journal at c.states-states.ensures.count in
    let last : c.cursor-cursor.result + 1 ≡ c.states-states.result = omega arith in
    refused_way c.args.session.now.database c.args.session.now.line (Redo 0 []) NothingToRedo
    c.refused.result c.refused.ensures.ending
    (ap (λ (t : Vec ℕ). t.items) c.refused.ensures.text ∙ c.in_ok-refusal_text.ensures)
    (none_after c.args.session.now.line c.cursor-cursor.result c.states-states.result here all last)

pub planned-requires : goal.planned-requires
planned-requires c =
    let (to, there, leads) = c.in_ok-plan.ensures in
    opens c.args.session.now.database c.args.session.now.line c.names.result.now (Has to.live)
    c.in_ok-plan.plan c.journal-line.ensures.states
    (c.names.ensures.names ∙ ap (λ (d : Database). d.names) c.db.ensures.db) leads

pub returns : goal.returns
returns c =
    let (to, there, leads) = c.in_ok-plan.ensures in
    let here : c.cursor-cursor.result ≡ cursor c.args.session.now.line =
    rw c.journal-line.ensures.journal at c.cursor-cursor.ensures in
    let all : c.states-states.result ≡ length (states c.args.session.now.line) =
    rw c.journal-line.ensures.journal at c.states-states.ensures.count in
    let more : c.cursor-cursor.result + 1 ≢ c.states-states.result =
    (λ last. let bad : ⊥ = omega (arith, last) in bad) in
    let entry : IsEntryAt c.args.session.now.line c.cursor-cursor.result c.entry-entry.result.now =
    rw c.journal-line.ensures.journal at c.entry-entry.ensures in
    shown_way c.args.session.now.database c.args.session.now.line (Redo 0 []) c.names.result.now
    c.in_ok-plan.plan c.planned.result
    (redo_task c.args.session.now.database c.args.session.now.line c.cursor-cursor.result
    c.states-states.result c.entry-entry.result.now to c.in_ok-plan.plan
    c.journal-line.ensures.states here all more entry there leads)
    (c.names.ensures.names ∙ ap (λ (d : Database). d.names) c.db.ensures.db)
    c.planned.ensures.ending c.planned.ensures.text

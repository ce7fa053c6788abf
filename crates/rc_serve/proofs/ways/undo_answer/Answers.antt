use Rattle.std.proofs.Common.{◌≡◌, ◌≢◌, ◌∙◌, ◌-◌, ℕ, [], ap, arith}
use Rattle.std.specs.Global.{Vec}
use Rattle.std.proofs.lemmas.List.{nil_from_length}
use Rattle.rc_model.specs.Names.{Has}
use Rattle.rc_model.specs.Database.{Database}
use Rattle.rc_model.specs.Line.{IsEntryAt, cursor}
use Rattle.rc_model.specs.Session.{Undo}
use Rattle.rc_model.specs.declared.Refusal.TheVariants.{NothingToUndo}
use Rattle.rc_serve.proofs.WaysShown.{opens, refused_way, shown_way, undo_task}
use Rattle.rc_serve.proofs.ways.undo_answer.Goals as goal

pub returns-then-cursor-eq0 : goal.returns-then-cursor-eq0
returns-then-cursor-eq0 c =
    let here : c.cursor-cursor.result ≡ cursor c.args.session.now.line =
    rw c.journal-line.ensures.journal at c.cursor-cursor.ensures in
    refused_way c.args.session.now.database c.args.session.now.line (Undo 0 []) NothingToUndo
    c.refused.result c.refused.ensures.ending
    (ap (λ (t : Vec ℕ). t.items) c.refused.ensures.text ∙ c.in_ok-refusal_text.ensures)
    (nil_from_length c.args.session.now.line.before (omega (arith, here)))

pub planned-requires : goal.planned-requires
planned-requires c =
    let (to, there, leads) = c.in_ok-plan.ensures in
    opens c.args.session.now.database c.args.session.now.line c.names.result.now (Has to.live)
    c.in_ok-plan.plan c.journal-line.ensures.states
    (c.names.ensures.names ∙ ap (λ (d : Database). d.names) c.db.ensures.db) leads

pub returns : goal.returns
returns c =
    let (to, there, leads) = c.in_ok-plan.ensures in
    let here : c.cursor-cursor.result ≡ cursor c.args.session.now.line =
    rw c.journal-line.ensures.journal at c.cursor-cursor.ensures in
    let some : c.cursor-cursor.result ≢ 0 = (λ zero. let bad : ⊥ = omega (arith, zero) in bad) in
    let entry : IsEntryAt c.args.session.now.line (c.cursor-cursor.result - 1)
    c.entry-entry.result.now = rw c.journal-line.ensures.journal at c.entry-entry.ensures in
    shown_way c.args.session.now.database c.args.session.now.line (Undo 0 []) c.names.result.now
    c.in_ok-plan.plan c.planned.result
    (undo_task c.args.session.now.database c.args.session.now.line c.cursor-cursor.result
    c.entry-entry.result.now to c.in_ok-plan.plan c.journal-line.ensures.states here some
    entry there leads)
    (c.names.ensures.names ∙ ap (λ (d : Database). d.names) c.db.ensures.db)
    c.planned.ensures.ending c.planned.ensures.text

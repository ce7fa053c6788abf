use Rattle.std.proofs.Common.{◌∙◌, ◌<◌, ℕ, List, length, ap, subst, sym}
use Rattle.rc_historytext.specs.Text.{GenerationText, HistoryText, IsHistoryText}
use Rattle.rc_historytext.specs.Moves.{with_session}
use Rattle.rc_historytext.proofs.Changed.{put_is}
use Rattle.rc_historytext.proofs.Kept.{session_kept}
use Rattle.rc_historytext.proofs.forms.HistoryForm.replace.Goals as goal

pub returns-clause-put : goal.returns-clause-put
returns-clause-put c =
    let present : ℕ = c.self.inside.present in
    let gs : List GenerationText = c.self.inside.generations.items in
    let low : present < length gs =
    subst (λ (t : HistoryText). t.present < length t.generations) (sym c.self.view_is) c.requires in
    ap (λ (all : List GenerationText). record { present = present; generations = all })
    (put_is present gs c.index_mut.result.now c.put_session.new.generation c.args.session.now
    c.args.first_passed c.args.last_passed low c.index_mut.ensures.value c.put_session.ensures)
    ∙ ap (λ (t : HistoryText).
    with_session t c.args.session.now c.args.first_passed c.args.last_passed) c.self.view_is

pub returns-clause-text : goal.returns-clause-text
returns-clause-text c is short =
    subst IsHistoryText (sym (returns-clause-put c))
    (session_kept c.args.self.now c.args.session.now c.args.first_passed
    c.args.last_passed is short)

use Rattle.std.proofs.Common.{◌∙◌, ◌++◌, ap}
use Rattle.rc_historytext.specs.Text.{GenerationText, OfMarks, OfDatabase, spell}
use Rattle.rc_historytext.specs.Offsets.{lines_before}
use Rattle.rc_historytext.proofs.Writing.{line_more}
use Rattle.rc_historytext.proofs.forms.HistoryForm.lines_to_database.Goals as goal

pub returns : goal.returns
returns c =
    let g : GenerationText = c.args.generation.now in
    line_more c.in_ok-out.out.items c.push_text.new.out.items (lines_before c.args.self.now)
    (OfMarks g.first_passed g.last_passed) (OfDatabase g.database) c.in_ok-out.ensures
    (c.in_ok-push_text.ensures ∙ ap (λ (h : GenerationText).
    c.in_ok-out.out.items ++ spell (OfDatabase h.database)) c.generation.view_is)

use Rattle.std.proofs.Common.{◌∙◌, ◌++◌, ap, length, refl, sym, rules}
use Rattle.rc_dbtext.specs.Form.{spells}
use Rattle.rc_historytext.specs.Text.{GenerationText, OfMarks, RenameCount, generation_lines, spell}
use Rattle.rc_historytext.proofs.Writing.{generation_written, line_written}
use Rattle.rc_historytext.proofs.write.push_generation.Goals as goal

pub returns : goal.returns
returns c =
    let inside : GenerationText = record {
      first_passed = c.generation.inside.first_passed;
      last_passed = c.generation.inside.last_passed;
      database = c.generation.inside.database.now;
      session = c.generation.inside.session.now;
      renames = c.generation.inside.renames.items;
    } in
    generation_written c.args.out.now.items c.push_marks.new.out.items c.push_text.new.out.items
    c.push_text-2.new.out.items c.push_line.new.out.items c.push_renames.new.out.items inside
    (c.in_ok-push_marks.ensures
    ∙ ap (λ (g : GenerationText).
    c.args.out.now.items ++ spell (OfMarks g.first_passed g.last_passed))
    (sym c.generation.view_is))
    c.in_ok-push_text.ensures c.in_ok-push_text-2.ensures
    (line_written c.push_text-2.new.out.items c.push_line.new.out.items
    (RenameCount (length inside.renames)) refl (search rules))
    (search rules)
    ∙ ap (λ (g : GenerationText). c.args.out.now.items ++ spells spell (generation_lines g))
    c.generation.view_is

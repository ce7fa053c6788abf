use Rattle.std.proofs.Common.{refl, rules}
use Rattle.rc_historytext.specs.Text.{First, OfPlace}
use Rattle.rc_historytext.proofs.Writing.{line_written, two_written}
use Rattle.rc_historytext.proofs.write.push_place.Goals as goal

pub returns : goal.returns
returns c =
    two_written c.args.out.now.items c.push_line.new.out.items c.push_words.new.out.items First
    (OfPlace c.args.present c.args.count)
    (line_written c.args.out.now.items c.push_line.new.out.items First refl
    c.in_ok-push_line.ensures.written)
    (line_written c.push_line.new.out.items c.push_words.new.out.items
    (OfPlace c.args.present c.args.count) refl (search rules))

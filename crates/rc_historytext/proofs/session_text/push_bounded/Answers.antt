use Rattle.rc_livetext.specs.Text.{First, OfBound, OfServices}
use Rattle.std.proofs.Common.{true}
use Rattle.rc_historytext.proofs.SessionLines.{three_lines}
use Rattle.rc_historytext.proofs.session_text.push_bounded.Goals as goal

pub returns : goal.returns
returns c =
    three_lines c.args.out.now.items c.push_line.new.out.items c.push_names.new.out.items
    c.push_bound.new.out.items (First true) (OfServices c.args.services.now)
    (OfBound c.args.bound) c.in_ok-push_line.ensures.written
    c.in_ok-push_names.ensures c.in_ok-push_bound.ensures

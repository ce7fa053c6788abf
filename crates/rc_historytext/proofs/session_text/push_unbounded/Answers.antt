use Rattle.rc_livetext.specs.Text.{First, OfServices}
use Rattle.std.proofs.Common.{false}
use Rattle.rc_historytext.proofs.SessionLines.{two_lines}
use Rattle.rc_historytext.proofs.session_text.push_unbounded.Goals as goal

pub returns : goal.returns
returns c =
    two_lines c.args.out.now.items c.push_line.new.out.items c.push_names.new.out.items
    (First false) (OfServices c.args.services.now) c.in_ok-push_line.ensures.written
    c.in_ok-push_names.ensures

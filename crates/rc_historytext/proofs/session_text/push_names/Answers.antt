use Rattle.rc_historytext.proofs.SessionLines.{names_written}
use Rattle.rc_historytext.proofs.session_text.push_names.Goals as goal

pub returns : goal.returns
returns c =
    names_written c.args.out.now.items c.extend_from_slice.new.self.items
    c.push_spaced.new.out.items c.extend_from_slice-2.new.self.items c.args.word.now
    c.args.names.now c.in_ok-extend_from_slice.ensures.items c.in_ok-push_spaced.ensures
    c.in_ok-extend_from_slice-2.ensures.items

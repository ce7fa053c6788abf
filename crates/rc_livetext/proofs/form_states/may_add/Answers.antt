use Rattle.std.proofs.Common.{sym, arith}
use Rattle.rc_livetext.proofs.Adding.{may_follow}
use Rattle.rc_livetext.proofs.form_states.may_add.Goals as goal

pub returns-then-has_room : goal.returns-then-has_room
returns-then-has_room c =
    may_follow c.args.bundles.now c.args.bundle.now c.in-Some.last.now c.comes_before.result
    c.requires.before c.requires.bundle (omega arith)
    (sym (rw c.in-Some.is at c.last.ensures.value)) c.comes_before.ensures

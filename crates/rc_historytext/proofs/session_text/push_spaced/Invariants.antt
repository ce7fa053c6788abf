use Rattle.std.proofs.Common.{◌≡◌, ◌++◌, take}
use Rattle.rc_dbtext.specs.Lines.{words_after_spaces}
use Rattle.rc_historytext.proofs.session_text.push_spaced.Given as goal

-- the names so far, a space before each
abbrev pub invariant-loop-name : goal.invariant-loop-name
invariant-loop-name l =
    l.out.items ≡ l.fn.out.items ++ words_after_spaces (take l.name-index l.names)

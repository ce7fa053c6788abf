use Rattle.std.proofs.Common.{◌≡◌, ◌++◌, take}
use Rattle.std.specs.Prelude.{codes}
use Rattle.rc_dbtext.specs.Lines.{words_after_spaces}
use Rattle.rc_livetext.proofs.write.push_services.Given as goal

-- the word and the names so far
abbrev pub invariant-loop-id : goal.invariant-loop-id
invariant-loop-id l =
    l.out.items ≡ (l.fn.out.items ++ codes "services") ++ words_after_spaces (take l.id l.names)

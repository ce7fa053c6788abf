use Rattle.std.proofs.Common.{◌≡◌, map, take}
use Rattle.rc_args.specs.UpdateAsked.{restart_of}
use Rattle.rc_update.specs.Conversions.{conversions_of}
use Rattle.rc_args.proofs.update_words.restarts_of.Given as goal

-- those of the names so far
abbrev pub invariant-loop-name : goal.invariant-loop-name
invariant-loop-name l =
    conversions_of l.list.items ≡ take l.name-index (map (λ name. restart_of name.now) l.names)

use Rattle.std.proofs.Common.{◌≡◌, map, take}
use Rattle.rc_args.specs.Reading.{listed_of}
use Rattle.rc_cli.specs.Updating.{listed_on}
use Rattle.rc_cli.proofs.updating.failing_on.Given as goal

-- those of the way among the transitions so far
abbrev pub invariant-loop-one : goal.invariant-loop-one
invariant-loop-one l =
    map listed_of l.those.items ≡ listed_on l.way (take l.one-index (map listed_of l.failing))

-- A transition that was read, by its way and the name of its service.
use Rattle.rc_args.specs.declared.transitions.Transition.{Transition}
use Rattle.rc_args.specs.Listed.{Listed}

-- the transition that was read
abbrev pub listed_of : Transition → Listed
listed_of one = record { way = one.way; name = one.name.now }

use Rattle.std.proofs.Common.{take}
use Rattle.rc_args.specs.Commands.{Reads}
use Rattle.rc_args.specs.Told.{told_command}
use Rattle.rc_args.proofs.cmdline.commands.command_of.Given as goal

-- the arguments before this one are added
abbrev pub invariant-loop-told : goal.invariant-loop-told
invariant-loop-told l = Reads l.command (told_command l.name (take l.told-index l.args))

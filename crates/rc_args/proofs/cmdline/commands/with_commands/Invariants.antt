use Rattle.std.proofs.Common.{take}
use Rattle.clap.specs.Words.{App}
use Rattle.rc_args.specs.Commands.{Reads}
use Rattle.rc_args.specs.Told.{with_told}
use Rattle.rc_args.proofs.cmdline.commands.with_commands.Given as goal

-- the commands before this one are added
abbrev pub invariant-loop-told : goal.invariant-loop-told
invariant-loop-told l =
    (app : App) → Reads l.fn.program app
    → Reads l.whole (with_told app (take l.told-index l.commands))

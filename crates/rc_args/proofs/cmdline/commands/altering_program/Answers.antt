use Rattle.rc_args.specs.Commands.{altering_program, edit_command, flag, option}
use Rattle.rc_args.specs.Commands.{repeated, restart_command, show_command, source_list}
use Rattle.rc_args.specs.Commands.{update_command}
use Rattle.rc_args.proofs.cmdline.commands.altering_program.Goals as goal

pub returns : goal.returns
unfolding altering_program edit_command flag option repeated restart_command show_command
    source_list update_command
returns c = c.with_commands.ensures _ c.changing_program-changing.ensures

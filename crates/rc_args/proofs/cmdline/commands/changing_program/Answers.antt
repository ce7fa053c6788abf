use Rattle.rc_args.specs.Commands.{change_command, changing_program, flag, long_option, option}
use Rattle.rc_args.specs.Commands.{session_command, start_command, step_command, stop_command}
use Rattle.rc_args.specs.Commands.{undo_command, word_list}
use Rattle.rc_args.proofs.cmdline.commands.changing_program.Goals as goal

pub returns : goal.returns
unfolding change_command changing_program flag long_option option session_command start_command
    step_command stop_command undo_command word_list
returns c = c.with_commands.ensures _ c.asking_program-asking.ensures

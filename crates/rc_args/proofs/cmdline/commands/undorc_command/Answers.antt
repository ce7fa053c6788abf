use Rattle.rc_args.specs.Commands.{cancel_command, check_command, flag}
use Rattle.rc_args.specs.Commands.{journal_command, list_command, option, program, show_command}
use Rattle.rc_args.specs.Commands.{status_command, word_list}
use Rattle.rc_args.proofs.cmdline.commands.undorc_command.Goals as goal

pub returns : goal.returns
unfolding cancel_command check_command flag journal_command list_command option program
    show_command status_command word_list
returns c = c.with_commands.ensures _ c.altering_program-altering.ensures

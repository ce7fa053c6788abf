use Rattle.rc_args.specs.Commands.{asking_program, compile_command, db_command, option}
use Rattle.rc_args.specs.Commands.{plan_command, replay_command, source_list, word_list}
use Rattle.rc_args.proofs.cmdline.commands.asking_program.Goals as goal

pub returns : goal.returns
unfolding asking_program compile_command db_command option plan_command replay_command
    source_list word_list
returns c = c.with_commands.ensures _ c.undorc_alone-alone.ensures

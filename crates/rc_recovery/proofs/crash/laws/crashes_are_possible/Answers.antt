use Rattle.std.proofs.Common.{[]}
use Rattle.rc_model.specs.declared.Event.TheVariants.{Take}
use Rattle.rc_recovery.proofs.Possible.{held, lowered, one_service, possible, raised, the_command}
use Rattle.rc_recovery.proofs.Possible.{the_files, the_text}
use Rattle.rc_recovery.proofs.Resting.{files}
use Rattle.rc_recovery.proofs.crash.laws.crashes_are_possible.Goals as goal

pub returns : goal.returns
returns c = (
  one_service,
  lowered,
  raised,
  the_command,
  files the_text [],
  the_files,
  Take 1 0,
  possible (record {
    one = c.scripts_give_one_list.ensures.value;
    right = c.scripts_give_one_list.ensures.fault;
  }),
  held,
)

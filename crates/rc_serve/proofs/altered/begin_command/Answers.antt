use Rattle.rc_serve.proofs.Steps.{not_step}
use Rattle.rc_serve.proofs.altered.begin_command.Goals as goal

pub returns-in_default : goal.returns-in_default
returns-in_default g c = record {
  before = λ command is. not_step c.args.said.now command c.in_default.not-Command is;
}

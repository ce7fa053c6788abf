use Rattle.rc_cli.proofs.FailureLemmas.{remembered_for}
use Rattle.rc_cli.proofs.laws.last_ends_are_remembered.Goals as goal

pub returns : goal.returns
returns c = remembered_for

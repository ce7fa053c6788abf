use Rattle.rc_cli.proofs.RestartLemmas.{comes_back}
use Rattle.rc_cli.proofs.laws.restarts_come_back.Goals as goal

pub returns : goal.returns
returns c d old middle ask events told limit of does moved =
    comes_back d old middle ask events told limit of does moved

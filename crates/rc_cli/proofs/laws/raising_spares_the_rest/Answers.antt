use Rattle.rc_cli.proofs.SparingLemmas.{raises, raises_alone}
use Rattle.rc_cli.proofs.laws.raising_spares_the_rest.Goals as goal

pub returns-clause-raises : goal.returns-clause-raises
returns-clause-raises c old new list line parts plan is update planned =
    raises old new list line parts plan is update planned

pub returns-clause-alone : goal.returns-clause-alone
returns-clause-alone c old new list line parts plan is update planned =
    raises_alone old new list line parts plan planned

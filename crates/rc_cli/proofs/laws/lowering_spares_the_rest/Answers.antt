use Rattle.rc_cli.proofs.SparingLemmas.{lowers, lowers_alone}
use Rattle.rc_cli.proofs.laws.lowering_spares_the_rest.Goals as goal

pub returns-clause-lowers : goal.returns-clause-lowers
returns-clause-lowers c old new list line parts plan is of update planned =
    lowers old new list line parts plan is of update planned

pub returns-clause-alone : goal.returns-clause-alone
returns-clause-alone c old new list line parts plan is of update planned =
    lowers_alone old new list line parts plan planned

use Rattle.rc_model.proofs.Fitting.{fitted_back, fitted_on, fitted_first, fitted_last}
use Rattle.rc_line.proofs.laws.fitting_keeps_neighbours.Goals as goal

pub returns-clause-before : goal.returns-clause-before
returns-clause-before c line back three at = fitted_back line back three at

pub returns-clause-after : goal.returns-clause-after
returns-clause-after c line on three at = fitted_on line on three at

pub returns-clause-first : goal.returns-clause-first
returns-clause-first c line three none = fitted_first line three none

pub returns-clause-last : goal.returns-clause-last
returns-clause-last c line three none = fitted_last line three none

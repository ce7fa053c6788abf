use Rattle.std.proofs.Common.{refl}
use Rattle.rc_source.proofs.laws.texts_say_so.Goals as goal

pub returns-clause-kind : goal.returns-clause-kind
returns-clause-kind c = refl

pub returns-clause-kind_once : goal.returns-clause-kind_once
returns-clause-kind_once c = refl

pub returns-clause-names : goal.returns-clause-names
returns-clause-names c = refl

pub returns-clause-limit : goal.returns-clause-limit
returns-clause-limit c = refl

pub returns-clause-folder : goal.returns-clause-folder
returns-clause-folder c = λ entries. refl

pub returns-clause-entries : goal.returns-clause-entries
returns-clause-entries c = λ files. refl

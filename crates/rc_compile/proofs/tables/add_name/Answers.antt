use Rattle.std.proofs.Common.{ℕ, List, subst}
use Rattle.rc_names.specs.Names.{Adds}
use Rattle.rc_compile.proofs.tables.add_name.Goals as goal

pub returns-clause-adds : goal.returns-clause-adds
returns-clause-adds c fits =
    let P : List ℕ → Type 0 = λ name. Adds c.args.names.now name c.add.new.self in
    subst P c.in_ok-copy.ensures c.in_ok-add.ensures.holds

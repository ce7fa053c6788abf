use Rattle.std.proofs.Common.{subst, sym}
use Rattle.rc_model.specs.Database.{HaveBound}
use Rattle.rc_bundle.proofs.Changes.{changed_below}
use Rattle.rc_bundle.proofs.commands.defined.Goals as goal

pub returns-clause-bundles : goal.returns-clause-bundles
returns-clause-bundles c =
    changed_below _ _ _ _ _ c.len-len.ensures.table
    (subst (HaveBound _) (sym c.in-Ok-copy.ensures) c.requires.bundles) c.in-Ok.ensures.bound
    c.in-Ok-set.ensures.table

pub returns-clause-is_table : goal.returns-clause-is_table
returns-clause-is_table c = c.len-len.ensures.table

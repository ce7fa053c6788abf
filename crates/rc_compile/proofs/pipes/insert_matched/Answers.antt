use Rattle.std.proofs.Common.{◌⊎◌, ℕ, List, subst}
use Rattle.rc_model.specs.Names.{Has, Holds}
use Rattle.rc_compile.specs.Rows.{rows}
use Rattle.rc_compile.specs.Book.{ArePairedAt}
use Rattle.rc_compile.proofs.pipes.insert_matched.Goals as goal

pub returns-clause-members : goal.returns-clause-members
returns-clause-members c =
    subst (λ (from : List (List ℕ)). Holds c.insert_paired.new.set
    (λ s. Has c.args.set.now s ⊎ ArePairedAt c.args.names.now (rows c.args.feeds.now) from
    c.args.definition.now.name s))
    c.deref.ensures.value c.insert_paired.ensures.members

use Rattle.rc_set.proofs.Flags.{length_is, no_flag}
use Rattle.rc_set.proofs.Set.empty.Goals as goal

pub returns-clause-bound : goal.returns-clause-bound
returns-clause-bound c = length_is c.args.bound _

pub returns-clause-members : goal.returns-clause-members
returns-clause-members c =
    λ s has.
    no_flag c.args.bound c.div_ceil.result c.in_ok-words.words.items
    (c.in_ok-words.ensures.items_if_clones_equal (λ y e. e)) s has

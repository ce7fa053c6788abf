use Rattle.rc_graph.proofs.PairLemmas.{ascending_push, contains_push}
use Rattle.rc_graph.proofs.pairs.push_ascending.Goals as goal

pub returns-clause-ascending : goal.returns-clause-ascending
returns-clause-ascending c =
    rw c.in_ok-push.ensures.ok (ascending_push _ _ c.requires.ascending c.requires.lower)

pub returns-clause-members : goal.returns-clause-members
returns-clause-members c = rw c.in_ok-push.ensures.ok (contains_push _ _)

use Rattle.std.proofs.Common.{◌∙◌, ℕ, List, get_or, subst}
use Rattle.std.proofs.lemmas.List.{take_more, take_all}
use Rattle.rc_model.specs.Names.{Holds}
use Rattle.rc_compile.specs.Joining.{HasJoined}
use Rattle.rc_compile.proofs.Joins.{joins_more, set_at}
use Rattle.rc_compile.proofs.members.join.joined.Goals as goal

pub bounds-sets-id : goal.bounds-sets-id
bounds-sets-id c = c.requires.id

pub bounds-sets-t : goal.bounds-sets-t
bounds-sets-t c = c.requires.known c.loop-t.t-index 0 c.loop-t-test.true

pub returns-clause-bound : goal.returns-clause-bound
returns-clause-bound c = c.loop-t.invariant.bound

pub loop-t-preserved : goal.loop-t-preserved
loop-t-preserved c =
    let t = get_or c.args.list.now c.loop-t.t-index 0 in
    record {
      bound = c.join.ensures.bound ∙ c.loop-t.invariant.bound;
      members = rw (take_more c.args.list.now c.loop-t.t-index 0 c.loop-t-test.true)
          (joins_more c.args.sets.now c.args.id t _ c.loop-t.set c.join.new.self
          c.index-sets-t.result c.loop-t.invariant.members c.join.ensures.members
          (set_at c.args.sets.now t c.index-sets-t.result
          (c.requires.known c.loop-t.t-index 0 c.loop-t-test.true) c.index-sets-t.is));
    }

pub returns-clause-members : goal.returns-clause-members
returns-clause-members c =
    subst (λ (ids : List ℕ). Holds c.loop-t.set (HasJoined c.args.sets.now c.args.id ids))
    (take_all c.loop-t.t-index c.args.list.now c.loop-t-test.false) c.loop-t.invariant.members

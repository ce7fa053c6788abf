use Rattle.std.proofs.Common.{◌∙◌, ℕ, List, Contains, get_or, take, subst}
use Rattle.std.proofs.lemmas.List.{take_more, take_all}
use Rattle.rc_model.specs.Names.{Holds}
use Rattle.rc_compile.proofs.SetLists.{set_none, set_more}
use Rattle.rc_compile.proofs.members.sets.set_of.Goals as goal

pub loop-t-init : goal.loop-t-init
loop-t-init c = record {
  bound = c.in_ok-set.ensures.bound;
  members = set_none c.in_ok-set.set c.in_ok-set.ensures.members;
}

pub loop-t-preserved : goal.loop-t-preserved
loop-t-preserved c =
    let list = c.args.list.now in
    let i = c.loop-t.t-index in
    record {
      bound = c.insert.ensures.bound ∙ c.loop-t.invariant.bound;
      members =
          rw (take_more list i 0 c.loop-t-test.true)
          (set_more c.loop-t.set c.insert.new.self (take i list) (get_or list i 0)
          c.loop-t.invariant.members c.insert.ensures.members);
    }

pub returns-clause-members : goal.returns-clause-members
returns-clause-members c =
    subst (λ (ids : List ℕ). Holds c.loop-t.set (Contains ids))
    (take_all c.loop-t.t-index c.args.list.now c.loop-t-test.false) c.loop-t.invariant.members

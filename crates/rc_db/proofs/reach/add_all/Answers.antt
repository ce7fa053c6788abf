use Rattle.std.proofs.Common.{◌⊎◌, ◌∙◌, List, ℕ, get_or, Contains, subst, arith}
use Rattle.std.proofs.lemmas.List.{take_all}
use Rattle.std.proofs.lemmas.Option.{slice_get-get_or}
use Rattle.rc_model.specs.Names.{Has, Holds}
use Rattle.rc_db.proofs.Reaching.{one_more_id}
use Rattle.rc_db.proofs.reach.add_all.Goals as goal

pub loop-t-preserved : goal.loop-t-preserved
loop-t-preserved c =
    let there = slice_get-get_or c.args.list.now c.loop-t.t-index 0 (omega arith) in
    record {
      bound = c.insert.ensures.bound ∙ c.loop-t.invariant.bound;
      members =
          one_more_id c.args.set.now c.loop-t.set c.insert.new.self c.args.list.now c.loop-t.t-index
          (get_or c.args.list.now c.loop-t.t-index 0)
          there c.loop-t.invariant.members c.insert.ensures.members;
    }

pub returns-clause-members : goal.returns-clause-members
returns-clause-members c =
    let P : List ℕ → Type 0 =
    λ ids. Holds c.loop-t.set (λ s. Has c.args.set.now s ⊎ Contains ids s) in
    subst P (take_all c.loop-t.t-index c.args.list.now (omega arith)) c.loop-t.invariant.members

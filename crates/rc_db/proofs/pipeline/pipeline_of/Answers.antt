use Rattle.std.proofs.Common.{◌≡◌, ◌∙◌, ◌<◌, List, ℕ, length, slice_index, ap, sym, subst, arith}
use Rattle.rc_db.specs.Pipeline.{InPipelineOf, IsLastConsumer}
use Rattle.rc_db.proofs.Pipelines.{one_more_passed, all_passed, in_pipeline_within}
use Rattle.rc_db.proofs.pipeline.pipeline_of.Goals as goal

pub add_if_in_pipeline-requires-clause-set : goal.add_if_in_pipeline-requires-clause-set
add_if_in_pipeline-requires-clause-set c = c.loop-s.invariant.bound

pub add_if_in_pipeline-requires-clause-id : goal.add_if_in_pipeline-requires-clause-id
add_if_in_pipeline-requires-clause-id c = c.requires

pub loop-s-init : goal.loop-s-init
loop-s-init c = record {
  bound = c.in_ok-set.ensures.bound ∙ c.len.ensures.len ∙ ap length c.names.ensures.names;
  members = λ s. (
    λ has. absurd (c.in_ok-set.ensures.members s has),
    λ passed. absurd (omega (arith, passed.0)),
  );
}

pub add_if_in_pipeline-requires-clause-service : goal.add_if_in_pipeline-requires-clause-service
add_if_in_pipeline-requires-clause-service c =
    let long : length c.names-2.result.now ≡ length c.args.db.now.names =
    ap length c.names-2.ensures.names in omega arith

pub add_if_in_pipeline-requires-clause-bound : goal.add_if_in_pipeline-requires-clause-bound
add_if_in_pipeline-requires-clause-bound c =
    ap length c.deref.ensures.value ∙ c.in_ok-ends.ensures.bound

pub add_if_in_pipeline-requires-clause-ends : goal.add_if_in_pipeline-requires-clause-ends
add_if_in_pipeline-requires-clause-ends c =
    let P : List ℕ → Type 0 = λ ends. (t : ℕ) → t < length c.args.db.now.names
    → IsLastConsumer c.args.db.now t (slice_index ends t) in
    subst P (sym c.deref.ensures.value) c.in_ok-ends.ensures.ends

pub loop-s-preserved : goal.loop-s-preserved
loop-s-preserved c = record {
  bound = c.add_if_in_pipeline.ensures.bound ∙ c.loop-s.invariant.bound;
  members =
      one_more_passed (InPipelineOf c.args.db.now c.args.id) c.loop-s.set
      c.add_if_in_pipeline.new.set c.loop-s.s c.loop-s.invariant.members
      c.add_if_in_pipeline.ensures.members;
}

pub returns : goal.returns
returns c =
    let long : length c.names-2.result.now ≡ length c.args.db.now.names =
    ap length c.names-2.ensures.names in
    all_passed (InPipelineOf c.args.db.now c.args.id) c.loop-s.set c.loop-s.s
    (length c.args.db.now.names) (omega arith)
    (λ s within. in_pipeline_within c.args.db.now c.args.id s c.names.ensures.database within)
    c.loop-s.invariant.members

use Rattle.std.proofs.Common.{◌≡◌, ◌<◌, length}
use Rattle.rc_model.specs.Names.{Holds}
use Rattle.rc_db.specs.Pipeline.{InPipelineOf}
use Rattle.rc_db.proofs.pipeline.pipeline_of.Given as goal

-- those passed that are in the pipeline
abbrev pub invariant-loop-s : goal.invariant-loop-s
invariant-loop-s l = record {
  bound : length l.set ≡ length l.db.names;
  members : Holds l.set (λ t. (t < l.s) × InPipelineOf l.db l.id t);
}

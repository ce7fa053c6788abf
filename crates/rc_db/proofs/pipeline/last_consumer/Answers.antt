use Rattle.std.proofs.Common.{slice_index}
use Rattle.rc_db.proofs.Pipelines.{flows_before}
use Rattle.rc_db.proofs.pipeline.last_consumer.Goals as goal

pub returns-in-Some : goal.returns-in-Some
returns-in-Some c =
    flows_before c.args.db.now c.args.s c.in-Some.t (slice_index c.args.ends.now c.in-Some.t)
    c.in-Some.ensures.some.0 (c.requires.ends c.in-Some.t c.in-Some.ensures.some.0)

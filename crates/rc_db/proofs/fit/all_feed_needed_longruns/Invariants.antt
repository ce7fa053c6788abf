use Rattle.std.proofs.Common.{ℕ, ◌<◌}
use Rattle.rc_model.specs.declared.Kind.TheVariants.{Longrun}
use Rattle.rc_model.specs.Graph.{Needs}
use Rattle.rc_model.specs.Database.{Feeds, IsKind}
use Rattle.rc_db.specs.Parts.{database_of}
use Rattle.rc_db.proofs.fit.all_feed_needed_longruns.Given as goal

-- those passed write for needed longruns
abbrev pub invariant-loop-s : goal.invariant-loop-s
invariant-loop-s l = (k t : ℕ) → k < l.s → Feeds (database_of l.parts) k t
    → IsKind (database_of l.parts) t Longrun × Needs l.parts.graph k t

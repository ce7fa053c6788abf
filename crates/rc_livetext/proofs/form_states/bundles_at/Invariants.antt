use Rattle.std.proofs.Common.{length}
use Rattle.rc_livetext.specs.Held.{HasBundles}
use Rattle.rc_livetext.proofs.form_states.bundles_at.Given as goal

-- the bundles so far stand in front of the rest
abbrev pub invariant-loop-read : goal.invariant-loop-read
invariant-loop-read l = HasBundles l.bytes l.bundles.items l.rest

abbrev pub decreases-loop-read : goal.decreases-loop-read
decreases-loop-read l = length l.rest

use Rattle.std.proofs.Common.{length, true, List}
use Rattle.rc_dbtext.specs.Words.{BundleText}
use Rattle.rc_livetext.specs.Following.{InState, place_after}
use Rattle.rc_livetext.specs.Held.{HasStates, HasNoBundle, HasNoMore, states_lines}
use Rattle.rc_livetext.proofs.form_states.states_to_last.Given as goal

-- the states so far stand in front of the rest, and no more bundles of the last one do
abbrev pub invariant-loop-after : goal.invariant-loop-after
invariant-loop-after l = record {
  has : HasStates l.bytes l.after.items l.rest;
  none : (bundles : List BundleText) → HasNoMore bundles l.bytes
      → HasNoBundle (place_after (InState true bundles) (states_lines l.after.items)) l.rest;
}

abbrev pub decreases-loop-after : goal.decreases-loop-after
decreases-loop-after l = length l.rest

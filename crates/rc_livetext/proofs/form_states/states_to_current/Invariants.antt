use Rattle.std.proofs.Common.{length}
use Rattle.rc_livetext.specs.Following.{AtStates, place_after}
use Rattle.rc_livetext.specs.Held.{HasStates, HasNoBundle, states_lines}
use Rattle.rc_livetext.proofs.form_states.states_to_current.Given as goal

-- the states so far stand in front of the rest, and no more bundles of the last one do
abbrev pub invariant-loop-before : goal.invariant-loop-before
invariant-loop-before l = record {
  has : HasStates l.bytes l.before.items l.rest;
  none : HasNoBundle (place_after AtStates (states_lines l.before.items)) l.rest;
}

abbrev pub decreases-loop-before : goal.decreases-loop-before
decreases-loop-before l = length l.rest

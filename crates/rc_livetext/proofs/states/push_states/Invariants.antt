use Rattle.std.proofs.Common.{◌≡◌, ◌++◌, All, length, take}
use Rattle.rc_line.specs.State.{states_of}
use Rattle.rc_livetext.specs.Meaning.{IsKnownState}
use Rattle.rc_livetext.specs.Parts.{IsWithin, state_texts}
use Rattle.rc_livetext.proofs.states.push_states.Given as goal

-- the states so far are after the others, and name what they may
abbrev pub invariant-loop-form : goal.invariant-loop-form
invariant-loop-form l = record {
  says : state_texts l.names l.held.items
      ≡ state_texts l.names l.fn.held.items ++ take l.form-index l.forms;
  sets : All (IsWithin (length l.names)) (states_of l.held.items);
  known : All (IsKnownState l.names) (take l.form-index l.forms);
}

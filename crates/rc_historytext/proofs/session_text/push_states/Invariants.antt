use Rattle.std.proofs.Common.{◌≡◌, ◌++◌, false, take}
use Rattle.std.specs.List.{flat_map}
use Rattle.rc_dbtext.specs.Form.{spells}
use Rattle.rc_livetext.specs.Text.{spell, state_lines}
use Rattle.rc_historytext.proofs.session_text.push_states.Given as goal

-- the lines so far
abbrev pub invariant-loop-state : goal.invariant-loop-state
invariant-loop-state l =
    l.out.items
    ≡ l.fn.out.items
    ++ spells spell (flat_map (state_lines false) (take l.state-index l.states))

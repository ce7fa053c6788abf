use Rattle.std.proofs.Common.{◌∙◌, ◌+◌, ◌==◌, ◌++◌, ℕ, List, length, take, ap, sym, arith}
use Rattle.rc_model.specs.Line.{State, states, cursor}
use Rattle.rc_model.proofs.Lists.{all_at, grown}
use Rattle.rc_dbtext.specs.Form.{spells}
use Rattle.rc_livetext.specs.Text.{spell, state_lines}
use Rattle.rc_livetext.specs.Spelling.{state_text}
use Rattle.rc_livetext.specs.Written.{state_bytes}
use Rattle.rc_livetext.specs.Parts.{IsWithin}
use Rattle.rc_livetext.proofs.Writing.{states_first, states_next, states_all}
use Rattle.rc_livetext.proofs.write.push_states.Goals as goal

pub push_state-requires : goal.push_state-requires
push_state-requires c =
    all_at (IsWithin (length c.args.names.now)) (states c.args.line.now.line) 0 _ c.requires.first
    c.requires.sets

pub step_on-requires-clause-place : goal.step_on-requires-clause-place
step_on-requires-clause-place c = omega (arith, c.states-last.ensures.count)

pub step_on-requires-clause-here : goal.step_on-requires-clause-here
step_on-requires-clause-here c = c.loop-place.invariant.here

pub push_state-requires-in-loop-place : goal.push_state-requires-in-loop-place
push_state-requires-in-loop-place c =
    all_at (IsWithin (length c.args.names.now)) (states c.args.line.now.line)
    (c.loop-place.place + 1) _ c.in_ok-step_on.ensures.next c.requires.sets

pub loop-place-init : goal.loop-place-init
loop-place-init c =
    let line = c.args.line.now.line in
    let s : State = record { live = c.args.live.now; table = c.args.table.now } in
    record {
      here = c.requires.first;
      said = c.in_ok-push_state.ensures
          ∙ ap (λ (t : List ℕ). c.args.out.now.items ++ t)
          (ap (λ (k : ℕ). spells spell (state_lines (k == 0) (state_text c.args.names.now s)))
          c.cursor-cursor.ensures
          ∙ sym (states_first c.args.names.now (cursor line) (states line) s c.requires.first));
    }

pub loop-place-preserved : goal.loop-place-preserved
loop-place-preserved c =
    let line = c.args.line.now.line in
    let s : State = record { live = c.step_on.new.live; table = c.step_on.new.table } in
    record {
      here = c.in_ok-step_on.ensures.next;
      said =
          grown c.push_state-in-loop-place.new.out.items c.loop-place.out.items c.args.out.now.items
          (state_bytes c.args.names.now (cursor line) 0
          (take (c.loop-place.place + 1) (states line))) _ _
          c.in_ok-push_state-2.ensures c.loop-place.invariant.said
          (states_next c.args.names.now (cursor line) (states line) (c.loop-place.place + 1) s
          c.in_ok-step_on.ensures.next
          ∙ ap (λ (k : ℕ). state_bytes c.args.names.now (cursor line) 0
          (take (c.loop-place.place + 1) (states line)) ++ spells spell
          (state_lines (k == (c.loop-place.place + 1)) (state_text c.args.names.now s)))
          (sym c.cursor-cursor.ensures));
    }

pub returns : goal.returns
returns c =
    let line = c.args.line.now.line in
    c.loop-place.invariant.said ∙ ap (λ (t : List ℕ). c.args.out.now.items ++ t)
    (states_all c.args.names.now (cursor line) (states line) (c.loop-place.place + 1)
    (omega (arith, c.states-last.ensures.count)))

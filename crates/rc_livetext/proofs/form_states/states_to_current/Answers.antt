use Rattle.std.proofs.Common.{◌≡◌, ◌++◌, ◌∷◌, [], List, rules, refl, subst, sym, Bool, ℕ, false}
use Rattle.std.proofs.lemmas.Result.{err_from_is_err_and}
use Rattle.rc_livetext.specs.Text.{StateText, OfState, spell}
use Rattle.rc_livetext.specs.Following.{AtStates, place_after}
use Rattle.rc_livetext.specs.FormText.{line_text}
use Rattle.rc_livetext.specs.Held.{HasStates, HasNoBundle, states_lines}
use Rattle.rc_livetext.proofs.Follows.{states_may}
use Rattle.rc_livetext.proofs.StateLines.{one_state, none_behind, state_is, other_line, not_before}
use Rattle.rc_livetext.proofs.StateLines.{stops_here, stops_short}
use Rattle.rc_livetext.proofs.Rests.{shorter_behind}
use Rattle.rc_livetext.proofs.form_states.states_to_current.Goals as goal

pub returns-in_default : goal.returns-in_default
returns-in_default c =
    let held = c.loop-before.invariant in
    let opens = (states_may AtStates false c.loop-before.before.items refl held.has.0).1 in
    let read = c.in_ok-line.ensures.ok in
    record {
      ok = tt;
      fault = record {
        states = c.loop-before.before.items;
        rest = c.loop-before.rest.now;
        has = held.has;
        size = refl;
        none = other_line _ (line_text c.in_ok-line.line) c.loop-before.rest.now
            c.in_ok-line.behind.now read.0 read.1
            (not_before _ c.in_ok-line.line c.loop-before.rest.now c.in_ok-line.behind.now opens
            held.none read.1 c.in_default.not-State);
      };
    }

pub loop-before-preserved : goal.loop-before-preserved
loop-before-preserved c =
    let held = c.loop-before.invariant in
    let state : StateText =
    record { live = c.in-State.live.items; bundles = c.in_ok-bundles.bundles.items } in
    let line = rw c.in-State.is at c.in_ok-line.ensures.ok in
    let Line_of : Bool → Type 0 =
    λ b. c.loop-before.rest.now ≡ spell (OfState b c.in-State.live.items)
    ++ c.in_ok-line.behind.now in
    let read = c.in_ok-bundles.ensures.ok in
    let pushed : c.push.new.self.items ≡ c.loop-before.before.items ++ state ∷ [] = search rules in
    let Has : List StateText → Type 0 =
    λ ss. HasStates c.args.bytes.now ss c.in_ok-bundles.behind.now in
    let Ends : List StateText → Type 0 =
    λ ss. HasNoBundle (place_after AtStates (states_lines ss)) c.in_ok-bundles.behind.now in
    record {
      has = subst Has (sym pushed)
          (one_state state c.loop-before.before.items c.args.bytes.now c.loop-before.rest.now
          c.in_ok-line.behind.now c.in_ok-bundles.behind.now held.has line.0
          (subst Line_of c.if-current.false line.1) read.0);
      none = subst Ends (sym pushed)
          (none_behind false AtStates c.loop-before.before.items state c.in_ok-bundles.behind.now
          refl
          held.has.0 (state_is state line.0 read.0.0) read.1);
    }

pub returns-in_err-line-clause-fault : goal.returns-in_err-line-clause-fault
returns-in_err-line-clause-fault c =
    let p = err_from_is_err_and c.from_residual.result c.from_residual.ensures.1 in
    rw (p.1, p.2)
    (stops_here AtStates c.args.bytes.now c.loop-before.rest.now c.loop-before.before.items
    c.in_err-line.field-0.0 c.loop-before.invariant.has c.in_err-line.ensures.fault)

pub returns-then-current-clause-ok : goal.returns-then-current-clause-ok
returns-then-current-clause-ok c =
    let line = rw c.in-State.is at c.in_ok-line.ensures.ok in
    let Line_of : Bool → Type 0 =
    λ b. c.loop-before.rest.now ≡ spell (OfState b c.in-State.live.items)
    ++ c.in_ok-line.behind.now in (
      line.0,
      subst (λ (r : List ℕ). HasStates c.args.bytes.now c.loop-before.before.items r)
          (subst Line_of c.if-current.true line.1) c.loop-before.invariant.has,
    )

pub returns-in_err-bundles-clause-fault : goal.returns-in_err-bundles-clause-fault
returns-in_err-bundles-clause-fault c =
    let p = err_from_is_err_and c.from_residual-in_err-bundles.result
    c.from_residual-in_err-bundles.ensures.1 in
    rw (p.1, p.2)
    (stops_short AtStates c.args.bytes.now c.in_err-bundles.field-0.0
    c.in_err-bundles.ensures.fault)

pub loop-before-smaller : goal.loop-before-smaller
loop-before-smaller c =
    shorter_behind (line_text c.in_ok-line.line) c.loop-before.rest.now c.in_ok-line.behind.now
    c.in_ok-bundles.behind.now c.in_ok-bundles.bundles.items c.in_ok-line.ensures.ok.1
    c.in_ok-bundles.ensures.ok.0

use Rattle.std.proofs.Common.{◌≡◌, ◌++◌, ◌∷◌, [], List, rules, refl, subst, sym, Bool, ℕ, true}
use Rattle.std.proofs.lemmas.Result.{err_from_is_err_and}
use Rattle.rc_livetext.specs.Text.{StateText, OfState, spell}
use Rattle.rc_livetext.specs.Following.{InState, place_after}
use Rattle.rc_livetext.specs.FormText.{line_text}
use Rattle.rc_livetext.specs.Held.{HasStates, HasNoBundle, states_lines}
use Rattle.rc_livetext.proofs.Follows.{states_may}
use Rattle.rc_livetext.proofs.StateLines.{one_state, none_behind, state_is, other_line, not_behind}
use Rattle.rc_livetext.proofs.StateLines.{stops_here, stops_short}
use Rattle.rc_livetext.proofs.Rests.{shorter_behind}
use Rattle.rc_livetext.proofs.StateLines.{not_again}
use Rattle.rc_livetext.proofs.form_states.states_to_last.Goals as goal

pub returns-then-current : goal.returns-then-current
returns-then-current c =
    let held = c.loop-after.invariant in
    let line = rw c.in-State.is at c.in_ok-line.ensures.ok in
    let Line_of : Bool → Type 0 =
    λ b. c.loop-after.rest.now ≡ spell (OfState b c.in-State.live.items)
    ++ c.in_ok-line.behind.now in
    record {
      ok = tt;
      fault = λ bundles more.
          let opens =
          (states_may (InState true bundles) true c.loop-after.after.items refl held.has.0).1 in
          record {
            states = c.loop-after.after.items;
            rest = c.loop-after.rest.now;
            has = held.has;
            size = refl;
            none = other_line _ (OfState true c.in-State.live.items) c.loop-after.rest.now
                c.in_ok-line.behind.now line.0
                (subst Line_of c.if-current.true line.1) (not_again _ c.in-State.live.items opens);
          };
    }

pub returns-in_default : goal.returns-in_default
returns-in_default c =
    let held = c.loop-after.invariant in
    let read = c.in_ok-line.ensures.ok in
    record {
      ok = tt;
      fault = λ bundles more.
          let opens =
          (states_may (InState true bundles) true c.loop-after.after.items refl held.has.0).1 in
          record {
            states = c.loop-after.after.items;
            rest = c.loop-after.rest.now;
            has = held.has;
            size = refl;
            none = other_line _ (line_text c.in_ok-line.line) c.loop-after.rest.now
                c.in_ok-line.behind.now read.0 read.1
                (not_behind _ c.in_ok-line.line c.loop-after.rest.now c.in_ok-line.behind.now opens
                (held.none bundles more) read.1 c.in_default.not-Last c.in_default.not-State);
          };
    }

pub loop-after-preserved : goal.loop-after-preserved
loop-after-preserved c =
    let held = c.loop-after.invariant in
    let state : StateText =
    record { live = c.in-State.live.items; bundles = c.in_ok-bundles-in-State.bundles.items } in
    let line = rw c.in-State.is at c.in_ok-line.ensures.ok in
    let Line_of : Bool → Type 0 =
    λ b. c.loop-after.rest.now ≡ spell (OfState b c.in-State.live.items)
    ++ c.in_ok-line.behind.now in
    let read = c.in_ok-bundles-in-State.ensures.ok in
    let pushed : c.push.new.self.items ≡ c.loop-after.after.items ++ state ∷ [] = search rules in
    let Has : List StateText → Type 0 =
    λ ss. HasStates c.args.bytes.now ss c.in_ok-bundles-in-State.behind.now in
    record {
      has = subst Has (sym pushed)
          (one_state state c.loop-after.after.items c.args.bytes.now c.loop-after.rest.now
          c.in_ok-line.behind.now c.in_ok-bundles-in-State.behind.now held.has line.0
          (subst Line_of c.if-current.false line.1) read.0);
      none = λ bundles more.
          let Ends : List StateText → Type 0 =
          λ ss. HasNoBundle (place_after (InState true bundles) (states_lines ss))
          c.in_ok-bundles-in-State.behind.now in
          subst Ends (sym pushed)
          (none_behind true (InState true bundles) c.loop-after.after.items state
          c.in_ok-bundles-in-State.behind.now refl
          held.has.0 (state_is state line.0 read.0.0) read.1);
    }

pub returns-in_err-line-clause-fault : goal.returns-in_err-line-clause-fault
returns-in_err-line-clause-fault c =
    let p = err_from_is_err_and c.from_residual.result c.from_residual.ensures.1 in
    rw (p.1, p.2)
    (λ bundles more. stops_here (InState true bundles) c.args.bytes.now c.loop-after.rest.now
    c.loop-after.after.items c.in_err-line.field-0.0 c.loop-after.invariant.has
    c.in_err-line.ensures.fault)

pub returns-in-Last-clause-ok : goal.returns-in-Last-clause-ok
returns-in-Last-clause-ok c =
    let line = rw c.in-Last.is at c.in_ok-line.ensures.ok in
    subst (λ (r : List ℕ). HasStates c.args.bytes.now c.loop-after.after.items r) line.1
    c.loop-after.invariant.has

pub returns-in_err-bundles-in-State-clause-fault : goal.returns-in_err-bundles-in-State-clause-fault
returns-in_err-bundles-in-State-clause-fault c =
    let p = err_from_is_err_and c.from_residual-in_err-bundles-in-State.result
    c.from_residual-in_err-bundles-in-State.ensures.1 in
    rw (p.1, p.2)
    (λ bundles more. stops_short (InState true bundles) c.args.bytes.now
    c.in_err-bundles-in-State.field-0.0 c.in_err-bundles-in-State.ensures.fault)

pub loop-after-smaller : goal.loop-after-smaller
loop-after-smaller c =
    shorter_behind (line_text c.in_ok-line.line) c.loop-after.rest.now c.in_ok-line.behind.now
    c.in_ok-bundles-in-State.behind.now c.in_ok-bundles-in-State.bundles.items
    c.in_ok-line.ensures.ok.1 c.in_ok-bundles-in-State.ensures.ok.0

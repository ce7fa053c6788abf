use Rattle.std.proofs.Common.{◌≡◌, ◌∙◌, ◌+◌, ◌++◌, ◌∷◌, [], List, All, take, arith, refl, sym, ap}
use Rattle.std.proofs.Common.{subst}
use Rattle.std.proofs.lemmas.Bool.{false≢true}
use Rattle.std.proofs.lemmas.List.{append-nil, take_all, take_more}
use Rattle.std.proofs.lemmas.List.Elements.{All-push}
use Rattle.rc_livetext.specs.Text.{IsStateText, StateText}
use Rattle.rc_livetext.specs.Meaning.{IsKnownState}
use Rattle.rc_livetext.specs.Parts.{state_texts}
use Rattle.rc_livetext.proofs.Pairs.{taken_one}
use Rattle.rc_livetext.proofs.states.push_states.Goals as goal

pub loop-form-init : goal.loop-form-init
loop-form-init c = record {
  says = sym (append-nil (state_texts c.args.names.now c.args.held.now.items));
  sets = c.requires.sets;
  known = λ k d within. absurd (omega arith);
}

pub push_state-requires-clause-text : goal.push_state-requires-clause-text
push_state-requires-clause-text c =
    subst IsStateText (sym c.form-item.is)
    (c.requires.text c.loop-form.form-index c.form-item.result c.loop-form-test.true)

pub push_state-requires-clause-sets : goal.push_state-requires-clause-sets
push_state-requires-clause-sets c = c.loop-form.invariant.sets

pub returns-then-not-branch-clause-known : goal.returns-then-not-branch-clause-known
returns-then-not-branch-clause-known c = (
  λ yes. absurd (false≢true yes),
  λ all. absurd (false≢true (sym c.if-not-branch.true
      ∙ c.in_ok-push_state.ensures.known.1
      (subst (IsKnownState c.args.names.now) (sym c.form-item.is)
      (all c.loop-form.form-index c.form-item.result c.loop-form-test.true)))),
)

pub loop-form-preserved : goal.loop-form-preserved
loop-form-preserved c =
    let Is : StateText → Type 0 = IsKnownState c.args.names.now in
    let front : List StateText = take c.loop-form.form-index c.args.forms.now in
    let more : take (c.loop-form.form-index + 1) c.args.forms.now ≡ front ++ c.form-item.result ∷ []
    = take_more c.args.forms.now c.loop-form.form-index c.form-item.result c.loop-form-test.true
    ∙ ap (λ (t : StateText). front ++ t ∷ []) (sym c.form-item.is) in
    record {
      says = taken_one (state_texts c.args.names.now c.args.held.now.items)
          (state_texts c.args.names.now c.loop-form.held.items)
          (state_texts c.args.names.now c.push_state.new.held.items) c.args.forms.now
          c.loop-form.form-index c.form-item.result c.loop-form-test.true c.form-item.is
          c.loop-form.invariant.says (c.in_ok-push_state.ensures.says c.if-not-branch.false);
      sets = c.in_ok-push_state.ensures.sets c.if-not-branch.false;
      known = subst (All Is) (sym more) (All-push Is front c.form-item.result
          c.loop-form.invariant.known
          (c.in_ok-push_state.ensures.known.0 c.if-not-branch.false));
    }

pub returns-clause-known : goal.returns-clause-known
returns-clause-known c = (
  λ yes. subst (All (IsKnownState c.args.names.now))
      (take_all c.loop-form.form-index c.args.forms.now c.loop-form-test.false)
      c.loop-form.invariant.known,
  λ all. refl,
)

pub returns-clause-says : goal.returns-clause-says
returns-clause-says c = λ yes.
    c.loop-form.invariant.says
    ∙ ap (λ (l : List StateText). state_texts c.args.names.now c.args.held.now.items ++ l)
    (take_all c.loop-form.form-index c.args.forms.now c.loop-form-test.false)

pub returns-clause-sets : goal.returns-clause-sets
returns-clause-sets c = λ yes. c.loop-form.invariant.sets

use Rattle.std.proofs.Common.{◌≡◌, ◌∙◌, ◌↔◌, ◌∷◌, All, sym, ap, subst}
use Rattle.std.specs.Prelude.{IsTrue}
use Rattle.std.proofs.lemmas.Bool.{false≢true}
use Rattle.std.proofs.lemmas.List.Elements.{All-append, All-cons, All-head, All-tail}
use Rattle.std.proofs.lemmas.Result.{IfOk-weaker}
use Rattle.rc_model.proofs.Lists.{all_front, all_back}
use Rattle.rc_livetext.specs.Text.{IsStateText, LiveText, StateText}
use Rattle.rc_livetext.specs.Meaning.{IsKnownState, all_states}
use Rattle.rc_livetext.proofs.states.push_all.Goals as goal

pub push_states-requires-clause-text : goal.push_states-requires-clause-text
push_states-requires-clause-text c =
    subst (All IsStateText) (sym (c.as_slice.ensures.value
    ∙ ap (λ (t : LiveText). t.before) c.form.view_is)) c.requires.text.before

pub push_state-requires-clause-text : goal.push_state-requires-clause-text
push_state-requires-clause-text c =
    subst IsStateText (sym (ap (λ (t : LiveText). t.current) c.form.view_is))
    c.requires.text.current

pub push_states-requires-2-clause-text : goal.push_states-requires-2-clause-text
push_states-requires-2-clause-text c =
    subst (All IsStateText) (sym (c.as_slice-2.ensures.value
    ∙ ap (λ (t : LiveText). t.after) c.form.view_is)) c.requires.text.after

pub returns-then-not-branch-clause-known : goal.returns-then-not-branch-clause-known
returns-then-not-branch-clause-known c =
    let Is : StateText → Type 0 = IsKnownState c.args.names.now in
    let t : LiveText = c.args.form.now in
    let before : c.as_slice.result.now ≡ t.before =
    c.as_slice.ensures.value ∙ ap (λ (x : LiveText). x.before) c.form.view_is in (
      λ yes. absurd (false≢true yes),
      λ all. absurd (false≢true (sym c.if-not-branch.true ∙ c.in_ok-push_states.ensures.known.1
          (subst (All Is) (sym before) (all_front Is t.before (t.current ∷ t.after) all)))),
    )

pub returns-then-not-branch-2-clause-known : goal.returns-then-not-branch-2-clause-known
returns-then-not-branch-2-clause-known c =
    let Is : StateText → Type 0 = IsKnownState c.args.names.now in
    let t : LiveText = c.args.form.now in
    let current : c.form.inside.current ≡ t.current =
    ap (λ (x : LiveText). x.current) c.form.view_is in (
      λ yes. absurd (false≢true yes),
      λ all. absurd (false≢true (sym c.if-not-branch-2.true ∙ c.in_ok-push_state.ensures.known.1
          (subst Is (sym current) (All-head Is t.current t.after
          (all_back Is t.before (t.current ∷ t.after) all))))),
    )

pub returns-clause-known : goal.returns-clause-known
returns-clause-known c =
    let Is : StateText → Type 0 = IsKnownState c.args.names.now in
    let t : LiveText = c.args.form.now in
    let before : c.as_slice.result.now ≡ t.before =
    c.as_slice.ensures.value ∙ ap (λ (x : LiveText). x.before) c.form.view_is in
    let current : c.form.inside.current ≡ t.current =
    ap (λ (x : LiveText). x.current) c.form.view_is in
    let after : c.as_slice-2.result.now ≡ t.after =
    c.as_slice-2.ensures.value ∙ ap (λ (x : LiveText). x.after) c.form.view_is in
    IfOk-weaker c.push_states-2.result (λ known. IsTrue known ↔ All Is c.as_slice-2.result.now)
    (λ known. IsTrue known ↔ All Is (all_states t))
    (λ known here. (
      λ yes. All-append Is t.before (t.current ∷ t.after)
          (subst (All Is) before (c.in_ok-push_states.ensures.known.0 c.if-not-branch.false))
          (All-cons Is t.current t.after
          (subst Is current (c.in_ok-push_state.ensures.known.0 c.if-not-branch-2.false))
          (subst (All Is) after (here.0 yes))),
      λ all. here.1 (subst (All Is) (sym after) (All-tail Is t.current t.after
          (all_back Is t.before (t.current ∷ t.after) all))),
    )) c.push_states-2.ensures.known

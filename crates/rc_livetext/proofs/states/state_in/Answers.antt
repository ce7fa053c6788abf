use Rattle.std.proofs.Common.{◌≡◌, ◌∙◌, List, All, Contains, refl, sym, ap, subst}
use Rattle.std.proofs.lemmas.Bool.{false≢true}
use Rattle.rc_dbtext.specs.Words.{BundleText}
use Rattle.rc_livetext.specs.Text.{StateText}
use Rattle.rc_livetext.proofs.Knowing.{bundles_known, known_bundles, members_known}
use Rattle.rc_livetext.proofs.states.state_in.Goals as goal

pub returns-in_default-clause-unknown : goal.returns-in_default-clause-unknown
returns-in_default-clause-unknown c = λ known.
    let live : c.as_slice.result.now ≡ c.args.form.now.live =
    c.as_slice.ensures.value ∙ ap (λ (s : StateText). s.live) c.form.view_is in
    (rw c.in_default.is at c.in_ok-live.ensures.unknown)
    (subst (All (Contains c.args.names.now)) (sym live) known.live)

pub returns-then-not-bundles_are_complete-clause-unknown :
    goal.returns-then-not-bundles_are_complete-clause-unknown
returns-then-not-bundles_are_complete-clause-unknown c = λ known.
    let bundles : c.as_slice-2.result.now ≡ c.args.form.now.bundles =
    c.as_slice-2.ensures.value ∙ ap (λ (s : StateText). s.bundles) c.form.view_is in
    false≢true (c.if-not-bundles_are_complete.ensures.1
    (known_bundles c.args.names.now c.args.form.now c.as_slice-2.result.now bundles known))

pub table_of-requires-clause-known : goal.table_of-requires-clause-known
table_of-requires-clause-known c =
    let same : c.as_slice-3.result.now ≡ c.as_slice-2.result.now =
    c.as_slice-3.ensures.value ∙ sym c.as_slice-2.ensures.value in
    let P : List BundleText → Type 0 =
    λ bs. All (λ b. All (Contains c.args.names.now) b.members) bs in
    subst P (sym same) (members_known c.args.names.now c.as_slice-2.result.now
    (c.if-not-bundles_are_complete.ensures.0 refl))

pub returns-clause-known : goal.returns-clause-known
returns-clause-known c =
    let live : c.as_slice.result.now ≡ c.args.form.now.live =
    c.as_slice.ensures.value ∙ ap (λ (s : StateText). s.live) c.form.view_is in
    let bundles : c.as_slice-2.result.now ≡ c.args.form.now.bundles =
    c.as_slice-2.ensures.value ∙ ap (λ (s : StateText). s.bundles) c.form.view_is in
    bundles_known c.args.names.now c.args.form.now c.as_slice-2.result.now bundles
    (subst (All (Contains c.args.names.now)) live
    (rw c.in-Some.is at c.in_ok-live.ensures.known))
    (c.if-not-bundles_are_complete.ensures.0 refl)

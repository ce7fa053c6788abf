use Rattle.std.proofs.Common.{◌≡◌, ◌∙◌, ◌++◌, ◌∷◌, [], List, rules, refl, sym, subst, true, false}
use Rattle.std.proofs.lemmas.Bool.{false≢true}
use Rattle.rc_dbtext.specs.Words.{BundleText}
use Rattle.rc_livetext.specs.Text.{OfBundle}
use Rattle.rc_livetext.specs.Following.{MayAdd}
use Rattle.rc_livetext.specs.Held.{AreBundles, HasBundles}
use Rattle.rc_livetext.proofs.Adding.{one_more, same_bundle}
use Rattle.rc_livetext.proofs.Rests.{shorter}
use Rattle.rc_livetext.proofs.form_states.bundles_at.Goals as goal

pub returns-in_default-read-clause-ok : goal.returns-in_default-read-clause-ok
returns-in_default-read-clause-ok c =
    let none = rw c.in_default-read.is at c.in-Ok.ensures in
    (c.loop-read.invariant, λ b tail may next. none b tail may.is next)

pub returns-then-not-may_add-clause-ok : goal.returns-then-not-may_add-clause-ok
returns-then-not-may_add-clause-ok c =
    let read = rw c.in-Some.is at c.in-Ok.ensures in (
      c.loop-read.invariant,
      λ b tail may next.
          let same : c.in-Some.bundle ≡ b =
          same_bundle c.in-Some.bundle b c.in-Some.behind.now tail read.0 may.is
          (sym read.1 ∙ next) in
          let may_too : MayAdd c.loop-read.bundles.items c.in-Some.bundle =
          subst (λ (x : BundleText). MayAdd c.loop-read.bundles.items x) (sym same) may in
          let bad : false ≡ true =
          (rw c.as_slice.ensures.value at c.if-not-may_add.ensures).1 may_too in
          false≢true bad,
    )

pub loop-read-preserved : goal.loop-read-preserved
loop-read-preserved c =
    let read = rw c.in-Some.is at c.in-Ok.ensures in
    let may : MayAdd c.loop-read.bundles.items c.in-Some.bundle =
    (rw c.as_slice.ensures.value at c.if-not-may_add.ensures).0 refl in
    let pushed : c.push.new.self.items ≡ c.loop-read.bundles.items ++ c.in-Some.bundle ∷ [] =
    search rules in
    subst (λ (bs : List BundleText). HasBundles c.args.bytes.now bs c.in-Some.behind.now)
    (sym pushed)
    (one_more c.args.bytes.now c.loop-read.rest.now c.in-Some.behind.now c.loop-read.bundles.items
    c.in-Some.bundle c.loop-read.invariant may read.1)

pub may_add-requires-clause-before : goal.may_add-requires-clause-before
may_add-requires-clause-before c =
    subst AreBundles (sym c.as_slice.ensures.value) c.loop-read.invariant.0

pub may_add-requires-clause-bundle : goal.may_add-requires-clause-bundle
may_add-requires-clause-bundle c = (rw c.in-Some.is at c.in-Ok.ensures).0

pub loop-read-smaller : goal.loop-read-smaller
loop-read-smaller c =
    let read = rw c.in-Some.is at c.in-Ok.ensures in
    shorter (OfBundle c.in-Some.bundle) c.loop-read.rest.now c.in-Some.behind.now read.1

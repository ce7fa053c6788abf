use Rattle.rc_model.specs.Line.{IsChangedAt}
use Rattle.std.proofs.Common.{◌≡◌, ◌∙◌, ℕ, List, Some, All, Contains, sym, ap, subst}
use Rattle.rc_dbtext.specs.Text.{BundleText}
use Rattle.rc_dbtext.proofs.Bundling.{added_last}
use Rattle.rc_dbtext.proofs.bundles.add_bundle.Goals as goal

pub set_of-requires-clause-known : goal.set_of-requires-clause-known
set_of-requires-clause-known c =
    let is : c.as_slice.result.now ≡ c.args.form.now.members =
    c.as_slice.ensures.value ∙ ap (λ (b : BundleText). b.members) c.form.view_is in
    let P : List (List ℕ) → Type 0 = λ texts. All (Contains c.args.names.now) texts in
    subst P (sym is) c.requires.known

pub returns : goal.returns
returns c =
    let is : c.as_slice.result.now ≡ c.args.form.now.members =
    c.as_slice.ensures.value ∙ ap (λ (b : BundleText). b.members) c.form.view_is in
    let named : c.in_ok-name.name ≡ c.args.form.now.name =
    c.in_ok-name.ensures ∙ ap (λ (b : BundleText). b.name) c.form.view_is in (
      c.in_ok-set.set,
      added_last c.args.form.now.name c.in_ok-set.set c.tables_are_their_values.ensures
          c.args.table.now c.set.new.self c.len-before.ensures.table c.len-after.ensures.table
          c.requires.room c.requires.last
          (subst (λ (n : List ℕ). IsChangedAt c.args.table.now n (Some c.in_ok-set.set)
          c.set.new.self) named c.in_ok-set-2.ensures.table),
      c.in_ok-set.ensures.bound,
      c.in_ok-set.ensures.members ∙ is,
    )

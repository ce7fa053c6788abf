use Rattle.std.proofs.Common.{◌≡◌, ◌∙◌, ℕ, List, All, Contains, sym, ap, subst}
use Rattle.std.specs.List.{AllZip}
use Rattle.rc_db.specs.Service.{IsWritableService}
use Rattle.rc_model.specs.Database.{Database}
use Rattle.rc_dbtext.specs.Text.{BundleText, ServiceText, DbText}
use Rattle.rc_dbtext.specs.Parts.{FeedsKnown, IsServiceOf}
use Rattle.rc_dbtext.specs.Spelling.{text_of}
use Rattle.rc_dbtext.proofs.Joining.{all_feed_known, all_writable, fits, says}
use Rattle.rc_dbtext.proofs.read.joined.Goals as goal

pub services_of-requires-clause-fed : goal.services_of-requires-clause-fed
services_of-requires-clause-fed c =
    let is : c.as_slice.result.now ≡ c.args.form.now.services =
    c.as_slice.ensures.value ∙ ap (λ (t : DbText). t.services) c.form.view_is in
    let P : List ServiceText → Type 0 =
    λ services. All (λ s. FeedsKnown c.args.names s.body) services in
    subst P (sym is)
    (all_feed_known c.args.names c.args.form.now.services c.requires.names c.requires.complete.fed)

pub table_of-requires-clause-known : goal.table_of-requires-clause-known
table_of-requires-clause-known c =
    let is : c.as_slice-2.result.now ≡ c.args.form.now.bundles =
    c.as_slice-2.ensures.value ∙ ap (λ (t : DbText). t.bundles) c.form.view_is in
    let P : List BundleText → List (List ℕ) → Type 0 =
    λ bundles names. All (λ b. All (Contains names) b.members) bundles in
    subst (λ (bundles : List BundleText). P bundles c.args.names) (sym is)
    (subst (P c.args.form.now.bundles) (sym c.requires.names) c.requires.complete.members)

pub unreachable-requires : goal.unreachable-requires
unreachable-requires c =
    let services : c.as_slice.result.now ≡ c.args.form.now.services =
    c.as_slice.ensures.value ∙ ap (λ (t : DbText). t.services) c.form.view_is in
    let bundles : c.as_slice-2.result.now ≡ c.args.form.now.bundles =
    c.as_slice-2.ensures.value ∙ ap (λ (t : DbText). t.bundles) c.form.view_is in
    c.in-Err.ensures.unfit
    (fits c.args.form.now c.args.names c.in-Ok.services.items c.args.graph c.in-Ok-table_of.table
    c.requires.text c.requires.complete c.requires.names c.len-count.ensures.names.order
    (subst (λ (texts : List ServiceText). AllZip (IsServiceOf c.args.names) texts
    c.in-Ok.services.items) services c.in-Ok.ensures) c.requires.needs c.len-lists.ensures.lists
    (c.in-Ok-table_of.ensures.bundles ∙ bundles) c.in-Ok-table_of.ensures.bounds)

pub returns : goal.returns
returns c =
    let services : c.as_slice.result.now ≡ c.args.form.now.services =
    c.as_slice.ensures.value ∙ ap (λ (t : DbText). t.services) c.form.view_is in
    let bundles : c.as_slice-2.result.now ≡ c.args.form.now.bundles =
    c.as_slice-2.ensures.value ∙ ap (λ (t : DbText). t.bundles) c.form.view_is in
    let each : AllZip (IsServiceOf c.args.names) c.args.form.now.services c.in-Ok.services.items =
    subst (λ (texts : List ServiceText). AllZip (IsServiceOf c.args.names) texts
    c.in-Ok.services.items) services c.in-Ok.ensures in (
      subst (λ (d : Database). All IsWritableService d.services) (sym c.in-Ok-join.ensures.database)
          (all_writable c.args.form.now c.args.names c.in-Ok.services.items c.args.graph
          c.in-Ok-table_of.table c.requires.text c.requires.complete c.requires.names
          c.len-count.ensures.names.order each c.requires.needs
          c.len-lists.ensures.lists (c.in-Ok-table_of.ensures.bundles ∙ bundles)
          c.in-Ok-table_of.ensures.bounds),
      ap text_of c.in-Ok-join.ensures.database
          ∙ says c.args.form.now c.args.names c.in-Ok.services.items c.args.graph
          c.in-Ok-table_of.table c.requires.text c.requires.complete c.requires.names
          c.len-count.ensures.names.order each c.requires.needs
          c.len-lists.ensures.lists (c.in-Ok-table_of.ensures.bundles ∙ bundles)
          c.in-Ok-table_of.ensures.bounds,
    )

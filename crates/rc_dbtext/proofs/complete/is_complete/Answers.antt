use Rattle.std.proofs.Common.{◌∙◌, List, All, sym, ap, subst}
use Rattle.std.proofs.lemmas.Bool.{false≢true}
use Rattle.rc_dbtext.specs.Text.{DbText, ServiceText}
use Rattle.rc_dbtext.specs.Parts.{AreKnown}
use Rattle.rc_dbtext.proofs.Completing.{complete_bundles, complete_from, complete_services}
use Rattle.rc_dbtext.proofs.complete.is_complete.Goals as goal

pub returns-then-all_feed_well : goal.returns-then-all_feed_well
returns-then-all_feed_well c =
    let services = c.as_slice.ensures.value ∙ ap (λ (t : DbText). t.services) c.form.view_is in
    let bundles = c.as_slice-then-all_feed_well.ensures.value
    ∙ ap (λ (t : DbText). t.bundles) c.form.view_is in
    let P : List ServiceText → Type 0 = λ ss. All (λ s. AreKnown c.args.names.now s.needs) ss in (
      λ yes. complete_from c.args.form.now c.args.names.now c.as_slice.result.now
          c.as_slice-then-all_feed_well.result.now c.requires.names services bundles (
            subst P (sym services) c.requires.known,
            c.all_feed_well.ensures.0 c.if-all_feed_well.true,
          )
          (c.bundles_are_complete.ensures.0 yes),
      λ complete. c.bundles_are_complete.ensures.1 (complete_bundles c.args.form.now
          c.args.names.now c.as_slice.result.now c.as_slice-then-all_feed_well.result.now
          c.requires.names services bundles complete),
    )

pub returns-else-all_feed_well : goal.returns-else-all_feed_well
returns-else-all_feed_well c =
    let services = c.as_slice.ensures.value ∙ ap (λ (t : DbText). t.services) c.form.view_is in (
      λ yes. absurd (false≢true (sym c.if-all_feed_well.false ∙ yes)),
      λ complete. c.all_feed_well.ensures.1 (complete_services c.args.form.now c.args.names.now
          c.as_slice.result.now c.args.form.now.bundles c.requires.names services
          (λ k. c.args.form.now.bundles) complete).1,
    )

use Rattle.std.proofs.Common.{◌≡◌, ◌<◌, ◌++◌, ◌∷◌, [], List, length, All, arith, rules, sym, ap}
use Rattle.std.proofs.Common.{subst, length-append}
use Rattle.std.proofs.lemmas.List.Elements.{All-push}
use Rattle.std.proofs.lemmas.Result.{err_from_is_err_and}
use Rattle.std.specs.List.{flat_map}
use Rattle.rc_dbtext.specs.Text.{BundleText, IsBundleText, bundle_lines}
use Rattle.rc_dbtext.specs.Reading.{IsStuck, AreSo}
use Rattle.rc_dbtext.proofs.Sequences.{refused_where, stuck_many, more_many}
use Rattle.rc_dbtext.proofs.KindLines.{once_bundle}
use Rattle.rc_dbtext.proofs.syntax.forms.bundles_of.Goals as goal

pub returns-in_err-bundle-clause-fault : goal.returns-in_err-bundle-clause-fault
returns-in_err-bundle-clause-fault c =
    let p = err_from_is_err_and c.from_residual.result c.from_residual.ensures.1 in
    let fewer : length c.loop.bundles.items < c.args.count = omega arith in
    rw (p.1, p.2)
    (refused_where c.in_err-bundle.field-0.0 (IsStuck IsBundleText bundle_lines c.loop.rest.now)
    (IsStuck (AreSo IsBundleText c.args.count) (flat_map bundle_lines) c.args.bytes.now)
    (λ left due stuck. stuck_many IsBundleText bundle_lines once_bundle c.loop.bundles.items
    c.args.count c.args.bytes.now c.loop.rest.now left due c.loop.invariant.each fewer
    c.loop.invariant.front stuck)
    c.in_err-bundle.ensures.fault)

pub loop-preserved : goal.loop-preserved
loop-preserved c =
    let pushed : c.push.new.self.items ≡ c.loop.bundles.items ++ c.in_ok-bundle.bundle ∷ [] =
    search rules in
    let P : List BundleText → Type 0 = λ values. All IsBundleText values in
    record {
      count =
          omega (
            arith,
            ap length pushed,
            length-append c.loop.bundles.items (c.in_ok-bundle.bundle ∷ []),
          );
      each =
          subst P (sym pushed)
          (All-push IsBundleText c.loop.bundles.items c.in_ok-bundle.bundle c.loop.invariant.each
          c.in_ok-bundle.ensures.ok.0);
      front =
          more_many bundle_lines c.args.bytes.now c.loop.rest.now c.in_ok-bundle.behind.now
          c.loop.bundles.items c.push.new.self.items c.in_ok-bundle.bundle c.loop.invariant.front
          c.in_ok-bundle.ensures.ok.1 pushed;
    }

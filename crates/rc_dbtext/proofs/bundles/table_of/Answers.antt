use Rattle.std.proofs.Common.{All, Contains, sym, subst}
use Rattle.rc_dbtext.specs.Text.{BundleText}
use Rattle.rc_dbtext.proofs.Joining.{before_next, below_one, bundled_one}
use Rattle.rc_dbtext.proofs.bundles.table_of.Goals as goal
use Rattle.std.proofs.Common.{length}

pub add_bundle-requires-clause-last : goal.add_bundle-requires-clause-last
add_bundle-requires-clause-last c =
    before_next c.args.names.now c.loop-form.table c.args.forms.now c.loop-form.form-index
    c.form-item.result c.requires.sorted c.loop-form-test.true c.form-item.is
    c.loop-form.invariant.bundles

pub add_bundle-requires-clause-known : goal.add_bundle-requires-clause-known
add_bundle-requires-clause-known c =
    subst (λ (b : BundleText). All (Contains c.args.names.now) b.members) (sym c.form-item.is)
    (c.requires.known c.loop-form.form-index c.form-item.result c.loop-form-test.true)

pub loop-form-preserved : goal.loop-form-preserved
loop-form-preserved c =
    let added = c.in_ok-add_bundle.ensures in
    record {
      bundles =
          bundled_one c.args.names.now c.loop-form.table c.add_bundle.new.table c.args.forms.now
          c.loop-form.form-index c.form-item.result added.0 c.loop-form-test.true c.form-item.is
          c.loop-form.invariant.bundles added.1 added.3;
      bounds =
          below_one (length c.args.names.now) c.loop-form.table c.add_bundle.new.table
          c.form-item.result.name added.0 c.loop-form.invariant.bounds added.1 added.2;
    }

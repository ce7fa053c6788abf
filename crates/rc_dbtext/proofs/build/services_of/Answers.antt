use Rattle.std.proofs.Common.{◌≡◌, ◌+◌, ◌∷◌, ◌++◌, [], List, take, rules, sym, subst}
use Rattle.std.specs.List.{AllZip}
use Rattle.rc_model.specs.Database.{Service}
use Rattle.rc_dbtext.specs.Text.{ServiceText, IsServiceText}
use Rattle.rc_dbtext.specs.Parts.{FeedsKnown, IsServiceOf}
use Rattle.rc_dbtext.proofs.Zips.{zip_more}
use Rattle.rc_dbtext.proofs.build.services_of.Goals as goal

pub service_of-requires-clause-text : goal.service_of-requires-clause-text
service_of-requires-clause-text c =
    subst IsServiceText (sym c.form-item.is)
    (c.requires.texts c.loop-form.form-index c.form-item.result c.loop-form-test.true)

pub service_of-requires-clause-fed : goal.service_of-requires-clause-fed
service_of-requires-clause-fed c =
    subst (λ (s : ServiceText). FeedsKnown c.args.names.now s.body) (sym c.form-item.is)
    (c.requires.fed c.loop-form.form-index c.form-item.result c.loop-form-test.true)

pub loop-form-preserved : goal.loop-form-preserved
loop-form-preserved c =
    let pushed : c.push.new.self.items ≡ c.loop-form.services.items ++ c.in_ok-service.service
    ∷ [] = search rules in
    subst (λ (ss : List Service). AllZip (IsServiceOf c.args.names.now)
    (take (c.loop-form.form-index + 1) c.args.forms.now) ss) (sym pushed)
    (zip_more (IsServiceOf c.args.names.now) c.args.forms.now c.loop-form.services.items
    c.loop-form.form-index c.form-item.result c.in_ok-service.service c.loop-form-test.true
    c.form-item.is c.loop-form.invariant c.in_ok-service.ensures)

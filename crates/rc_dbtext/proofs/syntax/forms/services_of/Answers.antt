use Rattle.std.proofs.Common.{◌≡◌, ◌<◌, ◌++◌, ◌∷◌, [], List, length, All, arith, rules, sym, ap}
use Rattle.std.proofs.Common.{subst, length-append}
use Rattle.std.proofs.lemmas.List.Elements.{All-push}
use Rattle.std.proofs.lemmas.Result.{err_from_is_err_and}
use Rattle.std.specs.List.{flat_map}
use Rattle.rc_dbtext.specs.Text.{ServiceText, IsServiceText, service_lines}
use Rattle.rc_dbtext.specs.Reading.{IsStuck, AreSo}
use Rattle.rc_dbtext.proofs.Sequences.{refused_where, stuck_many, more_many}
use Rattle.rc_dbtext.proofs.Grammar.{once_service}
use Rattle.rc_dbtext.proofs.syntax.forms.services_of.Goals as goal

pub returns-in_err-service-clause-fault : goal.returns-in_err-service-clause-fault
returns-in_err-service-clause-fault c =
    let p = err_from_is_err_and c.from_residual.result c.from_residual.ensures.1 in
    let fewer : length c.loop.services.items < c.args.count = omega arith in
    rw (p.1, p.2)
    (refused_where c.in_err-service.field-0.0 (IsStuck IsServiceText service_lines c.loop.rest.now)
    (IsStuck (AreSo IsServiceText c.args.count) (flat_map service_lines) c.args.bytes.now)
    (λ left due stuck. stuck_many IsServiceText service_lines once_service c.loop.services.items
    c.args.count c.args.bytes.now c.loop.rest.now left due c.loop.invariant.each fewer
    c.loop.invariant.front stuck)
    c.in_err-service.ensures.fault)

pub loop-preserved : goal.loop-preserved
loop-preserved c =
    let pushed : c.push.new.self.items ≡ c.loop.services.items ++ c.in_ok-service.service ∷ [] =
    search rules in
    let P : List ServiceText → Type 0 = λ values. All IsServiceText values in
    record {
      count =
          omega (
            arith,
            ap length pushed,
            length-append c.loop.services.items (c.in_ok-service.service ∷ []),
          );
      each =
          subst P (sym pushed)
          (All-push IsServiceText c.loop.services.items c.in_ok-service.service
          c.loop.invariant.each c.in_ok-service.ensures.ok.0);
      front =
          more_many service_lines c.args.bytes.now c.loop.rest.now c.in_ok-service.behind.now
          c.loop.services.items c.push.new.self.items c.in_ok-service.service c.loop.invariant.front
          c.in_ok-service.ensures.ok.1 pushed;
    }

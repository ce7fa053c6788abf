use Rattle.std.proofs.Common.{IfSome, refl}
use Rattle.std.proofs.lemmas.Result.{err_from_is_err_and}
use Rattle.rc_model.specs.declared.Kind.TheVariants as kinds
use Rattle.rc_model.specs.Names.{IsName}
use Rattle.rc_dbtext.specs.Text.{OfProducer, IsBody, body_lines}
use Rattle.rc_dbtext.specs.Reading.{IsStuck, one}
use Rattle.rc_dbtext.proofs.Sequences.{refused_where, stuck_first, read_both}
use Rattle.rc_dbtext.proofs.Grammar.{Always, no_lines, longrun_sequence}
use Rattle.rc_dbtext.proofs.syntax.forms.longrun_of.Goals as goal

pub returns-in_err-producer_for-clause-fault : goal.returns-in_err-producer_for-clause-fault
returns-in_err-producer_for-clause-fault c =
    let p = err_from_is_err_and c.from_residual.result c.from_residual.ensures.1 in
    rw (p.1, p.2)
    (refused_where c.in_err-producer_for.field-0.0
    (IsStuck (λ p. IfSome p IsName) (one OfProducer) c.args.bytes.now)
    (IsStuck (IsBody kinds.Longrun) body_lines c.args.bytes.now)
    (λ left due stuck. stuck_first (λ p. IfSome p IsName) (one OfProducer) (λ _ u. Always u)
    no_lines (IsBody kinds.Longrun) body_lines longrun_sequence c.args.bytes.now left due
    (λ p is. (tt, tt)) stuck)
    c.in_err-producer_for.ensures.fault)

pub returns-clause-ok : goal.returns-clause-ok
returns-clause-ok c =
    read_both (λ p. IfSome p IsName) (one OfProducer) (λ _ u. Always u) no_lines
    (IsBody kinds.Longrun) body_lines longrun_sequence c.args.bytes.now
    c.in_ok-producer_for.rest.now c.in_ok-producer_for.rest.now c.in_ok-producer_for.producer_for tt
    c.in_ok-producer_for.ensures.ok.0 c.in_ok-producer_for.ensures.ok.1 tt refl

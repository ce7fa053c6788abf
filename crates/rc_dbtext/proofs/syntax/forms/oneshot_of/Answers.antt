use Rattle.std.proofs.Common.{None, IfSome}
use Rattle.std.proofs.lemmas.Result.{err_from_is_err_and}
use Rattle.std.specs.Option.{option_map}
use Rattle.rc_model.specs.declared.Kind.TheVariants as kinds
use Rattle.rc_db.specs.Service.{IsScript}
use Rattle.rc_dbtext.specs.Text.{OfUp, OfDown, IsBody, body_lines}
use Rattle.rc_dbtext.specs.Reading.{IsStuck, one}
use Rattle.rc_dbtext.proofs.Sequences.{refused_where, stuck_first, stuck_second, read_both}
use Rattle.rc_dbtext.proofs.Grammar.{oneshot_sequence}
use Rattle.rc_dbtext.proofs.KindLines.{once_up}
use Rattle.rc_dbtext.proofs.syntax.forms.oneshot_of.Goals as goal

pub returns-in_err-up-clause-fault : goal.returns-in_err-up-clause-fault
returns-in_err-up-clause-fault c =
    let p = err_from_is_err_and c.from_residual.result c.from_residual.ensures.1 in
    rw (p.1, p.2)
    (refused_where c.in_err-up.field-0.0 (IsStuck IsScript (one OfUp) c.args.bytes.now)
    (IsStuck (IsBody kinds.Oneshot) body_lines c.args.bytes.now)
    (λ left due stuck. stuck_first IsScript (one OfUp) (λ _ down. IfSome down IsScript) (one OfDown)
    (IsBody kinds.Oneshot) body_lines oneshot_sequence c.args.bytes.now left due
    (λ up is. (None, tt)) stuck)
    c.in_err-up.ensures.fault)

pub returns-in_err-down-clause-fault : goal.returns-in_err-down-clause-fault
returns-in_err-down-clause-fault c =
    let p =
    err_from_is_err_and c.from_residual-in_err-down.result c.from_residual-in_err-down.ensures.1 in
    rw (p.1, p.2)
    (refused_where c.in_err-down.field-0.0
    (IsStuck (λ t. IfSome t IsScript) (one OfDown) c.in_ok-up.rest.now)
    (IsStuck (IsBody kinds.Oneshot) body_lines c.args.bytes.now)
    (λ left due stuck. stuck_second IsScript (one OfUp) (λ _ down. IfSome down IsScript)
    (one OfDown) (IsBody kinds.Oneshot) body_lines oneshot_sequence c.args.bytes.now
    c.in_ok-up.rest.now left due c.in_ok-up.up.now once_up c.in_ok-up.ensures.ok.0
    c.in_ok-up.ensures.ok.1 stuck)
    c.in_err-down.ensures.fault)

pub returns-clause-ok : goal.returns-clause-ok
returns-clause-ok c =
    read_both IsScript (one OfUp) (λ _ down. IfSome down IsScript) (one OfDown)
    (IsBody kinds.Oneshot) body_lines oneshot_sequence c.args.bytes.now c.in_ok-up.rest.now
    c.in_ok-down.rest.now c.in_ok-up.up.now (option_map (λ text. text.now) c.in_ok-down.down)
    c.in_ok-up.ensures.ok.0 c.in_ok-up.ensures.ok.1 c.in_ok-down.ensures.ok.0
    c.in_ok-down.ensures.ok.1

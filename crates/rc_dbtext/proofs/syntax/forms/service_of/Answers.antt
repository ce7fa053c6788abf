use Rattle.std.proofs.Common.{All, subst}
use Rattle.std.proofs.lemmas.Result.{err_from_is_err_and}
use Rattle.rc_model.specs.declared.Kind.{Kind}
use Rattle.rc_model.specs.Names.{IsName}
use Rattle.rc_dbtext.specs.FormText.{body_text}
use Rattle.rc_dbtext.specs.Text.{OfService, OfNeeds, IsHead, IsBody, IsServiceText, body_lines}
use Rattle.rc_dbtext.specs.Text.{service_lines}
use Rattle.rc_dbtext.specs.Reading.{IsStuck, IsRefused, one}
use Rattle.rc_dbtext.proofs.Sequences.{refused_where, stuck_first, stuck_second, read_both}
use Rattle.rc_dbtext.proofs.Grammar.{some_body, IsTail, tail_lines, tail_sequence, some_tail}
use Rattle.rc_dbtext.proofs.Grammar.{service_sequence}
use Rattle.rc_dbtext.proofs.KindLines.{once_head, once_needs}
use Rattle.rc_dbtext.proofs.syntax.forms.service_of.Goals as goal

pub returns-in_err-head-clause-fault : goal.returns-in_err-head-clause-fault
returns-in_err-head-clause-fault c =
    let p = err_from_is_err_and c.from_residual.result c.from_residual.ensures.1 in
    rw (p.1, p.2)
    (refused_where c.in_err-head.field-0.0 (IsStuck IsHead (one OfService) c.args.bytes.now)
    (IsStuck IsServiceText service_lines c.args.bytes.now)
    (λ left due stuck. stuck_first IsHead (one OfService) (λ head tail. IsTail head.kind tail)
    tail_lines IsServiceText service_lines service_sequence c.args.bytes.now left due
    some_tail stuck)
    c.in_err-head.ensures.fault)

pub returns-in_err-needs-clause-fault : goal.returns-in_err-needs-clause-fault
returns-in_err-needs-clause-fault c =
    let p = err_from_is_err_and c.from_residual-in_err-needs.result
    c.from_residual-in_err-needs.ensures.1 in
    rw (p.1, p.2)
    (refused_where c.in_err-needs.field-0.0
    (IsStuck (All IsName) (one OfNeeds) c.in_ok-head.rest.now)
    (IsStuck IsServiceText service_lines c.args.bytes.now)
    (λ left due stuck. stuck_second IsHead (one OfService) (λ head tail. IsTail head.kind tail)
    tail_lines IsServiceText service_lines service_sequence c.args.bytes.now c.in_ok-head.rest.now
    left due c.in_ok-head.head once_head c.in_ok-head.ensures.ok.0 c.in_ok-head.ensures.ok.1
    (stuck_first (All IsName) (one OfNeeds) (λ _ body. IsBody c.in_ok-head.head.kind body)
    body_lines (IsTail c.in_ok-head.head.kind) tail_lines (tail_sequence c.in_ok-head.head.kind)
    c.in_ok-head.rest.now left due
    (λ needs is. some_body c.in_ok-head.head.kind c.in_ok-head.ensures.ok.0.kind) stuck))
    c.in_err-needs.ensures.fault)

pub returns-in_err-body-clause-fault : goal.returns-in_err-body-clause-fault
returns-in_err-body-clause-fault c =
    let p =
    err_from_is_err_and c.from_residual-in_err-body.result c.from_residual-in_err-body.ensures.1 in
    rw (p.1, p.2)
    (refused_where c.in_err-body.field-0.0
    (IsStuck (IsBody c.in_ok-head.head.kind) body_lines c.in_ok-needs.rest.now)
    (IsStuck IsServiceText service_lines c.args.bytes.now)
    (λ left due stuck. stuck_second IsHead (one OfService) (λ head tail. IsTail head.kind tail)
    tail_lines IsServiceText service_lines service_sequence c.args.bytes.now c.in_ok-head.rest.now
    left due c.in_ok-head.head once_head c.in_ok-head.ensures.ok.0 c.in_ok-head.ensures.ok.1
    (stuck_second (All IsName) (one OfNeeds) (λ _ body. IsBody c.in_ok-head.head.kind body)
    body_lines (IsTail c.in_ok-head.head.kind) tail_lines (tail_sequence c.in_ok-head.head.kind)
    c.in_ok-head.rest.now c.in_ok-needs.rest.now left due c.in_ok-needs.needs.items once_needs
    c.in_ok-needs.ensures.ok.0 c.in_ok-needs.ensures.ok.1 stuck))
    (subst (λ (k : Kind). IsRefused (IsBody k) body_lines c.in_ok-needs.rest.now
    c.in_err-body.field-0.0) c.kind.ensures c.in_err-body.ensures.fault))

pub returns-clause-ok : goal.returns-clause-ok
returns-clause-ok c =
    let inner = read_both (All IsName) (one OfNeeds) (λ _ body. IsBody c.in_ok-head.head.kind body)
    body_lines (IsTail c.in_ok-head.head.kind) tail_lines (tail_sequence c.in_ok-head.head.kind)
    c.in_ok-head.rest.now c.in_ok-needs.rest.now c.in_ok-body.rest.now c.in_ok-needs.needs.items
    (body_text c.in_ok-body.body)
    c.in_ok-needs.ensures.ok.0 c.in_ok-needs.ensures.ok.1
    (subst (λ (k : Kind). IsBody k (body_text c.in_ok-body.body)) c.kind.ensures
    c.in_ok-body.ensures.ok.0) c.in_ok-body.ensures.ok.1 in
    read_both IsHead (one OfService) (λ head tail. IsTail head.kind tail) tail_lines IsServiceText
    service_lines service_sequence c.args.bytes.now c.in_ok-head.rest.now c.in_ok-body.rest.now
    c.in_ok-head.head (c.in_ok-needs.needs.items, body_text c.in_ok-body.body)
    c.in_ok-head.ensures.ok.0 c.in_ok-head.ensures.ok.1 inner.0 inner.1

use Rattle.std.proofs.Common.{◌≡◌, true}
use Rattle.std.proofs.lemmas.Result.{err_from_is_err_and}
use Rattle.rc_livetext.proofs.Heading.{no_services, no_bound}
use Rattle.rc_livetext.proofs.heads.head.Goals as goal

pub returns-in_err-services-clause-fault : goal.returns-in_err-services-clause-fault
returns-in_err-services-clause-fault c =
    let p = err_from_is_err_and c.from_residual-in_err-services.result
    c.from_residual-in_err-services.ensures.1 in
    rw (p.1, p.2)
    (no_services c.in_ok-bounded.bounded c.args.bytes.now c.in_ok-bounded.rest.now
    c.in_err-services.field-0.0 c.in_ok-bounded.ensures.ok c.in_err-services.ensures.fault)

pub returns-in_err-bound-clause-fault : goal.returns-in_err-bound-clause-fault
returns-in_err-bound-clause-fault c =
    let p = err_from_is_err_and c.from_residual-in_err-bound.result
    c.from_residual-in_err-bound.ensures.1 in
    let yes : c.in_ok-bounded.bounded ≡ true = c.if-not-bounded.false in
    rw (p.1, p.2)
    (no_bound c.in_ok-services.services.items c.args.bytes.now c.in_ok-bounded.rest.now
    c.in_ok-services.rest.now c.in_err-bound.field-0.0 c.in_ok-services.ensures.ok.0
    (rw yes at c.in_ok-bounded.ensures.ok) c.in_ok-services.ensures.ok.1
    c.in_err-bound.ensures.fault)

use Rattle.std.proofs.lemmas.Result.{err_from_is_err_and}
use Rattle.rc_args.proofs.InvocationLemmas.{others_none}
use Rattle.rc_args.proofs.invocation.invocation_meant.Goals as goal

pub returns-in_err-once_in-in_default-clause-wrong :
    goal.returns-in_err-once_in-in_default-clause-wrong
returns-in_err-once_in-in_default-clause-wrong c =
    let d = c.in_default in
    let p = err_from_is_err_and c.from_residual-in_err-once_in-in_default.result
    c.from_residual-in_err-once_in-in_default.ensures.1 in
    rw (p.1, p.2)
    (λ other. others_none _ _ d.not-compile d.not-db d.not-plan d.not-replay d.not-session
    d.not-update d.not-restart d.not-seal d.not-status d.not-check d.not-cancel d.not-version
    (λ ask file asks. c.in_err-once_in-in_default.ensures.wrong other ask asks.0 asks.1.0))

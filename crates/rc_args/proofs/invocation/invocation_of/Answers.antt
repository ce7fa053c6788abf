use Rattle.std.proofs.Common.{inl}
use Rattle.rc_args.proofs.InvocationLemmas.{lacking_is_usage}
use Rattle.rc_args.proofs.invocation.invocation_of.Goals as goal

pub returns-in-Ok-clause-wrong : goal.returns-in-Ok-clause-wrong
returns-in-Ok-clause-wrong c = lacking_is_usage c.with_defaults.result _ _ _ c.in-Ok.ensures.asked
    c.with_defaults.ensures.lacks c.with_defaults.ensures.fault

pub returns-in-Err-clause-wrong : goal.returns-in-Err-clause-wrong
returns-in-Err-clause-wrong c = λ other. inl (c.in-Err.ensures.wrong other)

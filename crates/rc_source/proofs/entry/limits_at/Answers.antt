use Rattle.std.proofs.Common.{◌∙◌, inl, inr, codes}
use Rattle.rc_source.specs.Kinds.{Limit}
use Rattle.rc_source.proofs.Exits.{exit}
use Rattle.rc_source.proofs.EntryFiles.{two_pass}
use Rattle.rc_source.proofs.entry.limits_at.Goals as goal

pub returns-in_err-up-clause-fault : goal.returns-in_err-up-clause-fault
returns-in_err-up-clause-fault g c =
    exit c.from_residual.result c.in_err-up.field-0.0 _ c.from_residual.ensures.1
    (λ no_memory source known. inl (c.in_err-up.ensures.fault no_memory source known))

pub returns-in_err-down-clause-fault : goal.returns-in_err-down-clause-fault
returns-in_err-down-clause-fault g c =
    exit c.from_residual-in_err-down.result c.in_err-down.field-0.0 _
    c.from_residual-in_err-down.ensures.1
    (λ no_memory source known. inr (
      c.in_ok-up.ensures.passes source known,
      inl (c.in_err-down.ensures.fault no_memory source (c.in_ok-up.ensures.asked.same ∙ known)),
    ))

pub returns-clause-says : goal.returns-clause-says
returns-clause-says g c = λ source known. record {
  up = c.in_ok-up.ensures.limit source known;
  down = c.in_ok-down.ensures.limit source (c.in_ok-up.ensures.asked.same ∙ known);
}

pub returns-clause-passes : goal.returns-clause-passes
returns-clause-passes g c = λ source known. two_pass source c.args.entry.now
    (codes "timeout-up", Limit) (codes "timeout-down", Limit)
    (c.in_ok-up.ensures.passes source known)
    (c.in_ok-down.ensures.passes source (c.in_ok-up.ensures.asked.same ∙ known))

use Rattle.std.proofs.Common.{◌∙◌, sym, subst, inl, inr, refl, true≢false}
use Rattle.rc_model.specs.Names.{IsName}
use Rattle.rc_model.proofs.Results.{no_value}
use Rattle.rc_source.proofs.Exits.{exit, no_success}
use Rattle.rc_source.proofs.read.new_name.Goals as goal

pub returns-in_err-name-clause-fault : goal.returns-in_err-name-clause-fault
returns-in_err-name-clause-fault c =
    exit c.from_residual.result c.in_err-name.field-0.0 _ c.from_residual.ensures.1
    (λ no_memory.
    let told = c.in_err-name.ensures.fault no_memory in
    inl (told.0, λ is. told.1 (subst IsName (sym c.as_bytes.ensures.value) is)))

pub returns-then-has-clause-fault : goal.returns-then-has-clause-fault
returns-then-has-clause-fault c = λ no_memory.
    inr (
      refl,
      subst IsName c.as_bytes.ensures.value c.in_ok-name.ensures.name.1,
      c.has.ensures.0 c.if-has.true,
    )

pub returns-in_err-name-clause-name : goal.returns-in_err-name-clause-name
returns-in_err-name-clause-name c =
    no_value c.from_residual.result c.in_err-name.field-0.0 _ c.from_residual.ensures.1

pub returns-in_err-name-clause-free : goal.returns-in_err-name-clause-free
returns-in_err-name-clause-free c =
    no_success c.from_residual.result c.in_err-name.field-0.0 _ c.from_residual.ensures.1

pub returns-clause-name : goal.returns-clause-name
returns-clause-name c = (
  c.in_ok-name.ensures.name.0 ∙ c.as_bytes.ensures.value,
  subst IsName c.as_bytes.ensures.value c.in_ok-name.ensures.name.1,
)

pub returns-clause-free : goal.returns-clause-free
returns-clause-free c = λ there. true≢false (sym (c.has.ensures.1 there) ∙ c.if-has.false)

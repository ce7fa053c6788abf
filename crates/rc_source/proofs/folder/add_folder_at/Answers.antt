use Rattle.std.proofs.Common.{⊎_elim, inl, inr, Contains, sym, subst}
use Rattle.rc_source.specs.declared.fault.Flaw.TheVariants.{Memory}
use Rattle.rc_source.proofs.Asking.{asked_memory, asked_ok, asked_on}
use Rattle.rc_source.proofs.Exits.{exit, exit_memory, no_success}
use Rattle.rc_source.proofs.folder.add_folder_at.Goals as goal

pub returns-in_err-add_names-clause-fault : goal.returns-in_err-add_names-clause-fault
returns-in_err-add_names-clause-fault g c =
    exit_memory c.from_residual-in_err-add_names.result _ c.from_residual-in_err-add_names.ensures.1

pub returns-clause-names : goal.returns-clause-names
returns-clause-names g c = λ source known name.
    let more = c.in_ok-add_names.ensures name in
    let gives = c.in_ok-names.ensures.names source known name in (
      λ there. ⊎_elim (λ old. inl old)
          (λ new. inr (gives.0 (subst (λ l. Contains l name) c.deref.ensures.value new)))
          (more.0 there),
      λ either. more.1
          (⊎_elim (λ old. inl old)
          (λ new. inr (subst (λ l. Contains l name) (sym c.deref.ensures.value) (gives.1 new)))
          either),
    )

pub returns-in_err-names-clause-names : goal.returns-in_err-names-clause-names
returns-in_err-names-clause-names g c =
    no_success c.from_residual.result c.in_err-names.field-0.0 _ c.from_residual.ensures.1

pub returns-in_err-names-clause-passes : goal.returns-in_err-names-clause-passes
returns-in_err-names-clause-passes g c =
    no_success c.from_residual.result c.in_err-names.field-0.0 _ c.from_residual.ensures.1

pub returns-in_err-names-clause-fault : goal.returns-in_err-names-clause-fault
returns-in_err-names-clause-fault g c =
    exit c.from_residual.result c.in_err-names.field-0.0 _ c.from_residual.ensures.1
    c.in_err-names.ensures.fault

pub returns-in_err-names-clause-asked : goal.returns-in_err-names-clause-asked
returns-in_err-names-clause-asked g c =
    asked_on c.from_residual.result c.in_err-names.field-0.0 _ _ _ _ c.from_residual.ensures.1
    c.in_err-names.ensures.asked

pub returns-in_err-add_names-clause-names : goal.returns-in_err-add_names-clause-names
returns-in_err-add_names-clause-names g c =
    no_success c.from_residual-in_err-add_names.result Memory _
    c.from_residual-in_err-add_names.ensures.1

pub returns-in_err-add_names-clause-passes : goal.returns-in_err-add_names-clause-passes
returns-in_err-add_names-clause-passes g c =
    no_success c.from_residual-in_err-add_names.result Memory _
    c.from_residual-in_err-add_names.ensures.1

pub returns-in_err-add_names-clause-asked : goal.returns-in_err-add_names-clause-asked
returns-in_err-add_names-clause-asked g c =
    asked_memory c.from_residual-in_err-add_names.result _ _ _ _
    c.from_residual-in_err-add_names.ensures.1 c.in_ok-names.ensures.asked.same
    c.in_ok-names.ensures.asked.quiet

pub returns-clause-passes : goal.returns-clause-passes
returns-clause-passes g c = c.in_ok-names.ensures.passes

pub returns-clause-asked : goal.returns-clause-asked
returns-clause-asked g c =
    asked_ok tt _ _ _ _ c.in_ok-names.ensures.asked.same c.in_ok-names.ensures.asked.quiet

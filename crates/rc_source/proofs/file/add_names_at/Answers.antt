use Rattle.std.proofs.Common.{◌↔◌, ◌⊎◌, ◌∙◌, ℕ, List, Contains, map, subst, string_bytes}
use Rattle.rc_source.proofs.Exits.{exit_memory}
use Rattle.rc_source.proofs.file.add_names_at.Goals as goal

pub returns-in_err-add_names-clause-fault : goal.returns-in_err-add_names-clause-fault
returns-in_err-add_names-clause-fault g c =
    exit_memory c.from_residual-in_err-add_names.result _ c.from_residual-in_err-add_names.ensures.1

pub returns-clause-names : goal.returns-clause-names
returns-clause-names g c = λ source known.
    subst (λ l. (name : List ℕ) → Contains (map string_bytes c.add_names.new.set.keys) name
    ↔ (Contains (map string_bytes c.args.set.now.keys) name ⊎ Contains l name))
    (c.deref.ensures.value ∙ c.in_ok-names.ensures.names source known) c.in_ok-add_names.ensures

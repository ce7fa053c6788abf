use Rattle.std.proofs.Common.{◌∙◌, ℕ, List, subst}
use Rattle.rc_cli.specs.Faults.{IsFromName}
use Rattle.rc_cli.proofs.queries.db_fault.query_fault.Goals as goal

pub returns-in-Unknown : goal.returns-in-Unknown
returns-in-Unknown c =
    rw c.in-Unknown.is (subst (λ (name : List ℕ). IsFromName name c.unknown_name.result)
    (c.as_bytes.ensures.value ∙ c.name_at.ensures) c.unknown_name.ensures)

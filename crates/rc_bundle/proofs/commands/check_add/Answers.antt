use Rattle.std.proofs.Common.{List, ℕ, OnOk, IfErr, map, string_bytes, subst}
use Rattle.rc_model.specs.Line.{CanAdd, IsAddFault}
use Rattle.rc_bundle.proofs.commands.check_add.Goals as goal

pub returns-clause-can : goal.returns-clause-can
returns-clause-can c =
    subst (λ (names : List (List ℕ)). OnOk c.check_among.result
    (CanAdd names c.args.table.now c.args.name.now (map string_bytes c.args.contents.now)
    c.args.force)) c.names.ensures.names c.check_among.ensures.can

pub returns-clause-fault : goal.returns-clause-fault
returns-clause-fault c =
    subst (λ (names : List (List ℕ)). IfErr c.check_among.result
    (IsAddFault names c.args.table.now c.args.name.now (map string_bytes c.args.contents.now)
    c.args.force)) c.names.ensures.names c.check_among.ensures.fault

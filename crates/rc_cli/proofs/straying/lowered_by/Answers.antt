use Rattle.std.proofs.Common.{inl, inr, refl}
use Rattle.rc_cli.proofs.straying.lowered_by.Goals as goal

pub returns-in-Ok : goal.returns-in-Ok
returns-in-Ok g c =
    let spelled = c.in-Ok.ensures.spelled in
    inr (c.in-Ok.db, (spelled.0, spelled.1, spelled.2, refl), c.lowered_on.ensures)

pub returns-in-Err : goal.returns-in-Err
returns-in-Err g c = inl (c.in-Err.fault, refl, c.in-Err.ensures.fault)

use Rattle.std.proofs.Common.{inl, refl}
use Rattle.rc_cli.proofs.fault.unknown_name.Goals as goal

pub returns-in-Ok : goal.returns-in-Ok
returns-in-Ok c = inl (_, refl, c.in-Ok.ensures.items)

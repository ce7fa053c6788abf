use Rattle.std.proofs.Common.{inl, inr, refl}
use Rattle.rc_cli.proofs.sealing.seal_text.Goals as goal

pub returns-in-Ok : goal.returns-in-Ok
returns-in-Ok g c = record {
  ended = let spelled = c.in-Ok.ensures.spelled in
      inr (c.in-Ok.db, (spelled.0, spelled.1, spelled.2, refl), c.seal_on.ensures.ended);
}

pub returns-in-Err : goal.returns-in-Err
returns-in-Err g c = record {
  ended = inl (c.in-Err.fault, refl, c.in-Err.ensures.fault, refl, refl);
}

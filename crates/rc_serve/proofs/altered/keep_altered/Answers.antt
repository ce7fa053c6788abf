use Rattle.std.proofs.Common.{inl, inr, refl, ap, Err}
use Rattle.rc_serve.proofs.Keeping.{on_ok, other_as, still_as, still_none}
use Rattle.rc_serve.proofs.altered.keep_altered.Goals as goal

pub is_current-requires : goal.is_current-requires
is_current-requires g c = rw c.in-Some.is at c.requires.size

pub returns-in_default : goal.returns-in_default
returns-in_default g c = record {
  kept = inl (
    still_none c.args.before.now c.args.session.now.line
        (λ state is. c.in_default.not-Some state is),
    refl,
    refl,
  );
  led = on_ok _ c.args.answer (inl (
    still_none c.args.before.now c.args.session.now.line
        (λ state is. c.in_default.not-Some state is),
    refl,
  ));
}

pub returns-then-is_ok : goal.returns-then-is_ok
returns-then-is_ok g c = record {
  kept = inl (
    (still_as c.args.before.now c.in-Some.live c.in-Some.table c.args.session.now.line
        c.in-Some.is).0 (c.is_current.ensures.0 c.if-is_current.true),
    refl,
    refl,
  );
  led = on_ok _ c.args.answer (inl (
    (still_as c.args.before.now c.in-Some.live c.in-Some.table c.args.session.now.line
        c.in-Some.is).0 (c.is_current.ensures.0 c.if-is_current.true),
    refl,
  ));
}

pub returns-else-is_ok : goal.returns-else-is_ok
returns-else-is_ok g c = record {
  kept = inl (
    (still_as c.args.before.now c.in-Some.live c.in-Some.table c.args.session.now.line
        c.in-Some.is).0 (c.is_current.ensures.0 c.if-is_current.true),
    refl,
    refl,
  );
  led = on_ok _ c.args.answer (inl (
    (still_as c.args.before.now c.in-Some.live c.in-Some.table c.args.session.now.line
        c.in-Some.is).0 (c.is_current.ensures.0 c.if-is_current.true),
    refl,
  ));
}

pub returns-in-Ok : goal.returns-in-Ok
returns-in-Ok g c = record {
  kept = inr (
    other_as c.args.before.now c.in-Some.live c.in-Some.table c.args.session.now.line
        c.is_current.result c.in-Some.is c.is_current.ensures c.if-is_current.false,
    inl (refl, c.in-Ok.ensures.kept),
  );
  led = on_ok _ c.args.answer (inr (
    other_as c.args.before.now c.in-Some.live c.in-Some.table c.args.session.now.line
        c.is_current.result c.in-Some.is c.is_current.ensures c.if-is_current.false,
    c.in-Ok.ensures.led,
  ));
}

pub returns-in-Err : goal.returns-in-Err
returns-in-Err g c = record {
  kept = inr (
    other_as c.args.before.now c.in-Some.live c.in-Some.table c.args.session.now.line
        c.is_current.result c.in-Some.is c.is_current.ensures c.if-is_current.false,
    inr (
      c.in-Err.fault,
      ap Err c.from.ensures,
      c.in-Err.ensures.fault,
      c.in-Err.ensures.io,
      c.in-Err.ensures.left,
    ),
  );
  led = tt;
}

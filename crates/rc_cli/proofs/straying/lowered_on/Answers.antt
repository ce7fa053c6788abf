use Rattle.std.proofs.Common.{inl, inr, map, refl, string_bytes}
use Rattle.rc_streams.specs.Noting.{inner_of}
use Rattle.rc_args.specs.SessionAsked.{session_ask_of}
use Rattle.rc_cli.proofs.SessionLemmas.{fault_wider}
use Rattle.rc_cli.proofs.StrayingLemmas.{lowers_past}
use Rattle.rc_cli.proofs.straying.lowered_on.Goals as goal

pub returns-in-Err : goal.returns-in-Err
returns-in-Err g c = inl c.in-Err.ensures.fault

pub returns-in-Err-stray_session : goal.returns-in-Err-stray_session
returns-in-Err-stray_session g c = inr (
  c.in-Err-stray_session.fault,
  refl,
  fault_wider c.in-Err-stray_session.fault _ _ _ _ _ _ (λ r. r) (λ w. absurd w) (λ k. k)
      c.in-Err-stray_session.ensures.fault,
)

pub returns-in-Ok-ended : goal.returns-in-Ok-ended
returns-in-Ok-ended g c =
    lowers_past c.in-Ok-ended.ending c.args.db (session_ask_of c.args.request.now)
    (map string_bytes c.args.strays.now) (g.W.Write.contents (inner_of c.args.writer.now))
    (g.W.Write.contents (inner_of c.lower_in-ended.new.writer)) c.in-Ok.gate
    c.in-Ok-stray_session.session c.lower_in-ended.new.session c.in-Ok.ensures.made
    c.in-Ok-stray_session.ensures.session c.in-Ok-ended.ensures.ended

pub returns-in-Err-ended : goal.returns-in-Err-ended
returns-in-Err-ended g c = inr (c.in-Err-ended.fault, refl, c.in-Err-ended.ensures.fault)

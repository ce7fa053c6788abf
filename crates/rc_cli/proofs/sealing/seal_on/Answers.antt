use Rattle.std.proofs.Common.{ap, inl, inr, refl, subst}
use Rattle.rc_session.specs.Holding.{Holding}
use Rattle.rc_streams.specs.Noting.{inner_of}
use Rattle.rc_cli.specs.Storing.{HoldsText, store_of}
use Rattle.rc_cli.specs.Sealing.{StopsKeeping}
use Rattle.rc_cli.proofs.sealing.seal_on.Goals as goal

pub keep_sealed-kept-requires-clause-closed : goal.keep_sealed-kept-requires-clause-closed
keep_sealed-kept-requires-clause-closed g c =
    ap (λ (h : Holding). h.begun) c.in-Ok.ensures.sealed.2

pub returns-in-Err : goal.returns-in-Err
returns-in-Err g c = record {
  ended = inl (c.in-Err.ensures.fault, refl, refl);
}

pub returns-in-Ok-kept : goal.returns-in-Ok-kept
returns-in-Ok-kept g c = record {
  ended = let sealed = c.in-Ok.ensures.sealed in
      let is = g.S.Store.holds (store_of c.keep_sealed-kept.new.outputs.keeper) in (
        refl,
        record {
          start = sealed.0;
          begins = sealed.1;
          kept = subst (λ (h : Holding). HoldsText is h.database h.line) sealed.2
              c.in-Ok-kept.ensures.kept;
          told = c.in-Ok-kept.ensures.told;
        },
      );
}

pub returns-in-Err-kept : goal.returns-in-Err-kept
returns-in-Err-kept g c = record {
  ended = let sealed = c.in-Ok.ensures.sealed in
      let was = g.S.Store.holds (store_of c.args.outputs.now.keeper) in
      let is = g.S.Store.holds (store_of c.keep_sealed-kept.new.outputs.keeper) in
      let written = g.W.Write.contents (inner_of c.args.outputs.now.writer) in
      let gained = g.W.Write.contents (inner_of c.keep_sealed-kept.new.outputs.writer) in
      let fault = c.in-Err-kept.fault in inr (
        fault,
        refl,
        c.in-Err-kept.ensures.fault,
        (
          sealed.0,
          sealed.1,
          subst (λ (h : Holding). StopsKeeping fault h.database h.line was is written gained)
              sealed.2 c.in-Err-kept.ensures.stopped,
        ),
      );
}

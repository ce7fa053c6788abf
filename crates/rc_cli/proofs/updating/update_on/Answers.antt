use Rattle.std.proofs.Common.{◌∙◌, Err, Ok, ap, inl, inr, refl}
use Rattle.rc_graph.specs.declared.Way.TheVariants.{Lower, Raise}
use Rattle.rc_streams.specs.Noting.{inner_of}
use Rattle.rc_session.specs.Holding.{Holding}
use Rattle.rc_args.specs.Making.{making_ask_of}
use Rattle.rc_args.specs.SessionAsked.{session_ask_of}
use Rattle.rc_args.specs.UpdateAsked.{update_ask_of}
use Rattle.rc_cli.specs.Filing.{file_named}
use Rattle.rc_cli.specs.Storing.{store_of}
use Rattle.rc_cli.proofs.LaunchLemmas.{past_found}
use Rattle.rc_cli.proofs.SessionLemmas.{fault_wider}
use Rattle.rc_cli.specs.Updating.{making_on}
use Rattle.rc_cli.proofs.ControlledLemmas.{ahead_unready, controlled_ahead}
use Rattle.rc_cli.proofs.PuttingLemmas.{leads_from, leads_on, lowers_soundly, raises_soundly}
use Rattle.rc_cli.proofs.UpdateLemmas.{begin_unready, begun_closed, gates_unready, runs_update}
use Rattle.rc_cli.proofs.UpdateLemmas.{stands_closed, updated_as}
use Rattle.rc_cli.proofs.updating.update_on.Goals as goal

pub returns-in-Some : goal.returns-in-Some
returns-in-Some g c = record {
  ended = inl (inl c.in-Some.ensures, refl, refl);
  led = tt;
  alone = λ refused. refl;
}

pub returns-in-Err : goal.returns-in-Err
returns-in-Err g c = record {
  ended = inl (
    gates_unready c.in-Err.fault (update_ask_of c.args.request.now) c.args.live
        c.args.old c.args.new c.in_default.ensures c.in-Err.ensures.fault,
    refl,
    refl,
  );
  led = tt;
  alone = λ refused. refl;
}

pub returns-in-Err-begin : goal.returns-in-Err-begin
returns-in-Err-begin g c = record {
  ended = let making = making_ask_of c.args.request.now.session.making in
      let made = c.in-Ok.ensures.made in inl (
        begin_unready c.in-Err-begin.fault (update_ask_of c.args.request.now) c.args.live
            c.args.old c.args.new c.in_default.ensures (
              past_found c.args.old (making_on Lower making) c.in-Ok.gates.lowers made.0,
              past_found c.args.new (making_on Raise making) c.in-Ok.gates.raises made.1,
            )
            c.in-Err-begin.ensures.fault,
        refl,
        refl,
      );
  led = tt;
  alone = λ refused. refl;
}

pub returns-in-Err-ahead_controlled : goal.returns-in-Err-ahead_controlled
returns-in-Err-ahead_controlled g c = record {
  ended = let making = making_ask_of c.args.request.now.session.making in
      let made = c.in-Ok.ensures.made in inl (
        ahead_unready c.in-Err-ahead_controlled.fault c.args.old c.args.new
            (update_ask_of c.args.request.now) c.args.live c.in-Ok-begin.from c.in_default.ensures (
              past_found c.args.old (making_on Lower making) c.in-Ok.gates.lowers made.0,
              past_found c.args.new (making_on Raise making) c.in-Ok.gates.raises made.1,
            )
            c.in-Ok-begin.ensures.begun c.in-Err-ahead_controlled.ensures.fault,
        refl,
        refl,
      );
  led = tt;
  alone = λ refused. refl;
}

pub returns-in-Ok-ended : goal.returns-in-Ok-ended
returns-in-Ok-ended g c = record {
  ended =
      let ask = update_ask_of c.args.request.now in
      let there = c.in-Ok-ahead_controlled.ensures.ahead in
      let ahead = c.in-Ok-ahead_controlled.ahead in (
        c.in_default.ensures,
        controlled_ahead c.args.old c.args.new ask c.args.live c.in-Ok-begin.from ahead
            c.names-names.ensures.database c.spelling_is_unique.ensures.value
            c.in-Ok-begin.ensures.begun there c.in-Ok-ahead_controlled.ensures.controlled,
        runs_update (Ok c.in-Ok-ended.ending) ask c.args.live c.args.old c.args.new
            c.in-Ok.gates.lowers c.in-Ok.gates.raises c.in-Ok-begin.from
            (g.S.Store.holds (store_of c.args.outputs.now.keeper))
            (g.S.Store.holds (store_of c.serve_both-ended.new.outputs.keeper))
            (g.W.Write.contents (inner_of c.args.outputs.now.writer))
            (g.W.Write.contents (inner_of c.serve_both-ended.new.outputs.writer))
            c.in-Ok.ensures.made c.in-Ok-begin.ensures.begun
            (updated_as (Ok c.in-Ok-ended.ending) _ _ _ _ _ _ _ ask _ c.in-Ok-begin.from
            c.args.new ahead c.ahead_controlled.ensures.same there c.in-Ok-ended.ensures.served),
      );
  led =
      let ask = update_ask_of c.args.request.now in
      let was = store_of c.args.outputs.now.keeper in
      let is = store_of c.serve_both-ended.new.outputs.keeper in
      let there = c.in-Ok-ahead_controlled.ensures.ahead in
      let ahead = c.in-Ok-ahead_controlled.ahead in
      let same = c.ahead_controlled.ensures.same in
      leads_on g.S.Store.put g.S.Store.entered ask c.in-Ok-ended.ending c.args.new was is
      c.args.live c.args.old c.in-Ok-begin.from c.in-Ok-begin.ensures.begun
      (leads_from g.S.Store.put g.S.Store.entered ask c.in-Ok-ended.ending c.args.new was is _
      c.in-Ok-begin.from ahead same there
      (c.in-Ok-ended.ensures.led
      (lowers_soundly ask c.in-Ok-begin.from c.args.new ahead there _ same)
      (raises_soundly ask c.in-Ok-begin.from c.args.new ahead there)));
  alone = tt;
}

pub returns-in-Err-ended : goal.returns-in-Err-ended
returns-in-Err-ended g c = record {
  ended =
      let ask = update_ask_of c.args.request.now in
      let there = c.in-Ok-ahead_controlled.ensures.ahead in
      let ahead = c.in-Ok-ahead_controlled.ahead in inr (
        c.in-Err-ended.fault,
        refl,
        fault_wider c.in-Err-ended.fault _ _ _ _ _ _ (λ r. r) (λ w. w) (λ k. (k.0, inr k.1))
            c.in-Err-ended.ensures.fault,
        controlled_ahead c.args.old c.args.new ask c.args.live c.in-Ok-begin.from ahead
            c.names-names.ensures.database c.spelling_is_unique.ensures.value
            c.in-Ok-begin.ensures.begun there c.in-Ok-ahead_controlled.ensures.controlled,
        runs_update (Err c.in-Err-ended.fault) ask c.args.live c.args.old c.args.new
            c.in-Ok.gates.lowers c.in-Ok.gates.raises c.in-Ok-begin.from
            (g.S.Store.holds (store_of c.args.outputs.now.keeper))
            (g.S.Store.holds (store_of c.serve_both-ended.new.outputs.keeper))
            (g.W.Write.contents (inner_of c.args.outputs.now.writer))
            (g.W.Write.contents (inner_of c.serve_both-ended.new.outputs.writer))
            c.in-Ok.ensures.made c.in-Ok-begin.ensures.begun
            (updated_as (Err c.in-Err-ended.fault) _ _ _ _ _ _ _ ask _ c.in-Ok-begin.from
            c.args.new ahead c.ahead_controlled.ensures.same there c.in-Err-ended.ensures.served),
      );
  led = tt;
  alone = λ refused. absurd refused;
}

pub ahead_controlled-requires-clause-closed : goal.ahead_controlled-requires-clause-closed
ahead_controlled-requires-clause-closed g c =
    (begun_closed c.in-Ok-begin.from c.args.old c.args.request.now.session.bound
    (file_named (session_ask_of c.args.request.now.session).live c.args.live)
    c.in-Ok-begin.ensures.begun).0

pub ahead_controlled-requires-clause-whole : goal.ahead_controlled-requires-clause-whole
ahead_controlled-requires-clause-whole g c =
    (begun_closed c.in-Ok-begin.from c.args.old c.args.request.now.session.bound
    (file_named (session_ask_of c.args.request.now.session).live c.args.live)
    c.in-Ok-begin.ensures.begun).1

pub serve_both-ended-requires-clause-from : goal.serve_both-ended-requires-clause-from
serve_both-ended-requires-clause-from g c κs within =
    let same = c.ahead_controlled.ensures.same in
    let both = begun_closed c.in-Ok-begin.from c.args.old c.args.request.now.session.bound
    (file_named (session_ask_of c.args.request.now.session).live c.args.live)
    c.in-Ok-begin.ensures.begun in (
      ap (λ (h : Holding). h.begun) same ∙ both.0,
      ap (λ (h : Holding). h.spoiled) same ∙ both.1,
    )

pub serve_both-ended-requires-clause-to : goal.serve_both-ended-requires-clause-to
serve_both-ended-requires-clause-to g c κs within =
    stands_closed c.in-Ok-ahead_controlled.ahead.to c.args.new _
    c.in-Ok-ahead_controlled.ensures.ahead.to

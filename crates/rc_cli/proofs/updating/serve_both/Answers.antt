-- Both steps of an update, each in a session of its own database. The second one begins where the
-- first is all done and the store has entered the new database (`enter`), which alters no text.
-- `both_served` joins what the two lines have written and kept, `both_lead` what the store was led
-- through.
use Rattle.std.proofs.Common.{ℕ, List, Option, inl, subst}
use Rattle.rc_streams.specs.Noting.{inner_of}
use Rattle.rc_script.specs.Says.{saying_of}
use Rattle.rc_serve.specs.Ending.{IsDoneAs}
use Rattle.rc_serve.specs.declared.ending.Ending.TheVariants.{Done, Refused, Hindered}
use Rattle.rc_args.specs.OnceAsked.{Said}
use Rattle.rc_args.specs.SessionAsked.{session_ask_of}
use Rattle.rc_cli.specs.Once.{ServedOnce}
use Rattle.rc_cli.specs.Storing.{store_of}
use Rattle.rc_cli.proofs.PuttingLemmas.{both_lead, line_ended}
use Rattle.rc_cli.proofs.UpdateLemmas.{both_served, fault_behind, first_alone}
use Rattle.rc_cli.proofs.updating.serve_both.Goals as goal

pub line_once-requires-clause-closed : goal.line_once-requires-clause-closed
line_once-requires-clause-closed g c κs within = c.requires.from.0

pub line_once-requires-clause-whole : goal.line_once-requires-clause-whole
line_once-requires-clause-whole g c κs within = c.requires.from.1

pub line_once-requires-clause-writer : goal.line_once-requires-clause-writer
line_once-requires-clause-writer g c κs within = c.requires.writer

pub line_once-requires-in-Ok-Done-clause-closed : goal.line_once-requires-in-Ok-Done-clause-closed
line_once-requires-in-Ok-Done-clause-closed g c κs within = c.requires.to.0

pub line_once-requires-in-Ok-Done-clause-whole : goal.line_once-requires-in-Ok-Done-clause-whole
line_once-requires-in-Ok-Done-clause-whole g c κs within = c.requires.to.1

pub line_once-requires-in-Ok-Done-clause-writer : goal.line_once-requires-in-Ok-Done-clause-writer
line_once-requires-in-Ok-Done-clause-writer g c κs within = c.in-Ok-Done.ensures.sound

pub returns-in-Ok-Done-clause-served : goal.returns-in-Ok-Done-clause-served
returns-in-Ok-Done-clause-served g c =
    both_served (session_ask_of c.args.request.now).live
    (g.S.Store.holds (store_of c.args.outputs.now.keeper))
    (g.S.Store.holds (store_of c.line_once.new.outputs.keeper))
    (g.S.Store.holds (store_of c.line_once-in-Ok-Done.new.outputs.keeper))
    (IsDoneAs c.args.request.now.workers (g.G.Gate.answers c.args.gates.now.lowers)
    (g.G.Gate.gives c.args.gates.now.lowers))
    (IsDoneAs c.args.request.now.workers (g.G.Gate.answers c.args.gates.now.raises)
    (g.G.Gate.gives c.args.gates.now.raises))
    (Said (saying_of c.args.ahead.now.lowering)) (Said (saying_of c.args.ahead.now.raising))
    (g.W.Write.contents (inner_of c.args.outputs.now.writer))
    (g.W.Write.contents (inner_of c.line_once.new.outputs.writer))
    (g.W.Write.contents (inner_of c.line_once-in-Ok-Done.new.outputs.writer)) c.args.from.now
    c.line_once.new.session c.args.ahead.now.to c.line_once-in-Ok-Done.new.session
    c.behind.result c.line_once-in-Ok-Done.result c.in-Ok-Done.field-0 c.in-Ok-Done.field-0-is
    c.behind.ensures c.in-Ok-Done.ensures.served
    (subst (λ (was : Option (List ℕ)). ServedOnce c.line_once-in-Ok-Done.result
    (session_ask_of c.args.request.now).live was
    (g.S.Store.holds (store_of c.line_once-in-Ok-Done.new.outputs.keeper))
    (IsDoneAs c.args.request.now.workers (g.G.Gate.answers c.args.gates.now.raises)
    (g.G.Gate.gives c.args.gates.now.raises)) (Said (saying_of c.args.ahead.now.raising))
    (g.W.Write.contents (inner_of c.line_once.new.outputs.writer))
    (g.W.Write.contents (inner_of c.line_once-in-Ok-Done.new.outputs.writer))
    c.args.ahead.now.to c.line_once-in-Ok-Done.new.session)
    c.enter.ensures.same c.line_once-in-Ok-Done.ensures.served)

pub returns-in-Ok-Done-clause-led : goal.returns-in-Ok-Done-clause-led
returns-in-Ok-Done-clause-led g c lowers raises =
    let path = (session_ask_of c.args.request.now).live in
    let workers = c.args.request.now.workers in
    let lowering = saying_of c.args.ahead.now.lowering in
    both_lead g.S.Store.put g.S.Store.entered path lowering (saying_of c.args.ahead.now.raising)
    c.args.from.now c.line_once.new.session c.args.ahead.now.to
    c.line_once-in-Ok-Done.new.session (store_of c.args.outputs.now.keeper)
    (store_of c.line_once.new.outputs.keeper) (store_of c.enter.new.self)
    (store_of c.line_once-in-Ok-Done.new.outputs.keeper) (
      line_ended workers (g.G.Gate.answers c.args.gates.now.lowers)
          (g.G.Gate.gives c.args.gates.now.lowers) path _ _ (Said lowering) _ _ c.args.from.now
          c.line_once.new.session c.in-Ok-Done.field-0 Done c.in-Ok-Done.field-0-is
          c.in-Ok-Done.ensures.served,
      c.in-Ok-Done.ensures.led,
    ) c.enter.ensures.led raises workers
    (g.G.Gate.answers c.args.gates.now.raises) (g.G.Gate.gives c.args.gates.now.raises) _ _ _ _
    c.behind.result c.line_once-in-Ok-Done.result c.behind.ensures
    c.line_once-in-Ok-Done.ensures.served c.line_once-in-Ok-Done.ensures.led

pub returns-in-Ok-Done-clause-fault : goal.returns-in-Ok-Done-clause-fault
returns-in-Ok-Done-clause-fault g c =
    fault_behind c.behind.result c.line_once-in-Ok-Done.result _ c.behind.ensures
    c.line_once-in-Ok-Done.ensures.fault

pub returns-in-Ok-Refused-clause-served : goal.returns-in-Ok-Refused-clause-served
returns-in-Ok-Refused-clause-served g c =
    first_alone _ _ _ (g.S.Store.holds (store_of c.line_once.new.outputs.keeper)) _ _ _ _ _ _
    (g.W.Write.contents (inner_of c.line_once.new.outputs.writer)) _ _ _ c.line_once.new.session
    c.in-Ok-Refused.field-0 Refused
    c.in-Ok-Refused.field-0-is (λ bad. cc) c.in-Ok-Refused.ensures.served

pub returns-in-Ok-Refused-clause-led : goal.returns-in-Ok-Refused-clause-led
returns-in-Ok-Refused-clause-led g c lowers raises =
    absurd (lowers (line_ended c.args.request.now.workers
    (g.G.Gate.answers c.args.gates.now.lowers) (g.G.Gate.gives c.args.gates.now.lowers) _ _ _
    (Said (saying_of c.args.ahead.now.lowering)) _ _ c.args.from.now c.line_once.new.session
    c.in-Ok-Refused.field-0 Refused c.in-Ok-Refused.field-0-is c.in-Ok-Refused.ensures.served).0)

pub returns-in-Ok-Refused-clause-fault : goal.returns-in-Ok-Refused-clause-fault
returns-in-Ok-Refused-clause-fault g c = tt

pub returns-in-Ok-Hindered-clause-served : goal.returns-in-Ok-Hindered-clause-served
returns-in-Ok-Hindered-clause-served g c =
    first_alone _ _ _ (g.S.Store.holds (store_of c.line_once.new.outputs.keeper)) _ _ _ _ _ _
    (g.W.Write.contents (inner_of c.line_once.new.outputs.writer)) _ _ _ c.line_once.new.session
    c.in-Ok-Hindered.field-0 Hindered
    c.in-Ok-Hindered.field-0-is (λ bad. cc) c.in-Ok-Hindered.ensures.served

pub returns-in-Ok-Hindered-clause-led : goal.returns-in-Ok-Hindered-clause-led
returns-in-Ok-Hindered-clause-led g c lowers raises = inl (
  c.line_once.new.session.line,
  (
    line_ended c.args.request.now.workers (g.G.Gate.answers c.args.gates.now.lowers)
        (g.G.Gate.gives c.args.gates.now.lowers) _ _ _
        (Said (saying_of c.args.ahead.now.lowering)) _ _ c.args.from.now c.line_once.new.session
        c.in-Ok-Hindered.field-0 Hindered c.in-Ok-Hindered.field-0-is
        c.in-Ok-Hindered.ensures.served,
    c.in-Ok-Hindered.ensures.led,
  ),
)

pub returns-in-Ok-Hindered-clause-fault : goal.returns-in-Ok-Hindered-clause-fault
returns-in-Ok-Hindered-clause-fault g c = tt

pub returns-in-Err-clause-served : goal.returns-in-Err-clause-served
returns-in-Err-clause-served g c = inl (tt, (c.line_once.new.session, c.in-Err.ensures.served))

pub returns-in-Err-clause-fault : goal.returns-in-Err-clause-fault
returns-in-Err-clause-fault g c = c.in-Err.ensures.fault

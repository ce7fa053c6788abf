-- Both lines of a restart: what goes down, and the undo of that. If the first line is refused or a
-- device fails, the second one is not begun. `led` joins what both lines have put into the store
-- (`leads_back`); it speaks of status 0 alone, so both lines are done.
use Rattle.std.proofs.Common.{◌≡◌, ◌∙◌, false, inl, inr, refl, sym, true}
use Rattle.rc_script.specs.Says.{saying_of}
use Rattle.rc_serve.specs.declared.ending.Ending.TheVariants.{Refused}
use Rattle.rc_args.specs.OnceAsked.{Said}
use Rattle.rc_args.specs.SessionAsked.{session_ask_of}
use Rattle.rc_cli.specs.Restarting.{coming_back}
use Rattle.rc_cli.specs.Storing.{store_of}
use Rattle.rc_cli.proofs.LeadingLemmas.{leads_back, leads_refused}
use Rattle.rc_cli.proofs.PuttingLemmas.{line_ended}
use Rattle.rc_cli.proofs.sessions.restarting.serve_steps.Goals as goal

pub returns-in-Err-clause-served : goal.returns-in-Err-clause-served
returns-in-Err-clause-served g c =
    inr (inl (c.line_once.new.session, inl tt, c.in-Err.ensures.served))

pub returns-in-Ok-Refused-clause-led : goal.returns-in-Ok-Refused-clause-led
returns-in-Ok-Refused-clause-led g c =
    let path = (session_ask_of c.args.request.now).live in
    let what = Said (saying_of c.args.first.now.line) in
    let middle = c.line_once.new.session in
    leads_refused g.S.Store.put path what c.args.session.now.database c.args.session.now.line
    middle.line (store_of c.args.outputs.now.keeper) (store_of c.line_once.new.outputs.keeper) (
      line_ended c.args.request.now.workers (g.G.Gate.answers c.args.gate.now)
          (g.G.Gate.gives c.args.gate.now) path _ _ what _ _ c.args.session.now middle
          c.in-Ok-Refused.field-0 Refused c.in-Ok-Refused.field-0-is
          c.in-Ok-Refused.ensures.served,
      c.in-Ok-Refused.ensures.led,
    )

pub returns-in-Ok-come_back-clause-led : goal.returns-in-Ok-come_back-clause-led
returns-in-Ok-come_back-clause-led g c =
    let path = (session_ask_of c.args.request.now).live in
    let workers = c.args.request.now.workers in
    let answers = g.G.Gate.answers c.args.gate.now in
    let gives = g.G.Gate.gives c.args.gate.now in
    let what = Said (saying_of c.args.first.now.line) in
    let middle = c.line_once.new.session in
    let new = c.come_back.new.session in
    let lowered = c.in-Ok.lowered in
    let raised = c.in-Ok-come_back.raised in
    leads_back g.S.Store.put path what c.args.session.now.database c.args.session.now.line
    middle.line (store_of c.args.outputs.now.keeper) (store_of c.line_once.new.outputs.keeper)
    (store_of c.come_back.new.outputs.keeper) lowered raised c.ending_with.result
    middle.database new.line (
      line_ended workers answers gives path _ _ what _ _ c.args.session.now middle lowered lowered
          refl c.in-Ok.ensures.served,
      c.in-Ok.ensures.led,
    )
    c.line_once.ensures.stays.0
    (λ same. let bad : false ≡ true =
    sym c.if-is_live.false ∙ c.is_live.ensures.1 (same ∙ sym c.requires.before) in cc)
    c.ending_with.ensures (
      line_ended workers answers gives path _ _ coming_back _ _ middle new raised raised refl
          c.in-Ok-come_back.ensures.served,
      c.in-Ok-come_back.ensures.led,
    )

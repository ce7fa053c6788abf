use Rattle.std.proofs.Common.{◌≡◌, true, false}
use Rattle.rc_model.specs.declared.Event.TheVariants.{Take}
use Rattle.rc_session.proofs.Replaying.{illegal_at, made_at, unsettled_at}
use Rattle.rc_session.proofs.replay.make_all.Goals as goal

pub returns-then-not-settled-clause-fault : goal.returns-then-not-settled-clause-fault
returns-then-not-settled-clause-fault c =
    unsettled_at c.args.run.now.course c.loop-place.run c.args.events.now c.loop-place.place
    c.loop-place.invariant.0 c.loop-place.invariant.1 c.loop-place-test.false
    (λ settled. (let bad : false ≡ true = c.if-not-settled.ensures.1 settled in cc))

pub returns-in-Err-clause-fault : goal.returns-in-Err-clause-fault
returns-in-Err-clause-fault c =
    illegal_at c.args.run.now.course c.loop-place.run c.args.events.now
    c.loop-place.place (Take 0 0)
    c.loop-place.invariant.0 c.loop-place.invariant.1 c.loop-place-test.true c.in-Err.ensures.err

pub loop-place-preserved : goal.loop-place-preserved
loop-place-preserved c =
    made_at c.args.run.now.course c.loop-place.run c.step.new.self c.args.events.now
    c.loop-place.place (Take 0 0)
    c.loop-place.invariant.0 c.loop-place.invariant.1 c.loop-place-test.true
    c.in_default.ensures.ok c.in_default.ensures.made

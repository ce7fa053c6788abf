use Rattle.std.proofs.Common.{map, ap, inr}
use Rattle.rc_session.specs.Commands.{command_of}
use Rattle.rc_recovery.proofs.Single.{enters_single, none_in_single, single}
use Rattle.rc_recovery.proofs.texts.enter.Goals as goal

pub returns-in-len1-clause-entered : goal.returns-in-len1-clause-entered
returns-in-len1-clause-entered c =
    let step = c.step-item.result in
    let is =
    single c.args.steps.now step c.in-len1.len_at_least c.in-len1.len_below c.step-item.is in
    enters_single c.args.db c.args.text.now (map command_of c.args.steps.now) (command_of step)
    c.enter_one.result (ap (map command_of) is) c.enter_one.ensures.entered

pub returns-in-len1-clause-nothing : goal.returns-in-len1-clause-nothing
returns-in-len1-clause-nothing c =
    let step = c.step-item.result in
    let is =
    single c.args.steps.now step c.in-len1.len_at_least c.in-len1.len_below c.step-item.is in
    none_in_single (map command_of c.args.steps.now) (command_of step) c.enter_one.result
    (ap (map command_of) is) c.enter_one.ensures.nothing

pub returns-in-len1-clause-unfit : goal.returns-in-len1-clause-unfit
returns-in-len1-clause-unfit c = λ unfit.
    let step = c.step-item.result in
    let is =
    single c.args.steps.now step c.in-len1.len_at_least c.in-len1.len_below c.step-item.is in
    let refused = c.enter_one.ensures.unfit unfit in
    inr (command_of step, ap (map command_of) is, refused.0, refused.1)

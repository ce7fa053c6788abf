use Rattle.std.proofs.lemmas.Result.{IfOk-weaker}
use Rattle.rc_model.specs.Names.{Has}
use Rattle.rc_model.specs.Database.{IsDatabase}
use Rattle.rc_update.specs.Carrying.{StaysUp}
use Rattle.rc_update.specs.Conversions.{conversions_of}
use Rattle.rc_update.proofs.CarryingLemmas.{carried_holds, stays_holds}
use Rattle.rc_update.proofs.carrying.kept.Goals as goal

pub carried-requires : goal.carried-requires
carried-requires c = c.in_ok-stays.ensures.bound

pub returns-clause-members : goal.returns-clause-members
returns-clause-members c =
    let old = c.args.old.now in
    let new = c.args.new.now in
    let list = conversions_of c.args.list.now in
    let live = c.args.live.now in
    IfOk-weaker c.carried.result _ _
    (λ kept are. carried_holds old new list c.in_ok-stays.stays kept
    (StaysUp old new list (Has live))
    (stays_holds old new list live c.args.altered.now c.in_ok-stays.stays c.requires.altered
    c.in_ok-stays.ensures.members)
    are)
    c.carried.ensures.members

pub returns-clause-database : goal.returns-clause-database
returns-clause-database c =
    IfOk-weaker c.carried.result _ (λ _. IsDatabase c.args.new.now)
    (λ _ _. c.carried.ensures.database) c.carried.ensures.bound

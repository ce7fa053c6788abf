use Rattle.std.proofs.Common.{◌∙◌, ap, length, sym}
use Rattle.rc_model.specs.Names.{Has}
use Rattle.rc_update.specs.Carrying.{Carried, IsAlteredUp, StaysUp}
use Rattle.rc_update.specs.Conversions.{conversions_of}
use Rattle.rc_update.proofs.CarryingLemmas.{closed_by, kept_closed, kept_unaltered, names_hold}
use Rattle.rc_update.proofs.carrying.carry.Goals as goal

pub names_of-requires : goal.names_of-requires
names_of-requires c = c.in_ok-altered.ensures.bound ∙ sym (ap length c.names.ensures.names)

pub kept-kept-requires-clause-bound : goal.kept-kept-requires-clause-bound
kept-kept-requires-clause-bound c = c.in_ok-altered.ensures.bound

pub kept-kept-requires-clause-altered : goal.kept-kept-requires-clause-altered
kept-kept-requires-clause-altered c = c.in_ok-altered.ensures.members

pub returns-clause-lower : goal.returns-clause-lower
returns-clause-lower c =
    names_hold c.args.old.now c.names.result.now c.in_ok-altered.altered
    (IsAlteredUp c.args.old.now c.args.new.now (conversions_of c.args.list.now)
    (Has c.args.live.now)) _
    c.names.ensures.names c.in_ok-altered.ensures.members c.in_ok-lower.ensures

pub returns-clause-kept : goal.returns-clause-kept
returns-clause-kept c = c.in_ok-kept.ensures.members

pub returns-clause-bound : goal.returns-clause-bound
returns-clause-bound c = c.in_ok-kept.ensures.bound

pub returns-clause-closed : goal.returns-clause-closed
returns-clause-closed c =
    closed_by c.args.new.now.needs c.in_ok-kept.field-0
    (Carried c.args.old.now c.args.new.now (conversions_of c.args.list.now)
    (StaysUp c.args.old.now c.args.new.now (conversions_of c.args.list.now) (Has c.args.live.now)))
    c.in_ok-kept.ensures.members
    (kept_closed c.args.old.now c.args.new.now (conversions_of c.args.list.now)
    (Has c.args.live.now) c.in_ok-kept.ensures.database c.requires.closed
    (kept_unaltered c.args.old.now c.args.new.now (conversions_of c.args.list.now) c.args.live.now
    c.in_ok-altered.altered c.in_ok-altered.ensures.members c.in_ok-altered.ensures.spared))

pub returns-clause-raise : goal.returns-clause-raise
returns-clause-raise c = c.in_ok-raised.ensures

use Rattle.std.proofs.Common.{◌∙◌, ap, length, map, sym}
use Rattle.std.proofs.lemmas.Result.{IfOk-weaker}
use Rattle.std.specs.String.{string_bytes}
use Rattle.rc_model.specs.Names.{Has}
use Rattle.rc_update.specs.Carrying.{Carried}
use Rattle.rc_update.specs.Conversions.{conversions_of}
use Rattle.rc_update.proofs.CarryingLemmas.{names_hold}
use Rattle.rc_update.proofs.carrying.raised.Goals as goal

pub names_of-requires : goal.names_of-requires
names_of-requires c = c.in_ok-there.ensures.bound ∙ sym (ap length c.names.ensures.names)

pub returns : goal.returns
returns c = IfOk-weaker c.names_of.result _ _
    (λ raise lists. names_hold c.args.new.now c.names.result.now c.in_ok-there.there
    (Carried c.args.old.now c.args.new.now (conversions_of c.args.list.now) (Has c.args.live.now))
    (map string_bytes raise.items)
    c.names.ensures.names c.in_ok-there.ensures.members lists)
    c.names_of.ensures

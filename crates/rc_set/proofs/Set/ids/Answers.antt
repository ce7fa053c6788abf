use Rattle.std.proofs.Common.{length, ap, arith}
use Rattle.std.proofs.lemmas.Result.{IfOk-weaker}
use Rattle.rc_model.specs.Names.{Has}
use Rattle.rc_set.specs.Words.{HasBit}
use Rattle.rc_set.proofs.Flags.{bit_is}
use Rattle.rc_set.proofs.Listing.{lists_as}
use Rattle.rc_set.proofs.Set.ids.Goals as goal

pub ids_of-requires : goal.ids_of-requires
ids_of-requires c =
    omega (arith, c.self.invariant.few, c.self.invariant.small, ap length c.deref.ensures.value)

pub returns : goal.returns
returns c =
    let same = bit_is c.self.invariant c.self.view_is c.deref.ensures.value in
    IfOk-weaker c.ids_of.result _ _
    (λ ids lists.
    lists_as (HasBit c.deref.result.now) (Has c.args.self.now) ids.items same lists)
    c.ids_of.ensures

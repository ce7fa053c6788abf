use Rattle.std.proofs.Common.{length, arith}
use Rattle.rc_model.specs.Names.{Has}
use Rattle.rc_model.proofs.SetMembers.{has_within}
use Rattle.rc_set.specs.Words.{HasBit}
use Rattle.rc_set.proofs.Flags.{bound_is, bit_is}
use Rattle.rc_set.proofs.Nexts.{next_as, none_as, next_low}
use Rattle.rc_set.proofs.Set.next_from.Goals as goal

pub returns-clause-some : goal.returns-clause-some
returns-clause-some c =
    next_as (HasBit c.deref.result.now) (Has c.args.self.now) c.args.from c.next_bit.result
    (bit_is c.self.invariant c.self.view_is c.deref.ensures.value) c.next_bit.ensures.some

pub returns-clause-none : goal.returns-clause-none
returns-clause-none c =
    none_as (HasBit c.deref.result.now) (Has c.args.self.now) c.args.from c.next_bit.result
    (bit_is c.self.invariant c.self.view_is c.deref.ensures.value) c.next_bit.ensures.none

pub returns-clause-below : goal.returns-clause-below
returns-clause-below c =
    next_low (Has c.args.self.now) c.args.from (length c.args.self.now) c.next_bit.result
    (omega (arith, bound_is c.self.invariant c.self.view_is, c.self.invariant.small))
    (has_within c.args.self.now) (returns-clause-some c)

use Rattle.std.proofs.Common.{◌*◌, arith}
use Rattle.rc_set.specs.Words.{HasBit}
use Rattle.rc_set.proofs.Bits.{bit_low}
use Rattle.rc_set.proofs.Listing.{none_listed, all_listed}
use Rattle.rc_set.proofs.ids_of.Goals as goal

pub loop-at-init : goal.loop-at-init
loop-at-init c = rw c.new-ids.ensures.items (none_listed (HasBit c.args.words.now))

pub loop-at-preserved : goal.loop-at-preserved
loop-at-preserved c = c.in_ok-push_ids.ensures

pub returns : goal.returns
returns c =
    let words = c.args.words.now in
    all_listed (HasBit words) (64 * c.loop-at.at) c.loop-at.ids.items c.loop-at.invariant
    (λ s has. omega (arith, bit_low words s has))

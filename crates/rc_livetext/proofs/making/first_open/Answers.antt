use Rattle.std.proofs.Common.{length, refl}
use Rattle.rc_livetext.specs.Parts.{HasNeeds, IsWithin}
use Rattle.rc_livetext.proofs.Pairs.{all_more, all_taken, pair_at}
use Rattle.rc_livetext.proofs.making.first_open.Goals as goal

pub has_needs-requires : goal.has_needs-requires
has_needs-requires c =
    (pair_at (IsWithin (length c.args.graph.now)) c.args.held.now c.loop-place.place
    c.index-held-place.result c.requires c.loop-place-test.true c.index-held-place.is).live

pub loop-place-preserved : goal.loop-place-preserved
loop-place-preserved c =
    all_more (HasNeeds c.args.graph.now) c.args.held.now c.loop-place.place
    c.index-held-place.result c.loop-place.invariant c.loop-place-test.true c.index-held-place.is
    (c.if-not-has_needs.ensures.0 refl)

pub returns : goal.returns
returns c =
    all_taken (HasNeeds c.args.graph.now) c.args.held.now c.loop-place.place c.loop-place-test.false
    c.loop-place.invariant

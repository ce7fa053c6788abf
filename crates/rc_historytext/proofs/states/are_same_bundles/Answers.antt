use Rattle.std.proofs.Common.{◌≡◌, length, arith, rules}
use Rattle.rc_model.proofs.Places.{same_by_places}
use Rattle.rc_historytext.proofs.states.are_same_bundles.Goals as goal

pub returns : goal.returns
returns c =
    let long : length c.args.one.now ≡ length c.args.other.now = omega arith in (
      λ _. same_by_places c.args.one.now c.args.other.now long
          (λ k within. c.loop-at.invariant k (omega arith)),
      λ _. search rules,
    )

use Rattle.std.proofs.Common.{◌≡◌, length, arith, rules}
use Rattle.rc_model.proofs.Places.{same_by_places}
use Rattle.rc_db.proofs.table.Table.same.Goals as goal

pub returns : goal.returns
returns c =
    let long : length c.args.self.now ≡ length c.args.other.now = omega arith in (
      λ _. same_by_places c.args.self.now c.args.other.now long
          (λ k within. c.loop-place.invariant k (omega arith)),
      λ _. search rules,
    )

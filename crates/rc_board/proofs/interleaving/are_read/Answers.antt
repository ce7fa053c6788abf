use Rattle.std.proofs.Common.{◌≡◌, ◌<◌, [], drop, false, true, length, get_or, subst, sym, rules}
use Rattle.rc_board.specs.Pads.{Written, events_on}
use Rattle.rc_board.proofs.Placing.{not_end}
use Rattle.rc_board.proofs.interleaving.are_read.Goals as goal

pub returns-then-read-k : goal.returns-then-read-k
returns-then-read-k c =
    let pads = c.args.pads.now in
    let k = c.loop-k.k in
    let pad : Written = c.index-pads-k.result in
    let a = get_or c.args.read.now k 0 in
    let behind : a < length pad.notes = search rules in (
      λ bad. absurd (let no : false ≡ true = bad in cc),
      λ left. absurd (not_end pad.notes a behind
          (subst (λ (p : Written). [] ≡ events_on (drop a p.notes)) (sym c.index-pads-k.is)
          (left k pad c.loop-k-test.true))),
    )

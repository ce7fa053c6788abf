use Rattle.std.proofs.Common.{◌∙◌, ◌<◌, ◌≤◌, ◌++◌, ℕ, List, ap, take, length, slice_index_or}
use Rattle.std.proofs.Common.{false, arith}
use Rattle.rc_model.proofs.Lists.{grown}
use Rattle.rc_render.specs.JournalText.{sign, signs}
use Rattle.rc_render.proofs.JournalLemmas.{is_set_by, signs_all, signs_more}
use Rattle.rc_render.proofs.journal.add_signs.Goals as goal

pub loop-id-preserved : goal.loop-id-preserved
loop-id-preserved c = λ from to moves.
    let i = c.loop-id.id in
    let low : i < length from = omega (arith, moves.before, c.requires.up) in
    let within : i < length to = omega (arith, moves.after, c.requires.up) in
    grown c.add_sign.new.text.items c.loop-id.text.items c.args.text.now.items
    (signs (take i c.args.names.now) (take i from) (take i to)) _
    (sign c.name_of.result.now (slice_index_or from i false) (slice_index_or to i false))
    (c.in_ok-add_sign.ensures (slice_index_or from i false) (slice_index_or to i false)
    (is_set_by from to c.args.up.now i c.contains.result moves.up c.contains.ensures)
    (is_set_by to from c.args.down.now i c.contains-in-loop-id.result moves.down
    c.contains-in-loop-id.ensures))
    (c.loop-id.invariant from to moves)
    (signs_more c.args.names.now from to i c.name_of.result.now c.name_of.ensures low within)

pub returns : goal.returns
returns c = λ from to moves.
    let n = c.loop-id.id in
    let a : length c.args.names.now ≤ n = omega arith in
    let b : length from ≤ n = omega (arith, moves.before, c.requires.up) in
    let d : length to ≤ n = omega (arith, moves.after, c.requires.up) in
    c.loop-id.invariant from to moves ∙ ap (λ (t : List ℕ). c.args.text.now.items ++ t)
    (signs_all c.args.names.now from to n a b d)

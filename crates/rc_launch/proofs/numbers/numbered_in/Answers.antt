use Rattle.std.proofs.Common.{◌≡◌, ◌∙◌, ◌≤◌, List, length, take, ap, arith, subst, sym}
use Rattle.std.proofs.lemmas.List.{length-take-le}
use Rattle.rc_historytext.specs.Text.{GenerationText, HistoryText}
use Rattle.rc_launch.proofs.Counting.{Counted, counted_here, counted_on, next_one}
use Rattle.rc_launch.proofs.numbers.numbered_in.Goals as goal
use Rattle.rc_launch.proofs.numbers.numbered_in.Goals.{then-place-form, else-place-form}

pub loop-place-preserved : goal.loop-place-preserved
loop-place-preserved c =
    let g = c.index.result.now in
    let before = take c.loop-place.place c.args.form.now.generations in
    let present = c.args.form.now.present in
    let (more, at) = next_one c.args.form.now _ c.loop-place.place g c.form.view_is (omega arith)
    c.index.ensures in
    let seen = ap (λ (t : HistoryText). length t.generations) c.form.view_is in
    let low : c.loop-place.place ≤ length c.args.form.now.generations = omega (arith, seen) in
    let long = length-take-le c.loop-place.place c.args.form.now.generations low in
    let there : c.args.form.now.present ≡ c.form.inside.present =
    sym (ap (λ (t : HistoryText). t.present) c.form.view_is) in
    let (s, is, counts, grows) = c.in-Ok.ensures.number in
    elim c.if-place-form.branch [
      | then-place-form w ↦
          rw w.at-is (subst (λ (gs : List GenerationText).
          Counted gs present c.in-Ok.number c.add_generation.new.marks.items) (sym more)
          (counted_here before g s present c.loop-place.at c.in-Ok.number c.loop-place.marks.items
          c.add_generation.new.marks.items c.loop-place.invariant is counts grows
          (there ∙ sym w.if-place-form.true ∙ sym long)))
      | else-place-form w ↦
          rw w.at-is (subst (λ (gs : List GenerationText).
          Counted gs present c.loop-place.at c.add_generation.new.marks.items) (sym more)
          (counted_on before g s present c.loop-place.at c.loop-place.marks.items
          c.add_generation.new.marks.items c.loop-place.invariant is grows
          (λ same. w.if-place-form.false (sym long ∙ sym same ∙ there))))
    ]

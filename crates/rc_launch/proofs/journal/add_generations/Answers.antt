use Rattle.std.proofs.Common.{◌∙◌, ◌≤◌, ◌++◌, [], ℕ, List, length, ap, append_assoc, arith, refl}
use Rattle.std.proofs.Common.{subst, sym}
use Rattle.std.proofs.lemmas.List.{append-nil, take_all}
use Rattle.rc_historytext.specs.Text.{GenerationText, HistoryText}
use Rattle.rc_launch.proofs.Counting.{next_one}
use Rattle.rc_launch.proofs.JournalLines.{AddsLines, adds_lines, adds_more}
use Rattle.rc_launch.proofs.journal.add_generations.Goals as goal

pub loop-place-init : goal.loop-place-init
loop-place-init c = ([], (refl, refl), sym (append-nil c.args.text.now.items))

pub loop-place-preserved : goal.loop-place-preserved
loop-place-preserved c =
    let g = c.index.result.now in
    let (more, there) = next_one c.args.form.now _ c.loop-place.place g c.form.view_is (omega arith)
    c.index.ensures in
    let (lines, adds, whole) = c.loop-place.invariant in
    let (told, own, is, counts, grows) = rw c.in-Ok-Some.field-0-is at c.in-Ok-Some.ensures.some in
    let next = c.in-Ok-Some.next in (
      lines ++ own,
      subst (λ (gs : List GenerationText). AddsLines 0 next gs (lines ++ own)) (sym more)
          (adds_more 0 c.loop-place.first next _ g lines own told adds is counts),
      grows ∙ ap (λ (t : List ℕ). t ++ own) whole
          ∙ append_assoc c.args.text.now.items lines own,
    )

pub returns-clause-lines : goal.returns-clause-lines
returns-clause-lines c =
    let seen = ap (λ (t : HistoryText). length t.generations) c.form.view_is in
    let all : length c.args.form.now.generations ≤ c.loop-place.place =
    omega (arith, seen, c.loop-place-test.false) in
    let (lines, adds, whole) = c.loop-place.invariant in (
      lines,
      adds_lines 0 c.loop-place.first c.args.form.now.generations lines
          (subst (λ (gs : List GenerationText). AddsLines 0 c.loop-place.first gs lines)
          (take_all c.loop-place.place c.args.form.now.generations all) adds),
      whole,
    )

pub returns-in-Ok-None-clause-fault : goal.returns-in-Ok-None-clause-fault
returns-in-Ok-None-clause-fault c =
    let g = c.index.result.now in
    let (more, there) = next_one c.args.form.now _ c.loop-place.place g c.form.view_is (omega arith)
    c.index.ensures in
    λ bytes is. (
      c.args.form.now,
      c.requires,
      is,
      (g, there, rw c.in-Ok-None.field-0-is at c.in-Ok-None.ensures.none),
    )

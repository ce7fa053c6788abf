use Rattle.std.proofs.Common.{◌≡◌, ◌∙◌, ◌++◌, List, ℕ, ap, arith, length, vec_len}
use Rattle.rc_render.specs.JournalText.{place_text}
use Rattle.rc_launch.proofs.journal.journal_of.Goals as goal

pub returns-in-Ok-added-clause-text : goal.returns-in-Ok-added-clause-text
returns-in-Ok-added-clause-text c =
    let (lines, are, whole) = c.in-Ok-added.ensures.lines in
    let (is, spelled) = c.in-Ok-read_history.ensures.ok in
    let long : vec_len c.in_ok-numbered.numbered.marks
    ≡ length c.in_ok-numbered.numbered.marks.items =
    omega (arith, c.in_ok-numbered.numbered.marks.ok.0) in (
      c.in_ok-numbered.numbered.at,
      c.in_ok-numbered.numbered.marks.items,
      c.in_ok-numbered.ensures.numbers,
      (
        c.in-Ok-read_history.form,
        is,
        spelled,
        (
          lines,
          are,
          whole ∙ ap (λ (t : List ℕ). t ++ lines)
              (c.in-Ok.ensures
              ∙ ap (place_text c.in_ok-numbered.numbered.at) (c.len.ensures ∙ long)),
        ),
      ),
    )

pub returns-in-Err-clause-fault : goal.returns-in-Err-clause-fault
returns-in-Err-clause-fault c =
    c.in-Err.ensures.fault c.args.history.now c.in-Ok-read_history.ensures.ok.1

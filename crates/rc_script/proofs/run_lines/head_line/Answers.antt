use Rattle.std.proofs.Common.{◌≡◌, ◌∙◌, ◌++◌, ℕ, List, Bool, sym, ap, string_bytes}
use Rattle.std.proofs.lemmas.List.{append-nil}
use Rattle.rc_script.specs.RunLines.{mark_of}
use Rattle.rc_script.proofs.run_lines.head_line.Goals as goal
use Rattle.rc_script.proofs.run_lines.head_line.Goals.{then-is_step+in_ok-push_str, else-is_step}

pub returns : goal.returns
returns c =
    let step : List ℕ = string_bytes c.in-Some.head in
    let is = rw c.in-Some.is at c.in_ok-head.ensures in
    elim c.if-is_step.branch [
      | then-is_step+in_ok-push_str w ↦ (
        step,
        is,
        ap string_bytes w.head-is ∙ w.in_ok-push_str.ensures.bytes
            ∙ ap (λ (b : Bool). step ++ mark_of b) (sym w.if-is_step.true),
      )
      | else-is_step w ↦ (
        step,
        is,
        ap string_bytes w.head-is ∙ sym (append-nil step)
            ∙ ap (λ (b : Bool). step ++ mark_of b) (sym w.if-is_step.false),
      )
    ]

use Rattle.std.proofs.Common.{◌∙◌, ◌++◌, ℕ, List, ap, sym}
use Rattle.rc_render.specs.Lines.{line}
use Rattle.rc_render.proofs.LineLemmas.{all_lines, one_more_line}
use Rattle.rc_render.proofs.lines.name_lines.Goals as goal

pub loop-name-preserved : goal.loop-name-preserved
loop-name-preserved c =
    c.in_ok-add_line.ensures
    ∙ (ap (λ (t : List ℕ). t ++ line c.name-item.result.now) c.loop-name.invariant
    ∙ sym (one_more_line (λ name. name.now) c.args.names.now c.loop-name.name-index
    c.name-item.result c.loop-name-test.true c.name-item.is))

pub returns : goal.returns
returns c =
    c.loop-name.invariant ∙ all_lines (λ name. name.now) c.args.names.now c.loop-name.name-index
    c.loop-name-test.false

use Rattle.std.proofs.Common.{◌∙◌, ◌++◌, ℕ, List, ap, sym}
use Rattle.rc_render.specs.Lines.{line}
use Rattle.rc_render.proofs.LineLemmas.{one_more_id}
use Rattle.rc_render.proofs.lines.id_lines.Goals as goal

pub loop-id-preserved : goal.loop-id-preserved
loop-id-preserved c =
    c.in_ok-add_line.ensures
    ∙ (ap (λ (n : List ℕ). n ++ line c.name_of.result.now) c.loop-id.invariant
    ∙ sym (one_more_id line c.args.names.now c.args.ids.now c.loop-id.id-index c.name_of.result.now
    c.loop-id-test.true c.name_of.ensures))

use Rattle.std.proofs.Common.{◌∙◌, ◌++◌, ℕ, List, ap, sym}
use Rattle.rc_cli.specs.Status.{line_of}
use Rattle.rc_cli.proofs.StatusLemmas.{lines_next}
use Rattle.rc_cli.proofs.status.lines_of.Goals as goal

pub loop-id-preserved : goal.loop-id-preserved
loop-id-preserved c =
    let more : List ℕ = line_of c.args.names.now c.args.wanted.now c.args.live.now
    c.args.events.now c.loop-id.id in
    c.in_ok-add_service.ensures ∙ (ap (λ (t : List ℕ). t ++ more) c.loop-id.invariant
    ∙ sym (lines_next c.args.names.now c.args.wanted.now c.args.live.now c.args.events.now
    c.loop-id.id))

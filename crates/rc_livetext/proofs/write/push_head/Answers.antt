use Rattle.std.proofs.Common.{◌∙◌, ◌++◌, ℕ, List, true, ap}
use Rattle.rc_livetext.specs.Text.{First, OfServices, OfBound, spell}
use Rattle.rc_livetext.proofs.LineLemmas.{three_parts}
use Rattle.rc_livetext.proofs.write.push_head.Goals as goal

pub returns : goal.returns
returns c =
    c.in_ok-push_bound.ensures
    ∙ (ap (λ (t : List ℕ). t ++ spell (OfBound c.args.bound))
    (c.in_ok-push_services.ensures ∙ ap (λ (t : List ℕ). t ++ spell (OfServices c.args.names.now))
    c.in_ok-push_line.ensures.written)
    ∙ three_parts c.args.out.now.items (spell (First true)) (spell (OfServices c.args.names.now))
    (spell (OfBound c.args.bound)))

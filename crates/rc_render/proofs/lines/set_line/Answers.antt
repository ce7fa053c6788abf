use Rattle.std.proofs.Common.{ℕ, List, All, ◌<◌, length, subst, sym}
use Rattle.rc_model.specs.Names.{Has}
use Rattle.rc_model.proofs.SetMembers.{has_within}
use Rattle.rc_render.proofs.LineLemmas.{listed_below}
use Rattle.rc_render.proofs.lines.set_line.Goals as goal

pub line_of-requires : goal.line_of-requires
line_of-requires c =
    subst (λ (ids : List ℕ). All (λ id. id < length c.args.names.now) ids)
    (sym c.deref.ensures.value)
    (subst (λ n. All (λ id. id < n) c.in_ok-ids.ids.items) c.requires
    (listed_below (Has c.args.set.now) (length c.args.set.now) c.in_ok-ids.ids.items
    c.in_ok-ids.ensures (has_within c.args.set.now)))

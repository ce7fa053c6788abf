use Rattle.std.proofs.Common.{◌∙◌, length, ap, sym, subst}
use Rattle.rc_model.specs.Session.{IsLineOf}
use Rattle.rc_session.specs.Holding.{Holding}
use Rattle.rc_session.proofs.Beginning.{first_held, first_is_line}
use Rattle.rc_session.proofs.session.Session.with_bound.Goals as goal

pub returns : goal.returns
returns c =
    first_held c.args.db c.args.bound c.with_bound.result c.in-Ok.live c.in-Ok-copy.table
    c.graph.ensures.database
    (c.in-Ok.ensures.bound ∙ c.len.ensures.count ∙ ap length c.graph.ensures.graph)
    c.in-Ok.ensures.members (c.in-Ok-copy.ensures ∙ c.table.ensures.table) c.with_bound.ensures

pub invariant_of-result : goal.invariant_of-result
invariant_of-result c =
    let held = first_held c.args.db c.args.bound c.with_bound.result c.in-Ok.live c.in-Ok-copy.table
    c.graph.ensures.database
    (c.in-Ok.ensures.bound ∙ c.len.ensures.count ∙ ap length c.graph.ensures.graph)
    c.in-Ok.ensures.members (c.in-Ok-copy.ensures ∙ c.table.ensures.table) c.with_bound.ensures in (
      c.graph.ensures.database,
      subst (IsLineOf c.args.db) (sym (ap (λ (h : Holding). h.line) held))
          (first_is_line c.args.db c.args.bound (c.requires, c.ranges.bound.fits)
          c.graph.ensures.database),
    )

use Rattle.std.proofs.Common.{◌∙◌, List, Bool, ap, sym, subst}
use Rattle.rc_model.specs.Names.{Has}
use Rattle.rc_model.specs.Graph.{IsClosed}
use Rattle.rc_model.specs.Database.{Database}
use Rattle.rc_line.specs.Opening.{Journal}
use Rattle.rc_session.proofs.States.{current_state}
use Rattle.rc_update.specs.Conversions.{conversions_of}
use Rattle.rc_cli.proofs.MovingLemmas.{carried}
use Rattle.rc_cli.proofs.moving.update_of.Goals as goal

pub carry-requires-clause-closed : goal.carry-requires-clause-closed
carry-requires-clause-closed c =
    let is_live = c.live.ensures
    ∙ ap (λ (j : Journal). j.line.current.live) c.journal.ensures.journal in
    subst (λ (d : Database). IsClosed d.needs (Has c.live.result.now)) (sym c.db.ensures.db)
    (subst (λ (set : List Bool). IsClosed c.args.from.now.database.needs (Has set)) (sym is_live)
    (current_state c.args.from.now.database c.args.from.now.line c.journal.ensures.states).closed)

pub returns-clause-update : goal.returns-clause-update
returns-clause-update c =
    carried c.carry.result c.args.from.now.database c.db.result.now c.args.new.now
    (conversions_of c.args.list.now) c.live.result.now c.args.from.now.line c.db.ensures.db
    (c.live.ensures ∙ ap (λ (j : Journal). j.line.current.live) c.journal.ensures.journal)
    c.carry.ensures.lower c.carry.ensures.kept c.carry.ensures.bound c.carry.ensures.raise

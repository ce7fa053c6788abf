use Rattle.std.proofs.Common.{◌∙◌, get_or, sym, ap}
use Rattle.rc_db.proofs.Growing.{standing, cleared_none}
use Rattle.rc_db.proofs.table.Table.get.Goals as goal

pub returns-in-Ok : goal.returns-in-Ok
returns-in-Ok c =
    sym (standing c.args.self.now c.place_of.ensures.table c.args.name.now c.in-Ok.place
    c.in-Ok.ensures.found c.index.result.now
    (c.index.ensures ∙ ap
    (λ table. get_or table c.in-Ok.place c.index.result.now) c.self.view_is)).1

pub returns-in-Err : goal.returns-in-Err
returns-in-Err c = sym
    (cleared_none c.args.self.now c.place_of.ensures.table c.args.name.now _
    c.in-Err.ensures.missing)

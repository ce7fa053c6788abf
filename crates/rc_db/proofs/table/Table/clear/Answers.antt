use Rattle.std.proofs.Common.{◌∙◌, get_or, remove, None, sym, ap, subst}
use Rattle.rc_db.proofs.Growing.{IsChangedTable, standing, cleared, cleared_none, changed_none}
use Rattle.rc_db.proofs.table.Table.clear.Goals as goal

-- the table without the bundle of the name
after : (c : goal.After-drop-remove) → IsChangedTable c.args.self.now c.args.name.now None
    c.remove-set.new.self.items
after c =
    subst (IsChangedTable c.args.self.now c.args.name.now None)
    (sym (c.remove-set.ensures.items ∙ ap (λ table. remove table c.in-Ok.place) c.self.view_is))
    (cleared c.args.self.now c.place_of.ensures.table c.args.name.now c.in-Ok.place
    c.in-Ok.ensures.found)

pub invariant_of-self : goal.invariant_of-self
invariant_of-self c = (after c).held

pub returns-in-Ok-clause-table : goal.returns-in-Ok-clause-table
returns-in-Ok-clause-table c = (after c).changed

pub returns-in-Ok-clause-value : goal.returns-in-Ok-clause-value
returns-in-Ok-clause-value c =
    sym (standing c.args.self.now c.place_of.ensures.table c.args.name.now c.in-Ok.place
    c.in-Ok.ensures.found c.remove-set.result
    (c.remove-set.ensures.value ∙ ap
    (λ table. get_or table c.in-Ok.place c.remove-set.result) c.self.view_is)).1

pub returns-in-Err-clause-value : goal.returns-in-Err-clause-value
returns-in-Err-clause-value c = sym
    (cleared_none c.args.self.now c.place_of.ensures.table c.args.name.now _
    c.in-Err.ensures.missing)

pub returns-in-Err-clause-table : goal.returns-in-Err-clause-table
returns-in-Err-clause-table c = changed_none c.args.self.now c.place_of.ensures.table
    c.args.name.now _ c.in-Err.ensures.missing

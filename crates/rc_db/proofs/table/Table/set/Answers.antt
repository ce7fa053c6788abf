use Rattle.std.proofs.Common.{◌≡◌, ◌∙◌, ◌<◌, ⊎_elim, length, insert, get_or, set as put, Some, ap}
use Rattle.std.proofs.Common.{sym, subst}
use Rattle.rc_model.specs.Database.{names_of, value_of}
use Rattle.rc_model.specs.Line.{IsChangedAt}
use Rattle.rc_names.specs.Names.{IsGap}
use Rattle.rc_names.proofs.Growth.{gap_absent}
use Rattle.rc_db.proofs.Growing.{IsChangedTable, standing, written, inserted, cleared_none}
use Rattle.rc_db.proofs.table.Table.set.Goals as goal
use Rattle.rc_db.proofs.table.Table.set.Goals.{In_ok-insert-in-Err}

-- the bundle at the place has the name, and the set that is told
old : (c : goal.After-self-1) → (c.index_mut.result.now.0 ≡ c.text.result.now)
    × (value_of c.args.self.now c.text.result.now ≡ Some c.index_mut.result.now.1)
old c =
    standing c.args.self.now c.place_of.ensures.table c.text.result.now c.in-Ok.place
    c.in-Ok.ensures.found c.index_mut.result.now
    (c.index_mut.ensures.value ∙ ap
    (λ table. get_or table c.in-Ok.place c.index_mut.result.now) c.self.view_is)

-- the table with the set in place of the old one
over : (c : goal.After-self-1) → IsChangedTable c.args.self.now c.text.result.now (Some c.args.set)
    (put c.self.inside.bundles.items c.in-Ok.place
    (c.index_mut.result.now.0, c.replace-old.new.dest))
over c =
    subst (IsChangedTable c.args.self.now c.text.result.now (Some c.args.set))
    (λ i. put (sym c.self.view_is i) c.in-Ok.place (
      sym
          (old c).0 i,
      sym c.replace-old.ensures.after i,
    ))
    (written c.args.self.now c.place_of.ensures.table c.text.result.now c.in-Ok.place
    c.in-Ok.ensures.found c.args.set)

pub invariant_of-self : goal.invariant_of-self
invariant_of-self c = (over c).held

pub returns-in-Ok-clause-value : goal.returns-in-Ok-clause-value
returns-in-Ok-clause-value c = ap Some c.replace-old.ensures.value ∙ sym (old c).1
    ∙ ap (value_of c.args.self.now) c.text.ensures.bytes

pub returns-in-Ok-clause-table : goal.returns-in-Ok-clause-table
returns-in-Ok-clause-table c =
    subst (λ text. IsChangedAt c.args.self.now text (Some c.args.set)
    (put c.self.inside.bundles.items c.in-Ok.place
    (c.index_mut.result.now.0, c.replace-old.new.dest)))
    c.text.ensures.bytes (over c).changed

-- the table with the new bundle
after : (c : In_ok-insert-in-Err) → IsChangedTable c.args.self.now c.args.name.now
    (Some c.args.set) c.insert.new.self.items
after c =
    let gap = subst (λ text. IsGap
    (names_of c.args.self.now) text c.in-Err.place) c.text.ensures.bytes
    c.in-Err.ensures.missing in
    let room : length c.args.self.now < 4096 =
    ⊎_elim (λ there. absurd (gap_absent
    (names_of c.args.self.now) c.args.name.now c.in-Err.place gap there))
    (λ less. less) c.requires in
    subst (IsChangedTable c.args.self.now c.args.name.now (Some c.args.set))
    (sym (c.in_ok-insert-in-Err.ensures.items ∙ (λ i. insert (c.self.view_is i) c.in-Err.place
    (c.in_ok-name-in-Err.ensures i, c.args.set))))
    (inserted c.args.self.now c.place_of.ensures.table c.args.name.now c.in-Err.place gap
    c.text.ensures.name room c.args.set)

pub invariant_of-self-in-Err : goal.invariant_of-self-in-Err
invariant_of-self-in-Err c = (after c).held

pub returns-in_ok-insert-in-Err-clause-table : goal.returns-in_ok-insert-in-Err-clause-table
returns-in_ok-insert-in-Err-clause-table c = (after c).changed

pub returns-in_ok-insert-in-Err-clause-value : goal.returns-in_ok-insert-in-Err-clause-value
returns-in_ok-insert-in-Err-clause-value c =
    sym (cleared_none c.args.self.now c.place_of.ensures.table c.text.result.now c.in-Err.place
    c.in-Err.ensures.missing)
    ∙ ap (value_of c.args.self.now) c.text.ensures.bytes

use Rattle.std.proofs.Common.{◌≡◌, ◌∙◌, ◌++◌, ◌∷◌, [], sym, subst}
use Rattle.rc_model.specs.Database.{IsTable}
use Rattle.rc_db.proofs.Growing.{pushed}
use Rattle.rc_db.proofs.table.Table.push.Goals as goal
use Rattle.rc_db.proofs.table.Table.push.Goals.{In_ok-push}

-- the table with the bundle
after : (c : In_ok-push) → c.push.new.self.items ≡ c.args.self.now ++
    (c.args.name.now, c.args.set.now) ∷ []
after c = c.in_ok-push.ensures.items ∙ (λ i. c.self.view_is i ++
    (c.in_ok-copy.ensures i, c.in_ok-copy-2.ensures i) ∷ [])

pub invariant_of-self-2 : goal.invariant_of-self-2
invariant_of-self-2 c =
    subst IsTable (sym (after c))
    (pushed c.args.self.now
    (subst IsTable c.self.view_is c.self.invariant) c.args.name.now c.args.set.now
    c.text-text.ensures.name c.requires.room c.requires.last)

pub returns : goal.returns
returns c = after c

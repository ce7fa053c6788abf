use Rattle.std.proofs.Common.{◌↔◌, List, ℕ, get_or, Contains, sym, subst}
use Rattle.std.proofs.lemmas.List.Elements.{Contains-get_or}
use Rattle.rc_graph.specs.declared.Way.{Way}
use Rattle.rc_db.specs.Queries.{IsBeside}
use Rattle.rc_graph.proofs.RowLemmas.{needer_known}
use Rattle.rc_db.proofs.reach.beside.Goals as goal

pub returns-in-Raise-clause-known : goal.returns-in-Raise-clause-known
returns-in-Raise-clause-known c k d within =
    let In : List ℕ → Type 0 = λ list. Contains list (get_or c.needs.result.now k d) in
    c.requires.needs.known c.args.s (get_or c.needs.result.now k d)
    (subst In c.needs.ensures.list (Contains-get_or c.needs.result.now k d within))

pub returns-in-Lower-clause-list : goal.returns-in-Lower-clause-list
returns-in-Lower-clause-list c t =
    let P : Way → Type 0 =
    λ way. Contains c.needed_by.result.now t ↔ IsBeside c.args.graph.now way c.args.s t in
    subst P (sym c.in-Lower.is) (c.needed_by.ensures.same t)

pub returns-in-Lower-clause-known : goal.returns-in-Lower-clause-known
returns-in-Lower-clause-known c k d within =
    needer_known c.args.graph.now (get_or c.needed_by.result.now k d) c.args.s
    ((c.needed_by.ensures.same (get_or c.needed_by.result.now k d)).0
    (Contains-get_or c.needed_by.result.now k d within))

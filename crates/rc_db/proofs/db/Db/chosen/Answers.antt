use Rattle.std.proofs.Common.{All, IfOk, OnOk, map, subst}
use Rattle.std.specs.String.{string_bytes}
use Rattle.rc_model.specs.Names.{Holds}
use Rattle.rc_model.specs.Database.{Bundles, IsKnown, Selected}
use Rattle.rc_db.proofs.db.Db.chosen.Goals as goal

pub returns-clause-members : goal.returns-clause-members
returns-clause-members c =
    let P : Bundles
    → Type 0 = λ table. IfOk c.selected.result
    (λ set. Holds set (Selected c.args.self.now.names table (map string_bytes c.args.names.now))) in
    subst P c.table.ensures.table c.selected.ensures.members

pub returns-clause-known : goal.returns-clause-known
returns-clause-known c =
    let P : Bundles
    → Type 0 = λ table. OnOk c.selected.result
    (All (IsKnown c.args.self.now.names table) (map string_bytes c.args.names.now)) in
    subst P c.table.ensures.table c.selected.ensures.known

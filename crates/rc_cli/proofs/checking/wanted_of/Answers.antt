use Rattle.std.proofs.Common.{All, OnOk, length, map, subst, sym}
use Rattle.std.proofs.lemmas.Result.{IfOk-weaker}
use Rattle.std.specs.String.{string_bytes}
use Rattle.rc_model.specs.Database.{Bundles, Database, HaveBound, IsKnown}
use Rattle.rc_session.proofs.States.{current_state}
use Rattle.rc_cli.proofs.CheckingLemmas.{meant_named}
use Rattle.rc_cli.proofs.StatusLemmas.{not_empty}
use Rattle.rc_cli.proofs.checking.wanted_of.Goals as goal

pub selected-requires : goal.selected-requires
selected-requires c =
    let d = c.args.session.now.database in
    let state = current_state d c.args.session.now.line c.journal-states.ensures.states in
    subst (λ (x : Database). HaveBound (length x.names) c.table.result.now) (sym c.db-2.ensures.db)
    (subst (λ (t : Bundles). HaveBound (length d.names) t) (sym c.table.ensures) state.sets)

pub returns-clause-members : goal.returns-clause-members
returns-clause-members c =
    IfOk-weaker c.selected.result _ _
    (λ wanted holds. meant_named c.args.session.now.database c.db-2.result.now
    c.args.session.now.line.current.table c.table.result.now
    (map string_bytes c.args.names.now) wanted c.db-2.ensures.db c.table.ensures
    (not_empty string_bytes c.args.names.now c.is_empty.result c.is_empty.ensures
    c.if-is_empty.false) holds) c.selected.ensures.members

pub returns-clause-known : goal.returns-clause-known
returns-clause-known c =
    subst (λ (y : Database). OnOk c.selected.result
    (All (IsKnown y.names c.args.session.now.line.current.table)
    (map string_bytes c.args.names.now))) c.db-2.ensures.db
    (subst (λ (t : Bundles). OnOk c.selected.result
    (All (IsKnown c.db-2.result.now.names t) (map string_bytes c.args.names.now))) c.table.ensures
    c.selected.ensures.known)

use Rattle.std.proofs.Common.{◌≡◌, ℕ, List, All, map, sym, subst}
use Rattle.std.proofs.lemmas.Result.{IfOk-at_ok, IfOk-weaker, IfErr-weaker}
use Rattle.std.specs.String.{string_bytes}
use Rattle.rc_model.specs.Line.{Lists}
use Rattle.rc_model.specs.Names.{Has, Holds}
use Rattle.rc_set.proofs.Listing.{lists_as}
use Rattle.rc_model.specs.Database.{IsKnown, Selected}
use Rattle.rc_db.specs.declared.fault.QueryFault.{QueryFault}
use Rattle.rc_db.specs.declared.fault.QueryFault.TheVariants.{Memory}
use Rattle.rc_db.specs.QueryFaults.{IsNamesFault}
use Rattle.rc_db.specs.Queries.{IsWithAll}
use Rattle.rc_db.proofs.Reaching.{all_as}
use Rattle.rc_db.proofs.db.Db.all_dependencies.Goals as goal

pub returns-clause-ids : goal.returns-clause-ids
returns-clause-ids c =
    let In : ℕ → Type 0 =
    Selected c.args.self.now.names c.args.self.now.table (map string_bytes c.args.names.now) in
    let Shown : ℕ → Type 0 = IsWithAll c.args.self.now.needs c.args.way In in
    let there = IfOk-at_ok _ c.in_ok-all.was c.with_all-all.ensures in
    let Holding : List (List ℕ) → Type 0 =
    λ needs. Holds c.in_ok-all.field-0 (IsWithAll needs c.args.way (Has c.in_ok-set.set)) in
    let holds = subst Holding c.graph.ensures.graph there in
    let same =
    all_as c.args.self.now.needs c.args.way c.in_ok-set.set In c.in_ok-set.ensures.members in
    IfOk-weaker c.ids_of.result (λ ids. Lists (Has c.in_ok-all.field-0) ids.items)
    (λ ids. Lists Shown ids.items)
    (λ ids. lists_as (Has c.in_ok-all.field-0) Shown ids.items
    (λ s. (λ has. (same s).0 ((holds s).0 has), λ shown. (holds s).1 ((same s).1 shown))))
    c.ids_of.ensures.ids

pub returns-clause-known : goal.returns-clause-known
returns-clause-known c =
    IfOk-weaker c.ids_of.result _
    (λ _. All (IsKnown c.args.self.now.names c.args.self.now.table)
    (map string_bytes c.args.names.now)) (λ _ _. c.in_ok-set.ensures.known) c.ids_of.ensures.ids

pub returns-clause-fault : goal.returns-clause-fault
returns-clause-fault c =
    let Fault : QueryFault → Type 0 =
    IsNamesFault c.args.self.now.names c.args.self.now.table (map string_bytes c.args.names.now) in
    IfErr-weaker c.ids_of.result (λ fault. fault ≡ Memory) Fault
    (λ fault is. subst Fault (sym is) c.in_ok-set.ensures.known) c.ids_of.ensures.fault

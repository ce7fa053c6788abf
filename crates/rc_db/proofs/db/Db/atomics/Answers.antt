use Rattle.std.proofs.Common.{◌≡◌, ℕ, All, map, sym, subst}
use Rattle.std.proofs.lemmas.Result.{IfOk-weaker, IfErr-weaker}
use Rattle.std.specs.String.{string_bytes}
use Rattle.rc_model.specs.Line.{Lists}
use Rattle.rc_model.specs.Names.{Has}
use Rattle.rc_set.proofs.Listing.{lists_as}
use Rattle.rc_model.specs.Database.{IsKnown, Selected}
use Rattle.rc_db.specs.declared.fault.QueryFault.{QueryFault}
use Rattle.rc_db.specs.declared.fault.QueryFault.TheVariants.{Memory}
use Rattle.rc_db.specs.QueryFaults.{IsNamesFault}
use Rattle.rc_db.proofs.db.Db.atomics.Goals as goal

pub returns-clause-ids : goal.returns-clause-ids
returns-clause-ids c =
    let In : ℕ → Type 0 =
    Selected c.args.self.now.names c.args.self.now.table (map string_bytes c.args.names.now) in
    IfOk-weaker c.ids_of.result (λ ids. Lists (Has c.in_ok-set.set) ids.items)
    (λ ids. Lists In ids.items)
    (λ ids. lists_as (Has c.in_ok-set.set) In ids.items c.in_ok-set.ensures.members)
    c.ids_of.ensures.ids

pub returns-clause-known : goal.returns-clause-known
returns-clause-known c =
    IfOk-weaker c.ids_of.result _
    (λ _. All (IsKnown c.args.self.now.names c.args.self.now.table)
    (map string_bytes c.args.names.now)) (λ _ _. c.in_ok-set.ensures.known) c.ids_of.ensures.ids

pub returns-clause-fault : goal.returns-clause-fault
returns-clause-fault c =
    let Fault : QueryFault → Type 0 =
    IsNamesFault c.args.self.now.names c.args.self.now.table (map string_bytes c.args.names.now) in
    IfErr-weaker c.ids_of.result (λ fault. fault ≡ Memory) Fault
    (λ fault is. subst Fault (sym is) c.in_ok-set.ensures.known) c.ids_of.ensures.fault

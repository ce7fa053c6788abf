use Rattle.std.proofs.Common.{◌≡◌, All, List, ℕ, length, map, sym, subst}
use Rattle.std.proofs.lemmas.Result.{err_from_is_err_and}
use Rattle.std.specs.String.{string_bytes}
use Rattle.rc_model.specs.Names.{Holds}
use Rattle.rc_model.specs.Database.{HaveBound, IsKnown, IsUnknownAt, Selected}
use Rattle.rc_db.proofs.db.Db.selected.Goals as goal

pub returns-in-Some-clause-fault : goal.returns-in-Some-clause-fault
returns-in-Some-clause-fault c =
    let P : List (List ℕ)
    → Type 0 = λ names. IsUnknownAt names c.args.table.now (map string_bytes c.args.words.now)
    c.in-Some.place in
    subst P c.names-names.ensures.names c.in-Some.ensures.some

pub returns-clause-known : goal.returns-clause-known
returns-clause-known c =
    let P : List (List ℕ) → Type 0 =
    λ names. All (IsKnown names c.args.table.now) (map string_bytes c.args.words.now) in
    subst P c.names-names.ensures.names c.in_default.ensures.none

pub returns-in_err-set_of-clause-fault : goal.returns-in_err-set_of-clause-fault
returns-in_err-set_of-clause-fault c =
    let P : List (List ℕ) → Type 0 =
    λ names. All (IsKnown names c.args.table.now) (map string_bytes c.args.words.now) in
    let memory = err_from_is_err_and c.from_residual.result c.from_residual.ensures.1 in
    rw (memory.1, memory.2) (subst P c.names-names.ensures.names c.in_default.ensures.none)

pub set_of-requires : goal.set_of-requires
set_of-requires c =
    let P : List (List ℕ) → Type 0 = λ names. HaveBound (length names) c.args.table.now in
    subst P (sym c.names-names.ensures.names) c.requires

pub returns-clause-members : goal.returns-clause-members
returns-clause-members c =
    let P : List (List ℕ)
    → Type 0 = λ names. Holds c.in_ok-set_of.field-0
    (Selected names c.args.table.now (map string_bytes c.args.words.now)) in
    subst P c.names-names.ensures.names c.in_ok-set_of.ensures.members

pub returns-clause-bound : goal.returns-clause-bound
returns-clause-bound c =
    let P : List (List ℕ) → Type 0 = λ names. length c.in_ok-set_of.field-0 ≡ length names in
    subst P c.names-names.ensures.names c.in_ok-set_of.ensures.bound

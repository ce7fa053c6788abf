use Rattle.std.proofs.Common.{◌∙◌, ⊎_elim, ℕ, List, Contains, refl, sym, subst, true≢false}
use Rattle.rc_model.specs.Database.{Bundles, names_of}
use Rattle.rc_db.proofs.db.Db.service_named.Goals as goal

pub returns-in-Some-clause-service : goal.returns-in-Some-clause-service
returns-in-Some-clause-service c = cc c.in-Some.ensures.found

pub returns-then-has_bundle-clause-fault : goal.returns-then-has_bundle-clause-fault
returns-then-has_bundle-clause-fault c =
    let InTable : Bundles → Type 0 = λ table. Contains (names_of table) c.args.name.now in
    (tt, subst InTable c.table.ensures.table (c.has_bundle.ensures.0 c.if-has_bundle.true))

pub returns-else-has_bundle-clause-fault : goal.returns-else-has_bundle-clause-fault
returns-else-has_bundle-clause-fault c =
    let InNames : List (List ℕ) → Type 0 = λ names. Contains names c.args.name.now in
    let InTable : Bundles → Type 0 = λ table. Contains (names_of table) c.args.name.now in (
      refl,
      λ known. ⊎_elim
          (λ in_names. c.in-None.ensures.missing
          (subst InNames (sym c.names.ensures.names) in_names))
          (λ in_table. absurd
          (true≢false
          (sym (c.has_bundle.ensures.1 (subst InTable (sym c.table.ensures.table) in_table))
          ∙ c.if-has_bundle.false)))
          known,
    )

use Rattle.std.proofs.Common.{◌≡◌, ◌∙◌, ⊎_elim, ℕ, List, Contains, Some, slice_get, ap, refl, sym}
use Rattle.std.proofs.Common.{subst, true≢false}
use Rattle.std.proofs.lemmas.Option.{slice_get_within}
use Rattle.rc_model.specs.Database.{Bundles, Service, names_of}
use Rattle.rc_db.proofs.KindLemmas.{kind_named}
use Rattle.rc_db.proofs.db.Db.kind.Goals as goal

pub service-requires : goal.service-requires
service-requires c =
    let there : slice_get c.args.self.now.names c.in-Some.id ≡ Some c.args.name.now =
    cc c.in-Some.ensures.found in
    slice_get_within c.args.self.now.names c.in-Some.id c.args.name.now there

pub returns-in-Some-clause-kind : goal.returns-in-Some-clause-kind
returns-in-Some-clause-kind c =
    let there : slice_get c.args.self.now.names c.in-Some.id ≡ Some c.args.name.now =
    cc c.in-Some.ensures.found in
    kind_named c.args.self.now c.args.name.now c.service.result.now c.behind-self.inside.kind
    c.names.ensures.database
    (c.in-Some.id, there, c.service.ensures)
    (sym (ap (λ (s : Service). s.kind) c.behind-self.view_is))

pub returns-then-has_bundle-clause-kind : goal.returns-then-has_bundle-clause-kind
returns-then-has_bundle-clause-kind c =
    let InTable : Bundles → Type 0 = λ table. Contains (names_of table) c.args.name.now in
    subst InTable c.table.ensures.table (c.has_bundle.ensures.0 c.if-has_bundle.true)

pub returns-else-has_bundle-clause-fault : goal.returns-else-has_bundle-clause-fault
returns-else-has_bundle-clause-fault c =
    let InNames : List (List ℕ) → Type 0 = λ names. Contains names c.args.name.now in
    let InTable : Bundles → Type 0 = λ table. Contains (names_of table) c.args.name.now in (
      refl,
      λ known. ⊎_elim
          (λ in_names. c.in-None.ensures.missing
          (subst InNames (sym c.names.ensures.names) in_names))
          (λ in_table. absurd
          (true≢false
          (sym (c.has_bundle.ensures.1 (subst InTable (sym c.table.ensures.table) in_table))
          ∙ c.if-has_bundle.false)))
          known,
    )

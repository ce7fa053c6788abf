use Rattle.std.proofs.Common.{◌≡◌, ◌∙◌, ◌⊎◌, ℕ, List, map, Contains, sym, subst}
use Rattle.rc_model.specs.declared.Kind.TheVariants.{Oneshot, Longrun}
use Rattle.rc_db.specs.declared.which.Which.{Which}
use Rattle.rc_model.specs.Database.{Bundles, names_of}
use Rattle.rc_names.specs.Names.{ListsNames}
use Rattle.rc_db.specs.Queries.{IsKindOf, IsShown}
use Rattle.std.proofs.lemmas.Result.{IfOk-at_ok}
use Rattle.rc_db.proofs.Listing.{whole_listed}
use Rattle.rc_db.proofs.db.Db.list.Goals as goal
use Rattle.rc_db.proofs.db.Db.list.Goals.{in-All, in-Services, in-Oneshots, in-Longruns, in-Bundles}

pub all_names-names-requires-clause-apart : goal.all_names-names-requires-clause-apart
all_names-names-requires-clause-apart c = λ name service bundle.
    let In : List (List ℕ) → Type 0 = λ names. Contains names name in
    let InTable : Bundles → Type 0 = λ table. Contains (names_of table) name in
    c.names.ensures.database.fit.apart name (subst In c.names.ensures.names service)
    (subst InTable c.table.ensures.table bundle)

pub returns-clause-names : goal.returns-clause-names
returns-clause-names c =
    let d = c.args.self.now in
    let shown = map (λ name. name.now) c.in_ok-names.field-0.items in
    let there = c.in_ok-names.was in
    let Shows : Which → Type 0 = λ which. ListsNames (IsShown d which) shown in
    elim c.match-which.branch [
      | in-All w ↦
          let Services : List (List ℕ)
          → Type 0 =
          λ names. ListsNames (λ x. Contains names x ⊎ Contains (names_of w.table.result.now) x)
          shown in
          let Both : Bundles → Type 0 =
          λ table. ListsNames (λ x. Contains d.names x ⊎ Contains (names_of table) x) shown in
          let listed : Services w.names.result.now =
          IfOk-at_ok _ (sym w.names-is ∙ there) w.all_names-names.ensures in
          subst Shows (sym w.in-All.is)
          (subst Both w.table.ensures.table (subst Services w.names.ensures.names listed))
      | in-Services w ↦
          let all : shown ≡ w.names-in-Services.result.now =
          IfOk-at_ok _ (sym w.names-is ∙ there) w.service_names-names.ensures in
          subst Shows (sym w.in-Services.is)
          (whole_listed d.names shown w.names-in-Services.ensures.database.names.order
          (all ∙ w.names-in-Services.ensures.names))
      | in-Oneshots w ↦
          let listed : ListsNames (λ x. IsKindOf d x Oneshot) shown =
          IfOk-at_ok _ (sym w.names-is ∙ there) w.names_of_kind-names.ensures in
          subst Shows (sym w.in-Oneshots.is) listed
      | in-Longruns w ↦
          let listed : ListsNames (λ x. IsKindOf d x Longrun) shown =
          IfOk-at_ok _ (sym w.names-is ∙ there) w.names_of_kind-names-in-Longruns.ensures in
          subst Shows (sym w.in-Longruns.is) listed
      | in-Bundles w ↦
          let Table : Bundles → Type 0 = λ table. shown ≡ names_of table in
          let all : Table w.table-in-Bundles.result.now =
          IfOk-at_ok _ (sym w.names-is ∙ there) w.bundle_names-names.ensures in
          subst Shows (sym w.in-Bundles.is)
          (whole_listed (names_of d.table) shown w.table-in-Bundles.ensures.database.table.order
          (subst Table w.table-in-Bundles.ensures.table all))
    ]

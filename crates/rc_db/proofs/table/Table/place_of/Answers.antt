use Rattle.std.proofs.Common.{◌≡◌, ◌∙◌, Some, IfOk, IfErr, slice_get, rules, ap, subst}
use Rattle.std.proofs.lemmas.Fn.{always_returns_same}
use Rattle.std.specs.Cmp.Lexicographic.{slice_cmp}
use Rattle.std.specs.Ordering.{nat_cmp}
use Rattle.rc_model.specs.Database.{names_of, IsTable}
use Rattle.rc_names.proofs.Search.{place_of}
use Rattle.rc_names.specs.Names.{IsGap}
use Rattle.rc_db.proofs.table.Table.place_of.Goals as goal
use Rattle.rc_db.proofs.table.Table.place_of.Goals.{After-binary_search_by}

-- the closure compares a bundle's name with the text
met : (c : After-binary_search_by) → IfOk c.binary_search_by.result (λ place. slice_get
    (names_of c.args.self.now) place ≡ Some c.args.name.now)
    × IfErr c.binary_search_by.result (λ place. IsGap
    (names_of c.args.self.now) c.args.name.now place)
met c =
    let facts = c.binary_search_by.ensures in
    let compared = facts.position (λ bundle. slice_cmp nat_cmp bundle.0 c.args.name.now)
    (always_returns_same _ _ _ (λ a r g called. search rules)) in
    place_of (λ bundle. bundle.0) c.deref.result.now (names_of c.args.self.now) (ap names_of
    (c.deref.ensures.value ∙ c.self.view_is))
    (subst (λ t. IsTable t) c.self.view_is c.self.invariant).order c.args.name.now
    c.binary_search_by.result facts.bound compared

pub returns-clause-found : goal.returns-clause-found
returns-clause-found c = (met c).0

pub returns-clause-missing : goal.returns-clause-missing
returns-clause-missing c = (met c).1

pub returns-clause-table : goal.returns-clause-table
returns-clause-table c = subst IsTable c.self.view_is c.self.invariant

-- Texts that mean a database: their names ascend, stand for what they may, and lead in no cycle.
use Rattle.std.specs.Prelude.{◌≡◌, ℕ, List, [], ◌∷◌, ◌++◌, map, All, Contains, IfSome}
use Rattle.rc_model.specs.declared.Kind.TheVariants as kinds
use Rattle.rc_model.specs.Names.{IsInByteOrder}
use Rattle.rc_dbtext.specs.Text.{Body, OfLongrun, OfOneshot, ServiceText, BundleText, DbText}

abbrev pub service_names : List ServiceText → List (List ℕ)
service_names services = map (λ s. s.head.name) services

abbrev pub bundle_names : List BundleText → List (List ℕ)
bundle_names bundles = map (λ b. b.name) bundles

-- the names of services ascend, those of bundles, and those of each list of needs or members
pub record IsSorted (t : DbText) : Type 0 where
  pub services : IsInByteOrder (service_names t.services)
  pub needs : All (λ s. IsInByteOrder s.needs) t.services
  pub bundles : IsInByteOrder (bundle_names t.bundles)
  pub members : All (λ b. IsInByteOrder b.members) t.bundles

-- the name of a longrun
abbrev pub IsLongrunName : List ServiceText → List ℕ → Type 0
IsLongrunName services name =
    (s : ServiceText) × Contains services s × (s.head.name ≡ name) × (s.head.kind ≡ kinds.Longrun)

-- what is fed is a longrun, and one of the needs
abbrev pub FeedsWell : List ServiceText → List (List ℕ) → Body → Type 0
FeedsWell services needs (OfLongrun producer_for) =
    IfSome producer_for (λ name. IsLongrunName services name × Contains needs name)
FeedsWell services needs (OfOneshot up down) = Unit {0}

-- each need and each member is a service, what is fed is a longrun that is needed, and no
-- bundle has the name of a service
pub record IsComplete (t : DbText) : Type 0 where
  pub needs : All (λ s. All (Contains (service_names t.services)) s.needs) t.services
  pub fed : All (λ s. FeedsWell t.services s.needs s.body) t.services
  pub members : All (λ b. All (Contains (service_names t.services)) b.members) t.bundles
  pub apart : All (λ b. Contains (service_names t.services) b.name → ⊥) t.bundles

-- a service of the first name lists the second among its needs
abbrev pub NeedsByName : List ServiceText → List ℕ → List ℕ → Type 0
NeedsByName services name need =
    (s : ServiceText) × Contains services s × (s.head.name ≡ name) × Contains s.needs need

-- each name of the list is of a service that needs the next one
abbrev pub EachNeedsNextByName : List ServiceText → List (List ℕ) → Type 0
EachNeedsNextByName services [] = Unit {0}
EachNeedsNextByName services (name ∷ []) = Unit {0}
EachNeedsNextByName services (name ∷ need ∷ rest) =
    NeedsByName services name need × EachNeedsNextByName services (need ∷ rest)

-- names lead from one to itself, each of a service that needs the next
abbrev pub IsCyclic : List ServiceText → Type 0
IsCyclic services = (name : List ℕ) × (between : List (List ℕ))
    × EachNeedsNextByName services (name ∷ (between ++ name ∷ []))

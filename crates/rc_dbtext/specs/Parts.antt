-- Parts of a text against names that are known, and a service against its text.
use Rattle.std.specs.Prelude.{◌≡◌, ℕ, List, map, All, Contains, IfSome, Some, slice_get}
use Rattle.rc_model.specs.Database.{Service}
use Rattle.rc_db.specs.Service.{IsWritableService}
use Rattle.rc_dbtext.specs.Text.{Body, OfLongrun, OfOneshot, BundleText, ServiceText}
use Rattle.rc_dbtext.specs.Meaning.{FeedsWell}
use Rattle.rc_dbtext.specs.Spelling.{body_of, head_of, name_at}

-- the s-th name is one of the words
abbrev pub IsNamed : List (List ℕ) → List (List ℕ) → ℕ → Type 0
IsNamed names words s = (name : List ℕ) × (slice_get names s ≡ Some name) × Contains words name

-- the text is one of the names
unfoldable pub IsKnown : List (List ℕ) → List ℕ → Type 0
IsKnown names text = Contains names text

-- each text is one of the names
unfoldable pub AreKnown : List (List ℕ) → List (List ℕ) → Type 0
AreKnown names texts = All (IsKnown names) texts

-- the text is none of the names
unfoldable pub IsApart : List (List ℕ) → List ℕ → Type 0
IsApart names text = IsKnown names text → ⊥

-- what services need and feed is there
abbrev pub AreServicesComplete : List (List ℕ) → List ServiceText → Type 0
AreServicesComplete names services = All (λ s. AreKnown names s.needs) services
    × All (λ s. FeedsWell services s.needs s.body) services

-- what bundles have is there, and none has the name of a service
abbrev pub AreBundlesComplete : List (List ℕ) → List BundleText → Type 0
AreBundlesComplete names bundles =
    All (λ b. AreKnown names b.members) bundles × All (λ b. IsApart names b.name) bundles

-- the longrun that is fed is one of the names
abbrev pub FeedsKnown : List (List ℕ) → Body → Type 0
FeedsKnown names (OfLongrun producer_for) = IfSome producer_for (Contains names)
FeedsKnown names (OfOneshot up down) = Unit {0}

-- the lists name what the services need
abbrev pub AreNeedsOf : List (List ℕ) → List ServiceText → List (List ℕ) → Type 0
AreNeedsOf names services lists = map (map (name_at names)) lists ≡ map (λ s. s.needs) services

-- the service says what the text gives of it, and can be written
pub record IsServiceOf (names : List (List ℕ)) (text : ServiceText) (s : Service) : Type 0 where
  pub head : head_of text.head.name s ≡ text.head
  pub body : body_of names s.kind s ≡ text.body
  pub fed : (id : ℕ) → s.producer_for ≡ Some id →
      (name : List ℕ) × (text.body ≡ OfLongrun (Some name)) × (slice_get names id ≡ Some name)
  pub writable : IsWritableService s

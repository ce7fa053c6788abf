-- What an update carries over from one database to another.
use Rattle.std.specs.Prelude.{◌≡◌, ℕ, List, Option, None, Some, slice_get, true}
use Rattle.rc_model.specs.Graph.{DownFrom, Needs}
use Rattle.rc_names.specs.Names.{ListsNames}
use Rattle.rc_model.specs.Database.{Database, Service}
use Rattle.rc_update.specs.Conversions.{Conversion, counterpart, is_restarted}

-- a service of the old database goes on as one of the new one
abbrev pub IsTwin : (old new : Database) → List Conversion → ℕ → ℕ → Type 0
IsTwin old new list s t = (name : List ℕ) × (other : List ℕ)
    × (slice_get old.names s ≡ Some name) × (counterpart list name ≡ Some other)
    × (slice_get new.names t ≡ Some other)

-- both are missing, or the one goes on as the other
abbrev pub AreTwins : (old new : Database) → List Conversion → Option ℕ → Option ℕ → Type 0
AreTwins old new list None None = Unit {0}
AreTwins old new list None (Some t) = ⊥
AreTwins old new list (Some s) None = ⊥
AreTwins old new list (Some s) (Some t) = IsTwin old new list s t

-- a service that is up may go on as another one: they are of one kind, and what reads the output of
-- the one goes on as what reads that of the other. Limits, flags and scripts count from the next
-- transition on, so nothing moves for them
pub record IsAlike (old new : Database) (list : List Conversion) (a b : Service) : Type 0 where
  pub kind : a.kind ≡ b.kind
  pub reader : AreTwins old new list a.producer_for b.producer_for

-- what the one needs goes on as what the other needs, and nothing else is needed
pub record NeedTwins (old new : Database) (list : List Conversion) (s t : ℕ) : Type 0 where
  pub forth : (x : ℕ) → Needs old.needs s x
      → (u : ℕ) × IsTwin old new list x u × Needs new.needs t u
  pub back : (u : ℕ) → Needs new.needs t u
      → (x : ℕ) × Needs old.needs s x × IsTwin old new list x u

-- the second service, of the new database, is the first one, of the old one, unaltered: the one
-- goes on as the other, they are alike, and need the same
pub record IsSame (old new : Database) (list : List Conversion) (s t : ℕ) : Type 0 where
  pub twin : IsTwin old new list s t
  pub alike : (a b : Service) → slice_get old.services s ≡ Some a
      → slice_get new.services t ≡ Some b → IsAlike old new list a b
  pub needs : NeedTwins old new list s t

-- a service is to be restarted
abbrev pub IsRestarted : Database → List Conversion → ℕ → Type 0
IsRestarted old list s = (name : List ℕ) × (slice_get old.names s ≡ Some name)
    × (is_restarted list name ≡ true)

-- a service of the old database goes on unaltered in the new one, and is not to be restarted
pub record IsUnaltered (old new : Database) (list : List Conversion) (s : ℕ) : Type 0 where
  pub spared : IsRestarted old list s → ⊥
  pub same : (t : ℕ) × IsSame old new list s t

-- a service that is up, and is altered, gone or to be restarted
abbrev pub IsAlteredUp : (old new : Database) → List Conversion → (ℕ → Type 0) → ℕ → Type 0
IsAlteredUp old new list IsUp s = IsUp s × (IsUnaltered old new list s → ⊥)

-- a service that stays up: neither it is such nor what it needs along paths
abbrev pub StaysUp : (old new : Database) → List Conversion → (ℕ → Type 0) → ℕ → Type 0
StaysUp old new list IsUp s =
    IsUp s × (DownFrom old.needs (IsAlteredUp old new list IsUp) s → ⊥)

-- the services of the new database as which these of the old one go on
abbrev pub Carried : (old new : Database) → List Conversion → (ℕ → Type 0) → ℕ → Type 0
Carried old new list In t = (s : ℕ) × In s × IsTwin old new list s t

-- a name of one of these services
abbrev pub IsNameOf : Database → (ℕ → Type 0) → List ℕ → Type 0
IsNameOf d In name = (s : ℕ) × (slice_get d.names s ≡ Some name) × In s

-- the names of these services, each once, in byte order
abbrev pub AreNamesOf : Database → (ℕ → Type 0) → List (List ℕ) → Type 0
AreNamesOf d In names = ListsNames (IsNameOf d In) names

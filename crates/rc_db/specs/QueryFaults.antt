-- When a query is refused, and by which fault first.
use Rattle.std.specs.Prelude.{◌≡◌, ℕ, List, All, Contains}
use Rattle.rc_model.specs.declared.Kind.TheVariants.{Oneshot, Longrun}
use Rattle.rc_db.specs.declared.fault.QueryFault.{QueryFault}
use Rattle.rc_db.specs.declared.fault.QueryFault.TheVariants.{Unknown, NotAtomic, NotBundle}
use Rattle.rc_db.specs.declared.fault.QueryFault.TheVariants.{NotLongrun, NotOneshot, Memory}
use Rattle.rc_model.specs.Database.{Bundles, names_of, Database, IsKnown, IsUnknownAt}
use Rattle.rc_db.specs.Queries.{IsKindOf}

-- what a query asks of its one name
pub data Asked : Type 0 where
  AnyName : Asked
  OfService : Asked
  OfBundle : Asked
  OfLongrun : Asked
  OfOneshot : Asked

-- the name is such
abbrev pub IsSuch : Database → Asked → List ℕ → Type 0
IsSuch d AnyName name = IsKnown d.names d.table name
IsSuch d OfService name = Contains d.names name
IsSuch d OfBundle name = Contains (names_of d.table) name
IsSuch d OfLongrun name = IsKindOf d name Longrun
IsSuch d OfOneshot name = IsKindOf d name Oneshot

-- the query is one of services alone
abbrev pub AsksService : Asked → Type 0
AsksService AnyName = ⊥
AsksService OfBundle = ⊥
AsksService OfService = Unit {0}
AsksService OfLongrun = Unit {0}
AsksService OfOneshot = Unit {0}

-- when a query of one name is refused, the first fault in this order: no name, a bundle, a
-- service, a service of the other kind
abbrev pub IsQueryFault : Database → Asked → List ℕ → QueryFault → Type 0
IsQueryFault d asked name (Unknown place) = (place ≡ 0) × (IsKnown d.names d.table name → ⊥)
IsQueryFault d asked name NotAtomic = AsksService asked × Contains (names_of d.table) name
IsQueryFault d asked name NotBundle = (asked ≡ OfBundle) × Contains d.names name
IsQueryFault d asked name NotLongrun = (asked ≡ OfLongrun) × IsKindOf d name Oneshot
IsQueryFault d asked name NotOneshot = (asked ≡ OfOneshot) × IsKindOf d name Longrun
IsQueryFault d asked name Memory = IsSuch d asked name

-- when words are refused: the first that is no name is told, and out
-- of memory only where each is one
abbrev pub IsNamesFault : List (List ℕ) → Bundles → List (List ℕ) → QueryFault → Type 0
IsNamesFault names table words (Unknown place) = IsUnknownAt names table words place
IsNamesFault names table words NotAtomic = ⊥
IsNamesFault names table words NotBundle = ⊥
IsNamesFault names table words NotLongrun = ⊥
IsNamesFault names table words NotOneshot = ⊥
IsNamesFault names table words Memory = All (IsKnown names table) words

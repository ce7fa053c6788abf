-- The faults of a query of a database, as those of a command.
use Rattle.std.specs.Prelude.{◌≡◌, ◌⊎◌, ℕ, List, [], codes, slice_get, unwrap_or}
use Rattle.clap.specs.Words.{Text}
use Rattle.rc_db.specs.declared.fault.QueryFault.{QueryFault}
use Rattle.rc_db.specs.declared.fault.QueryFault.TheVariants as wrong
use Rattle.rc_streams.specs.declared.input.Failure.TheVariants.{Memory}
use Rattle.rc_cli.specs.Faults.{IsFromName}
use Rattle.rc_cli.specs.declared.fault.Fault.{Fault}
use Rattle.rc_cli.specs.declared.fault.Fault.TheVariants.{NotAtomic, NotBundle, NotLongrun}
use Rattle.rc_cli.specs.declared.fault.Fault.TheVariants.{NotOneshot, Device}

-- a fault of a query of these names, as one of a command: an unknown name is reported by itself
abbrev pub IsFromQuery : QueryFault → List Text → Fault → Type 0
IsFromQuery (wrong.Unknown place) names fault =
    IsFromName (unwrap_or (slice_get names place) []) fault
IsFromQuery wrong.NotAtomic names fault = fault ≡ NotAtomic
IsFromQuery wrong.NotBundle names fault = fault ≡ NotBundle
IsFromQuery wrong.NotLongrun names fault = fault ≡ NotLongrun
IsFromQuery wrong.NotOneshot names fault = fault ≡ NotOneshot
IsFromQuery wrong.Memory names fault = fault ≡ Device Memory

-- such a fault, or that memory ran out
abbrev pub OrMemory : (QueryFault → Type 0) → QueryFault → Type 0
OrMemory Is fault = (fault ≡ wrong.Memory) ⊎ Is fault

-- the word of a refusal of a query that is of names of another sort
abbrev pub IsSortWord : List ℕ → Type 0
IsSortWord word = (word ≡ codes "NotAtomic") ⊎ (word ≡ codes "NotBundle")
    ⊎ (word ≡ codes "NotLongrun") ⊎ (word ≡ codes "NotOneshot")

-- Words that are to be names of services, and what refuses them.
use Rattle.std.specs.Prelude.{◌≡◌, ◌⊎◌, ◌==◌, nat_lt, ℕ, List, ◌∷◌, ◌++◌, Some, slice_get, length}
use Rattle.std.specs.Prelude.{All, Contains, filter}
use Rattle.std.specs.List.{slice_split}
use Rattle.rc_streams.specs.declared.input.Failure.TheVariants.{Memory}
use Rattle.rc_cli.specs.Faults.{IsFromName}
use Rattle.rc_cli.specs.declared.fault.Fault.{Fault}
use Rattle.rc_cli.specs.declared.fault.Fault.TheVariants.{Device}

-- the s-th name is one of the words
abbrev pub IsNamed : List (List ℕ) → List (List ℕ) → ℕ → Type 0
IsNamed names words s = (name : List ℕ) × (slice_get names s ≡ Some name) × Contains words name

-- each word is a name
abbrev pub AreNamed : List (List ℕ) → List (List ℕ) → Type 0
AreNamed names words = All (Contains names) words

-- the first word that is no name
abbrev pub IsFirstUnknown : List (List ℕ) → List (List ℕ) → List ℕ → Type 0
IsFirstUnknown names words word = (before : List (List ℕ)) × (after : List (List ℕ))
    × (words ≡ before ++ word ∷ after) × AreNamed names before × (Contains names word → ⊥)

-- the lines of a list of words: empty ones do not count, and the last may lack its newline
abbrev pub word_lines : List ℕ → List (List ℕ)
word_lines bytes = filter (λ line. nat_lt 0 (length line)) (slice_split (λ byte. byte == 10) bytes)

-- a fault of words: the first that is no name, or out of memory
abbrev pub IsNamedFault : Fault → List (List ℕ) → List (List ℕ) → Type 0
IsNamedFault fault names words =
    ((word : List ℕ) × IsFirstUnknown names words word × IsFromName word fault)
    ⊎ (fault ≡ Device Memory)

-- What is taken from a reader, and what a writer gets.
use Rattle.std.specs.Prelude.{◌≡◌, ◌<◌, ◌≤◌, ℕ, List, [], ◌∷◌, ◌++◌, Option, IfSome, length, take}
use Rattle.std.specs.Prelude.{codes}
use Rattle.std.specs.Io.KnownBytes.{Appends, Consumes}
use Rattle.rc_streams.specs.declared.input.Failure.{Failure}
use Rattle.rc_streams.specs.declared.input.Failure.TheVariants.{TooLong, Read, Write, Memory}

-- known bytes lose at most `limit` bytes from their beginning
abbrev pub ConsumesAtMost : Option (List ℕ) → Option (List ℕ) → ℕ → Type 0
ConsumesAtMost old new limit = (front : List ℕ) × (length front ≤ limit) × Consumes old new front

-- known bytes lose `count` bytes from their beginning, which stand at the end of `after`
abbrev pub MovesPiece : Option (List ℕ) → Option (List ℕ) → List ℕ → List ℕ → ℕ → Type 0
MovesPiece old new before after count =
    (piece : List ℕ) × (length piece ≡ count) × (after ≡ before ++ piece) × Consumes old new piece

-- known bytes grow by the first bytes of `bytes`, however many
abbrev pub AppendsFront : Option (List ℕ) → Option (List ℕ) → List ℕ → Type 0
AppendsFront old new bytes = (n : ℕ) × Appends old new (take n bytes)

-- the line that tells a fault
abbrev pub fault_line : List ℕ → List ℕ
fault_line what = codes "undorc: " ++ what ++ 10 ∷ []

-- how a failure is told
abbrev pub failure_text : Failure → List ℕ
failure_text TooLong = codes "TooLong"
failure_text Read = codes "Read"
failure_text Write = codes "Write"
failure_text Memory = codes "Memory"

-- why a command may fail: an input is too long only where it has more bytes than the bound, and a
-- device is the cause only where it has failed
abbrev pub IsCause : (input : Option (List ℕ)) → (reader writer : Type 0) → Failure → Type 0
IsCause input reader writer TooLong = IfSome input (λ bytes. 16777216 < length bytes)
IsCause input reader writer Read = reader
IsCause input reader writer Write = writer
IsCause input reader writer Memory = Unit {0}

-- a command has failed so, and a prefix of its line was told
abbrev pub FailsWith : Failure → (status : ℕ) → (old new : Option (List ℕ)) → Type 0
FailsWith failure status old new =
    (status ≡ 111) × AppendsFront old new (fault_line (failure_text failure))

-- a failure that has its cause is told by a prefix of its line
abbrev pub TellsFailure : (input : Option (List ℕ)) → (reader writer : Type 0) →
    (old new : Option (List ℕ)) → Type 0
TellsFailure input reader writer old new = (failure : Failure)
    × AppendsFront old new (fault_line (failure_text failure)) × IsCause input reader writer failure

-- a writer gains all of an answer
abbrev pub WritesAll : (List ℕ → Type 0) → Option (List ℕ) → Option (List ℕ) → Type 0
WritesAll IsAnswer old new = (answer : List ℕ) × IsAnswer answer × Appends old new answer

-- a writer gains a prefix of an answer
abbrev pub WritesFront : (List ℕ → Type 0) → Option (List ℕ) → Option (List ℕ) → Type 0
WritesFront IsAnswer old new = (answer : List ℕ) × IsAnswer answer × AppendsFront old new answer

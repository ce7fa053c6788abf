-- What is taken from a reader, line by line.
use Rattle.std.specs.Prelude.{◌≡◌, ◌≢◌, ◌⊎◌, ◌+◌, ◌<◌, ◌≤◌, ℕ, Bool, true, false, List, [], ◌∷◌}
use Rattle.std.specs.Prelude.{◌++◌, Option, length, All, if◌then◌else◌}
use Rattle.rc_streams.specs.declared.input.Failure.{Failure}
use Rattle.rc_streams.specs.declared.input.Failure.TheVariants.{TooLong, Read, Write, Memory}
use Rattle.std.specs.Io.KnownBytes.{Consumes, IsAtEnd, Keeps}

-- what is held of a reader: the bytes that were read and not handed out yet, and
-- how many bytes were read in all
pub record Held : Type 0 where
  pub pending : List ℕ
  pub taken : ℕ

-- nothing was read yet
abbrev pub fresh : Held
fresh = record { pending = []; taken = 0 }

-- known bytes lost some from their beginning, by which the count of those that were read grew
pub record Takes (old new : Option (List ℕ)) (before after : ℕ) : Type 0 where
  pub bytes : List ℕ
  pub consumed : Consumes old new bytes
  pub counted : after ≡ before + length bytes

-- known bytes lost some from their beginning, which went after those that are held, and of all
-- these the prefix was handed out
pub record HandsOut (old new : Option (List ℕ)) (before after : Held)
    (front : List ℕ) : Type 0 where
  pub bytes : List ℕ
  pub consumed : Consumes old new bytes
  pub counted : after.taken ≡ before.taken + length bytes
  pub split : before.pending ++ bytes ≡ front ++ after.pending

-- bytes that hold no newline
abbrev pub IsOneLine : List ℕ → Type 0
IsOneLine line = All (λ byte. byte ≢ 10) line

-- a line within its bound
abbrev pub IsLine : List ℕ → Type 0
IsLine line = IsOneLine line × (length line ≤ 65536)

-- nothing is held of an input that has ended within its bound
abbrev pub HasEnded : Option (List ℕ) → Held → Type 0
HasEnded new after = (after.pending ≡ []) × IsAtEnd new × (after.taken ≤ 16777216)

-- the next line was handed out: up to its newline, or up to the end where
-- some bytes are left without one
abbrev pub HandsLine : (ends : Bool) → Option (List ℕ) → Option (List ℕ) → Held → Held → List ℕ →
    Type 0
HandsLine true old new before after line =
    IsLine line × HandsOut old new before after (line ++ 10 ∷ [])
HandsLine false old new before after line =
    IsLine line × HandsOut old new before after line × (line ≢ []) × HasEnded new after

-- nothing is left
abbrev pub HandsNothing : Option (List ℕ) → Option (List ℕ) → Held → Held → Type 0
HandsNothing old new before after = HandsOut old new before after [] × HasEnded new after

-- what is held goes after a line up to its newline: all of it where none is there
abbrev pub MovesPart : Bool → Held → Held → List ℕ → List ℕ → Type 0
MovesPart whole before after old new =
    (part : List ℕ) × IsOneLine part × (new ≡ old ++ part) × (after.taken ≡ before.taken)
    × (before.pending ≡ (if whole then part ++ 10 ∷ after.pending else part))
    × (whole ≡ false → after.pending ≡ [])

-- the next piece was read, and is all that is held; where none came, the
-- input has ended within its bound
abbrev pub Refills : Option (List ℕ) → Option (List ℕ) → Held → Held → ℕ → Type 0
Refills old new before after count = Consumes old new after.pending × (length after.pending ≡ count)
    × (after.taken ≡ before.taken + count) × (count ≡ 0 → IsAtEnd new × (after.taken ≤ 16777216))

-- more bytes than a line may have stand at the beginning, and no newline among them
abbrev pub BeginsTooLong : List ℕ → Type 0
BeginsTooLong bytes = (front : List ℕ) × (rest : List ℕ) × IsOneLine front × (65536 < length front)
    × (bytes ≡ front ++ rest)

-- why a part does not go after a line: the line would be too long, or memory ran out
abbrev pub IsPartFault : (long : Type 0) → Failure → Type 0
IsPartFault long Read = ⊥
IsPartFault long Write = ⊥
IsPartFault long TooLong = long
IsPartFault long Memory = Unit {0}

-- why there is no next piece: nothing was taken, and a read has failed within the bound or the
-- bound is passed; or memory ran out
abbrev pub IsRefillFault : (failed : Type 0) → Option (List ℕ) → Option (List ℕ) → ℕ → ℕ → Failure →
    Type 0
IsRefillFault failed old new before after Read =
    failed × Keeps old new × (after ≡ before) × (after ≤ 16777216)
IsRefillFault failed old new before after Write = ⊥
IsRefillFault failed old new before after TooLong =
    Keeps old new × (after ≡ before) × (16777216 < after)
IsRefillFault failed old new before after Memory = Unit {0}

-- why there is no next line, where so many bytes were read in all, and these are not handed out: no
-- line of them is whole, and a read has failed within the bound of the input or this bound is
-- passed; or the next line is too long; or memory ran out
abbrev pub IsLineFault : (failed : Type 0) → ℕ → List ℕ → Failure → Type 0
IsLineFault failed taken left Read = failed × IsLine left × (taken ≤ 16777216)
IsLineFault failed taken left Write = ⊥
IsLineFault failed taken left TooLong = (IsLine left × (16777216 < taken)) ⊎ BeginsTooLong left
IsLineFault failed taken left Memory = Unit {0}

-- known bytes lost some from their beginning, and with these after those that
-- were held there is no next line
pub record LacksLine (failed : Type 0) (old new : Option (List ℕ)) (before after : Held)
    (failure : Failure) : Type 0 where
  pub takes : Takes old new before.taken after.taken
  pub fault : IsLineFault failed after.taken (before.pending ++ takes.bytes) failure

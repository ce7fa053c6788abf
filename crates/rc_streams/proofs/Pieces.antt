-- One read into a buffer, what it adds to what was taken, and how its failure is told.
use Rattle.std.proofs.Common.{◌≡◌, ◌∙◌, ℕ, ◌+◌, ◌-◌, ◌<◌, ◌≤◌, min, List, [], ◌++◌, Option, Result}
use Rattle.std.proofs.Common.{Ok, Err, IfErr, length, take, ap, sym, subst}
use Rattle.std.proofs.Common.{arith, length-append, length-take}
use Rattle.std.proofs.lemmas.List.{length-take-le, take-append-le}
use Rattle.std.specs.Result.{IsErrAnd}
use Rattle.std.specs.Io.KnownBytes.{Consumes, IsAtEnd, Keeps}
use Rattle.std.proofs.KnownBytes.{Consumes-kept, Consumes-nil}
use Rattle.rc_streams.specs.declared.input.Failure.{Failure}
use Rattle.rc_streams.specs.declared.input.Failure.TheVariants.{Memory, Read}
use Rattle.rc_streams.specs.Input.{MovesPiece}
use Rattle.rc_streams.specs.Taking.{Held, Takes}

-- nothing was taken
pub takes_none : (known left : Option (List ℕ)) (taken : ℕ) → Keeps known left
    → Takes known left taken taken
takes_none known left taken kept = record {
  bytes = [];
  consumed = Consumes-kept known known left [] (Consumes-nil known) kept;
  counted = omega arith;
}

-- the beginning of a buffer was taken
pub takes_read : (known left : Option (List ℕ)) (buffer : List ℕ) (before after count : ℕ)
    → Consumes known left (take count buffer) → count ≤ length buffer → after ≡ before
    → Takes known left before (after + count)
takes_read known left buffer before after count consumed within is = record {
  bytes = take count buffer;
  consumed = consumed;
  counted = omega (arith, length-take-le count buffer within, is);
}

-- nothing more was taken
pub takes_same : (known left : Option (List ℕ)) (before : ℕ) (here after : Held) → after ≡ here
    → Takes known left before here.taken → Takes known left before after.taken
takes_same known left before here after same takes =
    subst (λ (h : Held). Takes known left before h.taken) (sym same) takes

-- a read has no more room than was given
pub room_given : (room most : ℕ) (buffer whole : List ℕ) → most ≡ min room 8192
    → length buffer ≡ length (take most whole) → length buffer ≤ room
room_given room most buffer whole small long = omega (arith, simp length-take at long)

pub count_given : (count long room : ℕ) → count ≤ long → long ≤ room → count ≤ room
count_given count long room within given = omega arith

-- and it has some
pub room_some : (room most : ℕ) (buffer whole : List ℕ) → most ≡ min room 8192
    → length buffer ≡ length (take most whole) → length whole ≡ 8192 → 0 < room → 0 < length buffer
room_some room most buffer whole small long all some = omega (arith, simp length-take at long)

-- the room is within a buffer
pub room_low : (room most : ℕ) → most ≡ min room 8192 → most ≤ 8192
room_low room most small = omega arith

pub room_part : (room most : ℕ) (whole : List ℕ) → most ≡ min room 8192 → length whole ≡ 8192
    → most ≡ length (take most whole)
room_part room most whole small all = sym (length-take-le most whole (omega (arith, small, all)))

-- what was read is within a buffer too
pub read_within : (count : ℕ) (buffer rest : List ℕ) → count ≤ length buffer
    → count ≤ length (buffer ++ rest)
read_within count buffer rest within = omega (arith, length-append buffer rest)

pub read_part : (count : ℕ) (buffer rest : List ℕ) → count ≤ length buffer
    → count ≡ length (take count (buffer ++ rest))
read_part count buffer rest within =
    sym (length-take-le count (buffer ++ rest) (read_within count buffer rest within))

-- what is taken stays within the bound and a byte
pub taken_within : (taken count long : ℕ) → taken ≤ 16777217 → long ≤ 16777217 - taken
    → count ≤ long → taken + count ≤ 16777217
taken_within taken count long low room within = omega arith

-- a piece goes behind what was there
pub piece_put : (new old buffer rest : List ℕ) (count : ℕ)
    → new ≡ old ++ take count (buffer ++ rest) → count ≤ length buffer
    → new ≡ old ++ take count buffer
piece_put new old buffer rest count grows within =
    grows ∙ ap (λ (l : List ℕ). old ++ l) (take-append-le count buffer rest within)

pub moves_read : (known left : Option (List ℕ)) (old new buffer rest : List ℕ) (count : ℕ)
    → new ≡ old ++ take count (buffer ++ rest) → count ≤ length buffer
    → Consumes known left (take count buffer) → MovesPiece known left old new count
moves_read known left old new buffer rest count grows within taken = (
  take count buffer,
  length-take-le count buffer within,
  piece_put new old buffer rest count grows within,
  taken,
)

-- where nothing was, the piece is all that is held
pub refills_read : (known left : Option (List ℕ)) (buffer rest old new : List ℕ)
    (before after count : ℕ) → new ≡ old ++ take count (buffer ++ rest) → old ≡ []
    → count ≤ length buffer → Consumes known left (take count buffer) → after ≡ before
    → (count ≡ 0 → 0 < length buffer → IsAtEnd left) → 0 < length buffer → after ≤ 16777216
    → Consumes known left new × (length new ≡ count) × (after + count ≡ before + count)
    × (count ≡ 0 → IsAtEnd left × (after + count ≤ 16777216))
refills_read known left buffer rest old new before after count grows none within taken
    same end some low =
    let is : new ≡ take count buffer = piece_put new old buffer rest count grows within
    ∙ ap (λ (l : List ℕ). l ++ take count buffer) none in (
      subst (Consumes known left) (sym is) taken,
      ap length is ∙ length-take-le count buffer within,
      ap (λ (n : ℕ). n + count) same,
      λ zero. (end zero some, omega arith),
    )

-- it fails where memory runs out, and for nothing else
pub by_memory : {T : Type 0} (r : Result T Failure) (P : Failure → Type 0)
    → IsErrAnd r (λ failure. failure ≡ Memory) → P Memory → IfErr r P
by_memory (Ok x) P is holds = absurd is
by_memory (Err failure) P is holds = subst P (sym is) holds

-- a failure that is passed on is of a read
pub as_read : {T : Type 0} (r : Result T Failure) (failure : Failure)
    → IsErrAnd r (λ told. told ≡ failure) → ◌≡◌ {A = Result ℕ Failure} (Err failure) (Err Read)
    → r ≡ Err Read
as_read (Ok x) failure is read = absurd is
as_read (Err told) failure is read = cc

pub by_read : {T : Type 0} (r : Result T Failure) (failure : Failure) (P : Failure → Type 0)
    → IsErrAnd r (λ told. told ≡ failure) → ◌≡◌ {A = Result ℕ Failure} (Err failure) (Err Read)
    → P Read → IfErr r P
by_read r failure P is read holds = rw (as_read r failure is read) holds

-- what holds of a failure holds as it is passed on
pub told_as : {T : Type 0} (r : Result T Failure) (P : Failure → Type 0) {failure : Failure}
    → IsErrAnd r (λ told. told ≡ failure) → P failure → IfErr r P
told_as (Ok x) P is holds = absurd is
told_as (Err told) P is holds = subst P (sym is) holds

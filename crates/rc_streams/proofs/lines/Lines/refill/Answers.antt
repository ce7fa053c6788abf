use Rattle.std.proofs.Common.{◌≤◌, ◌<◌, ◌-◌, ℕ, refl, ap, subst, zero-le, arith}
use Rattle.std.proofs.KnownBytes.{Keeps-refl}
use Rattle.std.proofs.lemmas.List.{length-replicate}
use Rattle.std.proofs.lemmas.Result.{IfOk-from_err}
use Rattle.rc_streams.specs.Noting.{inner_of}
use Rattle.rc_streams.specs.Taking.{Held}
use Rattle.rc_streams.proofs.Pieces.{by_memory, by_read, read_part}
use Rattle.rc_streams.proofs.Pieces.{read_within, refills_read, room_given, room_low, room_part}
use Rattle.rc_streams.proofs.Pieces.{room_some, taken_within, takes_none, takes_read}
use Rattle.rc_streams.proofs.lines.Lines.refill.Goals as goal

-- there is room below the bound and a byte
below_bound : (taken : ℕ) → taken ≤ 16777216 → 0 < 16777217 - taken
below_bound taken low = omega arith

pub returns-then-self-gt-MAX_INPUT-clause-taken : goal.returns-then-self-gt-MAX_INPUT-clause-taken
returns-then-self-gt-MAX_INPUT-clause-taken g c =
    takes_none _ _ _ (Keeps-refl (g.R.Read.remaining (inner_of c.args.reader.now)))

pub returns-then-self-gt-MAX_INPUT-clause-within : goal.returns-then-self-gt-MAX_INPUT-clause-within
returns-then-self-gt-MAX_INPUT-clause-within g c =
    subst (λ (n : ℕ). n ≤ 16777217) (ap (λ (h : Held). h.taken) c.self.view_is) c.self.invariant.1

pub returns-then-self-gt-MAX_INPUT-clause-told : goal.returns-then-self-gt-MAX_INPUT-clause-told
returns-then-self-gt-MAX_INPUT-clause-told g c = λ failed. absurd (c.requires failed)

pub returns-then-self-gt-MAX_INPUT-clause-fault : goal.returns-then-self-gt-MAX_INPUT-clause-fault
returns-then-self-gt-MAX_INPUT-clause-fault g c = (
  Keeps-refl (g.R.Read.remaining (inner_of c.args.reader.now)),
  refl,
  subst (λ (n : ℕ). 16777216 < n) (ap (λ (h : Held). h.taken) c.self.view_is)
      c.if-self-gt-MAX_INPUT.true,
)

pub slice_bounds-buffer-end : goal.slice_bounds-buffer-end
slice_bounds-buffer-end g c = room_low _ _ c.min-room.ensures

pub slice_bounds-read_some-end : goal.slice_bounds-read_some-end
slice_bounds-read_some-end g c =
    room_part _ _ _ c.min-room.ensures (length-replicate {A = ℕ} 8192 0)

pub returns-in_err-count-clause-read : goal.returns-in_err-count-clause-read
returns-in_err-count-clause-read g c = IfOk-from_err _ _ c.from_residual.ensures.0

pub returns-in_err-count-clause-sound : goal.returns-in_err-count-clause-sound
returns-in_err-count-clause-sound g c = IfOk-from_err _ _ c.from_residual.ensures.0

pub returns-in_err-count-clause-taken : goal.returns-in_err-count-clause-taken
returns-in_err-count-clause-taken g c = takes_none _ _ _ c.in_err-count.ensures.bytes

pub returns-in_err-count-clause-within : goal.returns-in_err-count-clause-within
returns-in_err-count-clause-within g c =
    subst (λ (n : ℕ). n ≤ 16777217) (ap (λ (h : Held). h.taken) c.self.view_is) c.self.invariant.1

pub returns-in_err-count-clause-fault : goal.returns-in_err-count-clause-fault
returns-in_err-count-clause-fault g c =
    by_read _ _ _ c.from_residual.ensures.1 c.in_err-count.ensures.fault.0 (
      c.in_err-count.ensures.fault.1,
      c.in_err-count.ensures.bytes,
      refl,
      subst (λ (n : ℕ). n ≤ 16777216) (ap (λ (h : Held). h.taken) c.self.view_is)
          c.if-self-gt-MAX_INPUT.false,
    )

pub slice_bounds-buffer-end-2 : goal.slice_bounds-buffer-end-2
slice_bounds-buffer-end-2 g c = read_within _ _ _ c.in_ok-count.ensures.bound.0

pub slice_bounds-extend_from_slice-end : goal.slice_bounds-extend_from_slice-end
slice_bounds-extend_from_slice-end g c = read_part _ _ _ c.in_ok-count.ensures.bound.0

pub returns-in_err-extend_from_slice-clause-read : goal.returns-in_err-extend_from_slice-clause-read
returns-in_err-extend_from_slice-clause-read g c =
    IfOk-from_err _ _ c.from_residual-in_err-extend_from_slice.ensures.0

pub returns-in_err-extend_from_slice-clause-sound :
    goal.returns-in_err-extend_from_slice-clause-sound
returns-in_err-extend_from_slice-clause-sound g c =
    IfOk-from_err _ _ c.from_residual-in_err-extend_from_slice.ensures.0

pub returns-in_err-extend_from_slice-clause-taken :
    goal.returns-in_err-extend_from_slice-clause-taken
returns-in_err-extend_from_slice-clause-taken g c =
    takes_read _ _ c.read_some.new.buffer _ _ c.in_ok-count.count c.in_ok-count.ensures.bytes.0
    c.in_ok-count.ensures.bound.0 (ap (λ (h : Held). h.taken) c.self.view_is)

pub returns-in_err-extend_from_slice-clause-told : goal.returns-in_err-extend_from_slice-clause-told
returns-in_err-extend_from_slice-clause-told g c =
    λ failed. absurd (c.requires (c.in_ok-count.ensures.sound failed))

pub returns-in_err-extend_from_slice-clause-fault :
    goal.returns-in_err-extend_from_slice-clause-fault
returns-in_err-extend_from_slice-clause-fault g c =
    by_memory _ _ c.from_residual-in_err-extend_from_slice.ensures.1 tt

pub returns-clause-read : goal.returns-clause-read
returns-clause-read g c =
    let some : 0 < 16777217 - c.self.inside.taken = below_bound _ c.if-self-gt-MAX_INPUT.false in
    refills_read _ _ c.read_some.new.buffer _ _ _ _ _ c.in_ok-count.count
    c.in_ok-extend_from_slice.ensures.items c.clear.ensures.items c.in_ok-count.ensures.bound.0
    c.in_ok-count.ensures.bytes.0
    (ap (λ (h : Held). h.taken) c.self.view_is) c.in_ok-count.ensures.bytes.1
    (room_some _ _ _ _ c.min-room.ensures c.read_some.auto.buffer (length-replicate {A = ℕ} 8192 0)
    some) c.if-self-gt-MAX_INPUT.false

pub returns-clause-taken : goal.returns-clause-taken
returns-clause-taken g c =
    takes_read _ _ c.read_some.new.buffer _ _ c.in_ok-count.count c.in_ok-count.ensures.bytes.0
    c.in_ok-count.ensures.bound.0 (ap (λ (h : Held). h.taken) c.self.view_is)

pub returns-clause-within : goal.returns-clause-within
returns-clause-within g c =
    taken_within _ _ _ c.self.invariant.1
    (room_given (16777217 - c.self.inside.taken) _ _ _ c.min-room.ensures c.read_some.auto.buffer)
    c.in_ok-count.ensures.bound.0

pub returns-clause-sound : goal.returns-clause-sound
returns-clause-sound g c = λ failed. c.requires (c.in_ok-count.ensures.sound failed)

pub returns-clause-told : goal.returns-clause-told
returns-clause-told g c = λ failed. absurd (c.requires (c.in_ok-count.ensures.sound failed))

pub returns-in_err-extend_from_slice-clause-within :
    goal.returns-in_err-extend_from_slice-clause-within
returns-in_err-extend_from_slice-clause-within g c =
    taken_within _ _ _ c.self.invariant.1
    (room_given (16777217 - c.self.inside.taken) _ _ _ c.min-room.ensures c.read_some.auto.buffer)
    c.in_ok-count.ensures.bound.0

pub invariant_of-self-2 : goal.invariant_of-self-2
invariant_of-self-2 g c = (
  zero-le,
  taken_within _ _ _ c.self.invariant.1
      (room_given (16777217 - c.self.inside.taken) _ _ _ c.min-room.ensures c.read_some.auto.buffer)
      c.in_ok-count.ensures.bound.0,
)

use Rattle.std.proofs.Common.{ℕ, inl, inr, refl}
use Rattle.std.proofs.lemmas.List.{length-replicate}
use Rattle.std.proofs.lemmas.Result.{IfOk-from_err}
use Rattle.rc_streams.proofs.InputLemmas.{ConsumesAtMost-none, ConsumesAtMost-read}
use Rattle.rc_streams.proofs.Pieces.{as_read, by_memory, by_read, count_given, moves_read}
use Rattle.rc_streams.proofs.Pieces.{read_part, read_within, room_given}
use Rattle.rc_streams.proofs.Pieces.{room_low, room_part, room_some}
use Rattle.rc_streams.proofs.input.take_piece.Goals as goal

pub slice_bounds-buffer-end : goal.slice_bounds-buffer-end
slice_bounds-buffer-end g c = room_low _ _ c.min-most.ensures

pub slice_bounds-read_some-end : goal.slice_bounds-read_some-end
slice_bounds-read_some-end g c =
    room_part _ _ _ c.min-most.ensures (length-replicate {A = ℕ} 8192 0)

pub returns-in_err-count-clause-moved : goal.returns-in_err-count-clause-moved
returns-in_err-count-clause-moved g c = IfOk-from_err _ _ c.from_residual.ensures.0

pub returns-in_err-count-clause-fits : goal.returns-in_err-count-clause-fits
returns-in_err-count-clause-fits g c = IfOk-from_err _ _ c.from_residual.ensures.0

pub returns-in_err-count-clause-end : goal.returns-in_err-count-clause-end
returns-in_err-count-clause-end g c = IfOk-from_err _ _ c.from_residual.ensures.0

pub returns-in_err-count-clause-sound : goal.returns-in_err-count-clause-sound
returns-in_err-count-clause-sound g c = IfOk-from_err _ _ c.from_residual.ensures.0

pub returns-in_err-count-clause-fault : goal.returns-in_err-count-clause-fault
returns-in_err-count-clause-fault g c =
    by_read _ _ _ c.from_residual.ensures.1 c.in_err-count.ensures.fault.0
    (inr (refl, c.in_err-count.ensures.fault.1))

pub returns-in_err-count-clause-told : goal.returns-in_err-count-clause-told
returns-in_err-count-clause-told g c =
    λ _. inr (as_read _ _ c.from_residual.ensures.1 c.in_err-count.ensures.fault.0)

pub returns-in_err-count-clause-taken : goal.returns-in_err-count-clause-taken
returns-in_err-count-clause-taken g c = ConsumesAtMost-none _ _ _ c.in_err-count.ensures.bytes

pub slice_bounds-buffer-end-2 : goal.slice_bounds-buffer-end-2
slice_bounds-buffer-end-2 g c = read_within _ _ _ c.in_ok-count.ensures.bound.0

pub slice_bounds-extend_from_slice-end : goal.slice_bounds-extend_from_slice-end
slice_bounds-extend_from_slice-end g c = read_part _ _ _ c.in_ok-count.ensures.bound.0

pub returns-in_err-extend_from_slice-clause-moved :
    goal.returns-in_err-extend_from_slice-clause-moved
returns-in_err-extend_from_slice-clause-moved g c =
    IfOk-from_err _ _ c.from_residual-in_err-extend_from_slice.ensures.0

pub returns-in_err-extend_from_slice-clause-fits : goal.returns-in_err-extend_from_slice-clause-fits
returns-in_err-extend_from_slice-clause-fits g c =
    IfOk-from_err _ _ c.from_residual-in_err-extend_from_slice.ensures.0

pub returns-in_err-extend_from_slice-clause-end : goal.returns-in_err-extend_from_slice-clause-end
returns-in_err-extend_from_slice-clause-end g c =
    IfOk-from_err _ _ c.from_residual-in_err-extend_from_slice.ensures.0

pub returns-in_err-extend_from_slice-clause-sound :
    goal.returns-in_err-extend_from_slice-clause-sound
returns-in_err-extend_from_slice-clause-sound g c =
    IfOk-from_err _ _ c.from_residual-in_err-extend_from_slice.ensures.0

pub returns-in_err-extend_from_slice-clause-fault :
    goal.returns-in_err-extend_from_slice-clause-fault
returns-in_err-extend_from_slice-clause-fault g c =
    by_memory _ _ c.from_residual-in_err-extend_from_slice.ensures.1 (inl refl)

pub returns-in_err-extend_from_slice-clause-told : goal.returns-in_err-extend_from_slice-clause-told
returns-in_err-extend_from_slice-clause-told g c =
    λ failed. inl (c.in_ok-count.ensures.sound failed)

pub returns-in_err-extend_from_slice-clause-taken :
    goal.returns-in_err-extend_from_slice-clause-taken
returns-in_err-extend_from_slice-clause-taken g c =
    ConsumesAtMost-read _ _ c.read_some.new.buffer c.in_ok-count.count _
    (room_given _ _ _ _ c.min-most.ensures c.read_some.auto.buffer) c.in_ok-count.ensures.bytes.0

pub returns-clause-moved : goal.returns-clause-moved
returns-clause-moved g c =
    moves_read _ _ _ _ c.read_some.new.buffer _ c.in_ok-count.count
    c.in_ok-extend_from_slice.ensures.items c.in_ok-count.ensures.bound.0
    c.in_ok-count.ensures.bytes.0

pub returns-clause-fits : goal.returns-clause-fits
returns-clause-fits g c =
    count_given _ _ _ c.in_ok-count.ensures.bound.0
    (room_given _ _ _ _ c.min-most.ensures c.read_some.auto.buffer)

pub returns-clause-end : goal.returns-clause-end
returns-clause-end g c = λ none. c.in_ok-count.ensures.bytes.1 none
    (room_some _ _ _ _ c.min-most.ensures c.read_some.auto.buffer (length-replicate {A = ℕ} 8192 0)
    c.requires)

pub returns-clause-sound : goal.returns-clause-sound
returns-clause-sound g c = c.in_ok-count.ensures.sound

pub returns-clause-told : goal.returns-clause-told
returns-clause-told g c = λ failed. inl (c.in_ok-count.ensures.sound failed)

pub returns-clause-taken : goal.returns-clause-taken
returns-clause-taken g c =
    ConsumesAtMost-read _ _ c.read_some.new.buffer c.in_ok-count.count _
    (room_given _ _ _ _ c.min-most.ensures c.read_some.auto.buffer) c.in_ok-count.ensures.bytes.0

use Rattle.std.proofs.Common.{◌≡◌, ◌<◌, ◌+◌, ◌-◌, false, true, List, length, get_or, sym}
use Rattle.std.proofs.Common.{subst, arith, refl}
use Rattle.rc_board.specs.declared.note.Note.{Note}
use Rattle.rc_board.specs.Made.{worker_of}
use Rattle.rc_board.specs.Pads.{Written, way_of}
use Rattle.rc_board.specs.Interleaving.{IsOfCrew}
use Rattle.rc_board.specs.Reading.{IsNext}
use Rattle.rc_board.proofs.Placing.{pad_at, rest_on, rest_stuck}
use Rattle.rc_board.proofs.interleaving.read_on.Goals as goal

pub returns-clause-step : goal.returns-clause-step
returns-clause-step c rest =
    let up = c.args.up.now in
    let pads = c.args.pads.now in
    let read = c.args.read.now in
    let event = c.args.event in
    let k = c.worker_of.result - 1 in
    let pad : Written = c.index-pads-k.result in
    let crew : IsOfCrew (length pads) event = c.if-not-is_of_crew.ensures.0 refl in
    let is : c.worker_of.result ≡ worker_of event = c.worker_of.ensures in
    let worker : worker_of event ≡ k + 1 = omega (arith, crew.0, is) in
    let low : k < length pads = omega (arith, crew.0, crew.1, is) in
    let there : IsNext c.notes.result.now (get_or read k 0) event (way_of up event) =
    c.if-not-is_next.ensures.0 refl in
    let next : IsNext pad.notes (get_or read k 0) event (way_of up event) =
    subst (λ (ns : List Note). IsNext ns (get_or read k 0) event (way_of up event)) c.notes.ensures
    there in
    rest_on up pads read event rest k worker low c.requires.room
    (λ d. subst (λ (p : Written). IsNext p.notes (get_or read k 0) event (way_of up event))
    (sym (pad_at pads k pad d low c.index-pads-k.is)) next)

pub returns-then-not-is_next-clause-step : goal.returns-then-not-is_next-clause-step
returns-then-not-is_next-clause-step c rest =
    let up = c.args.up.now in
    let pads = c.args.pads.now in
    let read = c.args.read.now in
    let event = c.args.event in
    let k = c.worker_of.result - 1 in
    let pad : Written = c.index-pads-k.result in
    let crew : IsOfCrew (length pads) event = c.if-not-is_of_crew.ensures.0 refl in
    let is : c.worker_of.result ≡ worker_of event = c.worker_of.ensures in
    let worker : worker_of event ≡ k + 1 = omega (arith, crew.0, is) in
    let low : k < length pads = omega (arith, crew.0, crew.1, is) in
    rest_stuck up pads read event rest k pad worker low
    (λ next.
    let mine : IsNext pad.notes (get_or read k 0) event (way_of up event) =
    subst (λ (p : Written). IsNext p.notes (get_or read k 0) event (way_of up event))
    (sym c.index-pads-k.is) next in
    let there : IsNext c.notes.result.now (get_or read k 0) event (way_of up event) =
    subst (λ (ns : List Note). IsNext ns (get_or read k 0) event (way_of up event))
    (sym c.notes.ensures) mine in
    let no : false ≡ true = c.if-not-is_next.ensures.1 there in
    cc)

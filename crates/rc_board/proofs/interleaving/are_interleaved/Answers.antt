use Rattle.std.proofs.Common.{◌≡◌, ◌∙◌, ◌↔◌, ◌≤◌, ℕ, [], ◌∷◌, true, false, List, length, ap, sym}
use Rattle.std.proofs.Common.{subst, arith}
use Rattle.std.proofs.lemmas.List.{nil_from_length}
use Rattle.rc_model.specs.declared.Event.{Event}
use Rattle.rc_board.specs.Reading.{AreRest}
use Rattle.rc_board.proofs.Placing.{all_rest, rest_end, by_both}
use Rattle.rc_board.proofs.interleaving.are_interleaved.Goals as goal

pub loop-event-init : goal.loop-event-init
loop-event-init c = (
  all_rest c.args.up.now c.args.pads.now c.unread-read.result c.args.events.now
      c.unread-read.ensures c.requires,
  ap length c.unread-read.ensures,
)

pub read_on-requires : goal.read_on-requires
read_on-requires c = record {
  room = subst (λ (n : ℕ). length c.args.pads.now ≤ n) (sym c.loop-event.invariant.1) c.requires;
}

pub returns-then-not-read_on : goal.returns-then-not-read_on
returns-then-not-read_on c =
    let later = c.in-Some.later.now in
    let cut : c.loop-event.events.now ≡ c.in-Some.event.now ∷ later = c.in-Some.ensures.cases.0 in (
      λ bad. absurd (let no : false ≡ true = bad in cc),
      λ whole. absurd (c.if-not-read_on.ensures.step later
          (subst (λ (es : List Event).
          AreRest c.args.up.now c.args.pads.now c.loop-event.read es) cut
          (c.loop-event.invariant.0.0 whole))),
    )

pub loop-event-preserved : goal.loop-event-preserved
loop-event-preserved c =
    let up = c.args.up.now in
    let pads = c.args.pads.now in
    let read = c.loop-event.read in
    let read' = c.read_on.new.read in
    let later = c.in-Some.later.now in
    let cut : c.loop-event.events.now ≡ c.in-Some.event.now ∷ later = c.in-Some.ensures.cases.0 in
    let step : AreRest up pads read c.loop-event.events.now ↔ AreRest up pads read' later =
    subst (λ (es : List Event). AreRest up pads read es ↔ AreRest up pads read' later) (sym cut)
    (c.if-not-read_on.ensures.step later) in (
      by_both c.loop-event.invariant.0 step,
      c.read_on.ensures.room ∙ c.loop-event.invariant.1,
    )

pub loop-event-smaller : goal.loop-event-smaller
loop-event-smaller c = omega (arith, ap length c.in-Some.ensures.cases.0)

pub are_read-requires : goal.are_read-requires
are_read-requires c =
    subst (λ (n : ℕ). length c.args.pads.now ≤ n) (sym c.loop-event.invariant.1) c.requires

pub returns : goal.returns
returns c =
    let up = c.args.up.now in
    let pads = c.args.pads.now in
    let read = c.loop-event.read in
    let none = nil_from_length c.loop-event.events.now c.in_default.ensures.cases in
    let left : AreRest up pads read [] ↔ AreRest up pads read c.loop-event.events.now =
    rw none (λ h. h, λ h. h) in
    let ended = rest_end up pads read in
    by_both c.are_read.ensures (by_both (ended.1, ended.0)
    (by_both left (c.loop-event.invariant.0.1, c.loop-event.invariant.0.0)))

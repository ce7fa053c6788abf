use Rattle.std.proofs.Common.{inl, inr}
use Rattle.rc_board.specs.Asking.{NotesEnd}
use Rattle.rc_board.proofs.Saying.{said_end}
use Rattle.rc_board.proofs.worker.transit.Goals as goal

pub returns-clause-said : goal.returns-clause-said
returns-clause-said g c =
    let of = c.make-made.ensures in
    let ends : NotesEnd c.args.pad.now c.args.taken c.make-made.result.outcome c.enter.new.pad =
    elim c.enter.ensures [
      | inl entered ↦ inl (rw (of.worker, of.service, of.way) at entered.3)
      | inr refused ↦ inr refused.2
    ] in
    said_end (g.G.Gate.answers c.args.crew.now.gate.now) (g.G.Gate.gives c.args.crew.now.gate.now)
    c.args.crew.now.shared.now.deadline c.args.pad.now c.enter.new.pad c.requires c.args.taken
    c.make-made.result of ends

pub returns-clause-end : goal.returns-clause-end
returns-clause-end g c =
    let of = c.make-made.ensures in (
      c.make-made.result.outcome,
      elim c.enter.ensures [
        | inl entered ↦ inl (rw (of.worker, of.service, of.way) at entered.3)
        | inr refused ↦ inr refused.2
      ],
    )

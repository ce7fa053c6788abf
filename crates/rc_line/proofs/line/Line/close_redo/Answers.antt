use Rattle.std.proofs.Common.{◌∙◌, true, ap, arith}
use Rattle.rc_model.specs.Line.{State}
use Rattle.rc_line.specs.Opening.{Journal}
use Rattle.rc_line.specs.Keeping.{state}
use Rattle.rc_line.proofs.Closings.{bound_shown, kept_closed}
use Rattle.rc_line.proofs.Neighbours.{closes, entry_there, target_bound}
use Rattle.rc_line.proofs.line.Line.close_redo.Goals as goal

pub end_step-requires-clause-entry : goal.end_step-requires-clause-entry
end_step-requires-clause-entry c =
    let s : State = state c.self.inside.live c.self.inside.table in
    omega (
      arith,
      entry_there true c.self.inside.bound c.self.inside.undone.items c.self.inside.done.items s
          c.args.self.now.line c.args.opening (ap (λ (j : Journal). j.line) c.self.view_is)
          c.self.invariant.fits c.requires.aim c.requires.opened.aim,
    )

pub end_step-requires-clause-room : goal.end_step-requires-clause-room
end_step-requires-clause-room c =
    omega (
      arith,
      c.self.invariant.done_room
          (ap (λ (j : Journal). j.is_open) c.self.view_is ∙ c.requires.opened.is_open),
    )

pub end_step-requires-clause-target : goal.end_step-requires-clause-target
end_step-requires-clause-target c =
    let s : State = state c.self.inside.live c.self.inside.table in
    target_bound true c.self.inside.bound c.self.inside.undone.items c.self.inside.done.items s
    c.args.self.now.line c.args.opening (ap (λ (j : Journal). j.line) c.self.view_is)
    c.self.invariant.fits c.requires.aim c.requires.opened.aim

pub end_step-requires-clause-end : goal.end_step-requires-clause-end
end_step-requires-clause-end c =
    let s : State = state c.self.inside.live c.self.inside.table in
    bound_shown c.self.inside.bound c.self.inside.done.items c.self.inside.undone.items s
    c.args.self.now.line (ap (λ (j : Journal). j.line) c.self.view_is) c.args.live.now
    c.requires.bound

pub fit-requires : goal.fit-requires
fit-requires c = c.self.invariant.bound.0

pub invariant_of-self : goal.invariant_of-self
invariant_of-self c =
    let s : State = state c.self.inside.live c.self.inside.table in
    let m = closes true c.self.inside.bound c.self.inside.undone.items c.self.inside.done.items s
    c.args.self.now.line c.args.opening (ap (λ (j : Journal). j.line) c.self.view_is)
    c.self.invariant.fits c.requires.aim c.requires.opened.aim c.args.live.now
    c.end_step.new.from.items c.end_step.new.to.items c.fit.new.undone.items c.fit.new.done.items
    (state c.end_step.new.live c.end_step.new.table) c.self.invariant.bound
    (omega (arith, c.self.invariant.few))
    (bound_shown c.self.inside.bound c.self.inside.done.items c.self.inside.undone.items s
    c.args.self.now.line (ap (λ (j : Journal). j.line) c.self.view_is) c.args.live.now
    c.requires.bound) c.end_step.ensures c.fit.ensures in
    kept_closed c.self.inside.bound _ _ _ _ _ c.self.invariant.bound (m.0, omega (arith, m.2))

pub returns-clause-moved : goal.returns-clause-moved
returns-clause-moved c =
    let s : State = state c.self.inside.live c.self.inside.table in
    let m = closes true c.self.inside.bound c.self.inside.undone.items c.self.inside.done.items s
    c.args.self.now.line c.args.opening (ap (λ (j : Journal). j.line) c.self.view_is)
    c.self.invariant.fits c.requires.aim c.requires.opened.aim c.args.live.now
    c.end_step.new.from.items c.end_step.new.to.items c.fit.new.undone.items c.fit.new.done.items
    (state c.end_step.new.live c.end_step.new.table) c.self.invariant.bound
    (omega (arith, c.self.invariant.few))
    (bound_shown c.self.inside.bound c.self.inside.done.items c.self.inside.undone.items s
    c.args.self.now.line (ap (λ (j : Journal). j.line) c.self.view_is) c.args.live.now
    c.requires.bound) c.end_step.ensures c.fit.ensures in
    m.1

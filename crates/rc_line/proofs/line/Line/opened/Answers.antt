use Rattle.std.proofs.Common.{◌∙◌, ℕ, ap, subst}
use Rattle.rc_line.specs.Opening.{Journal}
use Rattle.rc_line.specs.Keeping.{HasSpare, state}
use Rattle.rc_line.proofs.Openings.{kept_shut, kept_open, line_same, journal_same}
use Rattle.rc_line.proofs.line.Line.opened.Goals as goal

pub invariant_of-self : goal.invariant_of-self
invariant_of-self c =
    kept_shut c.self.inside.bound c.self.inside.done.items c.self.inside.undone.items
    c.make_room.new.done.items c.make_room.new.undone.items
    (state c.self.inside.live c.self.inside.table) c.self.inside.is_open _ _ _ _
    c.self.invariant (ap (λ (j : Journal). j.is_open) c.self.view_is ∙ c.requires)
    c.make_room.ensures.done c.make_room.ensures.undone

pub returns-in_default-make_room-clause-line : goal.returns-in_default-make_room-clause-line
returns-in_default-make_room-clause-line c =
    line_same c.self.inside.bound c.self.inside.done.items c.self.inside.undone.items
    c.make_room.new.done.items c.make_room.new.undone.items
    (state c.self.inside.live c.self.inside.table) c.args.self.now.line
    (ap (λ (j : Journal). j.line) c.self.view_is) c.make_room.ensures.done
    c.make_room.ensures.undone

pub returns-in_default-make_room-clause-err : goal.returns-in_default-make_room-clause-err
returns-in_default-make_room-clause-err c =
    journal_same c.self.inside.bound c.self.inside.done.items c.self.inside.undone.items
    c.make_room.new.done.items c.make_room.new.undone.items
    (state c.self.inside.live c.self.inside.table) c.self.inside.is_open c.args.self.now
    c.self.view_is c.make_room.ensures.done c.make_room.ensures.undone

pub invariant_of-self-2 : goal.invariant_of-self-2
invariant_of-self-2 c =
    kept_open c.self.inside.bound c.self.inside.done.items c.self.inside.undone.items
    c.make_room.new.done.items c.make_room.new.undone.items
    (state c.self.inside.live c.self.inside.table) c.self.inside.is_open _ _ _ _
    c.self.invariant c.make_room.ensures.done c.make_room.ensures.undone
    (subst (λ (n : ℕ). HasSpare c.make_room.new.done.cap n) c.make_room.new.done.ok.0
    c.in-Ok-make_room.ensures.done_room)
    (subst (λ (n : ℕ). HasSpare c.make_room.new.undone.cap n) c.make_room.new.undone.ok.0
    c.in-Ok-make_room.ensures.undone_room)

pub returns-clause-opening : goal.returns-clause-opening
returns-clause-opening c = c.in-Ok.ensures

pub returns-clause-line : goal.returns-clause-line
returns-clause-line c =
    line_same c.self.inside.bound c.self.inside.done.items c.self.inside.undone.items
    c.make_room.new.done.items c.make_room.new.undone.items
    (state c.self.inside.live c.self.inside.table) c.args.self.now.line
    (ap (λ (j : Journal). j.line) c.self.view_is) c.make_room.ensures.done
    c.make_room.ensures.undone

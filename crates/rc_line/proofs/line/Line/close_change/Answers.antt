use Rattle.std.proofs.Common.{subst, sym, ◌≡◌, ◌≢◌, ◌∙◌, ℕ, length, refl, ap}
use Rattle.rc_model.specs.Line.{State}
use Rattle.rc_line.specs.Opening.{Journal, Opening}
use Rattle.rc_line.specs.Keeping.{state, near_room, AreRooms}
use Rattle.rc_line.proofs.Closings.{apart_by, kept_closed, bound_shown, change_elsewhere}
use Rattle.rc_line.proofs.Closings.{change_here, change_room}
use Rattle.rc_line.proofs.line.Line.close_change.Goals as goal

pub same-requires : goal.same-requires
same-requires c =
    let s : State = state c.self.inside.live c.self.inside.table in
    let shown = ap (λ (j : Journal). j.line) c.self.view_is in
    bound_shown c.self.inside.bound c.self.inside.done.items c.self.inside.undone.items s
    c.args.self.now.line shown c.args.live.now c.requires.bound

pub returns-then-same-clause-moved : goal.returns-then-same-clause-moved
returns-then-same-clause-moved c =
    let s : State = state c.self.inside.live c.self.inside.table in
    let shown = ap (λ (j : Journal). j.line) c.self.view_is in
    change_here c.self.inside.bound c.self.inside.done.items c.self.inside.undone.items s
    c.args.self.now.line shown c.args.live.now (c.if-same.ensures.0 refl)

pub entry-entry-requires-clause-bound : goal.entry-entry-requires-clause-bound
entry-entry-requires-clause-bound c =
    let s : State = state c.self.inside.live c.self.inside.table in
    let shown = ap (λ (j : Journal). j.line) c.self.view_is in
    bound_shown c.self.inside.bound c.self.inside.done.items c.self.inside.undone.items s
    c.args.self.now.line shown c.args.live.now c.requires.bound

pub overwrite-requires : goal.overwrite-requires
overwrite-requires c =
    let s : State = state c.self.inside.live c.self.inside.table in
    let shown = ap (λ (j : Journal). j.line) c.self.view_is in
    bound_shown c.self.inside.bound c.self.inside.done.items c.self.inside.undone.items s
    c.args.self.now.line shown c.args.live.now c.requires.bound

pub entry-entry-requires-clause-room : goal.entry-entry-requires-clause-room
entry-entry-requires-clause-room c =
    subst (λ (n : ℕ). AreRooms n c.opening.inside.near)
    (ap (λ (o : Opening). near_room o.aim (length o.live)) c.opening.view_is
    ∙ change_room c.args.self.now.line c.args.opening c.requires.aim c.requires.opened.aim
    ∙ sym c.requires.bound) c.opening.invariant.0

pub invariant_of-self-2 : goal.invariant_of-self-2
invariant_of-self-2 c =
    let s : State = state c.self.inside.live c.self.inside.table in
    let shown = ap (λ (j : Journal). j.line) c.self.view_is in
    let bound : length c.args.live.now ≡ length c.self.inside.live = bound_shown c.self.inside.bound
    c.self.inside.done.items c.self.inside.undone.items s c.args.self.now.line shown c.args.live.now
    c.requires.bound in
    let other : c.self.inside.live ≢ c.args.live.now = apart_by _ _ c.if-same.ensures.1 in
    let fit = rw (c.push_back_reserved.ensures.items, c.spend_all.ensures.items) at c.fit.ensures in
    let m = change_elsewhere c.self.inside.bound c.self.inside.done.items c.self.inside.undone.items
    s c.args.self.now.line shown c.entry-entry.result c.args.live.now _ _ c.self.invariant.bound
    (c.self.invariant.fits, c.self.invariant.few) bound other c.entry-entry.ensures.raised
    c.entry-entry.ensures.lowered (c.entry-entry.ensures.edit ∙ c.opening.invariant.2) fit in
    rw c.overwrite.ensures (kept_closed c.self.inside.bound _ _ _ _ _ c.self.invariant.bound m.0)

pub returns-clause-moved : goal.returns-clause-moved
returns-clause-moved c =
    let s : State = state c.self.inside.live c.self.inside.table in
    let shown = ap (λ (j : Journal). j.line) c.self.view_is in
    let bound : length c.args.live.now ≡ length c.self.inside.live = bound_shown c.self.inside.bound
    c.self.inside.done.items c.self.inside.undone.items s c.args.self.now.line shown c.args.live.now
    c.requires.bound in
    let other : c.self.inside.live ≢ c.args.live.now = apart_by _ _ c.if-same.ensures.1 in
    let fit = rw (c.push_back_reserved.ensures.items, c.spend_all.ensures.items) at c.fit.ensures in
    let m = change_elsewhere c.self.inside.bound c.self.inside.done.items c.self.inside.undone.items
    s c.args.self.now.line shown c.entry-entry.result c.args.live.now _ _ c.self.invariant.bound
    (c.self.invariant.fits, c.self.invariant.few) bound other c.entry-entry.ensures.raised
    c.entry-entry.ensures.lowered (c.entry-entry.ensures.edit ∙ c.opening.invariant.2) fit in
    rw c.overwrite.ensures m.1

use Rattle.std.proofs.Common.{◌+◌, ◌≤◌, ◌++◌, ◌∷◌, [], length-append, ◌≡◌, ◌≢◌, ◌∙◌, ℕ, false}
use Rattle.std.proofs.Common.{length, ap, subst, sym, arith}
use Rattle.rc_model.specs.Line.{State, Line}
use Rattle.rc_line.specs.Opening.{Journal, table_or}
use Rattle.rc_line.specs.Keeping.{IsStepAt, line_of, state}
use Rattle.rc_line.proofs.Closings.{kept_closed, current_shown}
use Rattle.rc_line.proofs.Fronts.{more_after, step_here, gone_on, some_undone}
use Rattle.rc_line.proofs.line.Line.go_on.Goals as goal

pub step_at-entry-requires : goal.step_at-entry-requires
step_at-entry-requires c =
    omega (arith, more_after c.args.self.now.line c.requires.more, c.cursor.ensures)

pub after-requires : goal.after-requires
after-requires c =
    let at = subst (λ (n : ℕ). IsStepAt c.args.self.now.line n c.step_at-entry.result.now)
    c.cursor.ensures c.step_at-entry.ensures in
    let to = step_here c.args.self.now.line c.step_at-entry.result.now at in
    (to.0, rw (c.live.ensures, c.table.ensures) to.1)

pub take_last-entry-requires : goal.take_last-entry-requires
take_last-entry-requires c =
    let s : State = state c.self.inside.live c.self.inside.table in
    let line : Line = c.args.self.now.line in
    let shown : line_of c.self.inside.bound c.self.inside.done.items c.self.inside.undone.items s
    ≡ line = ap (λ (j : Journal). j.line) c.self.view_is in
    let some : length c.self.inside.undone.items ≢ 0 = some_undone c.self.inside.bound
    c.self.inside.done.items c.self.inside.undone.items s line shown c.requires.more in
    omega arith

pub invariant_of-self-2 : goal.invariant_of-self-2
invariant_of-self-2 c =
    let s : State = state c.self.inside.live c.self.inside.table in
    let line : Line = c.args.self.now.line in
    let shown : line_of c.self.inside.bound c.self.inside.done.items c.self.inside.undone.items s
    ≡ line = ap (λ (j : Journal). j.line) c.self.view_is in
    let at = subst (λ (n : ℕ). IsStepAt c.args.self.now.line n c.step_at-entry.result.now)
    c.cursor.ensures c.step_at-entry.ensures in
    let table : c.replace.new.table ≡ table_or c.in_ok-live.table c.table.result.now =
    c.replace.ensures ∙ ap (λ (t : State). table_or c.in_ok-live.table t.table)
    (current_shown c.self.inside.bound c.self.inside.done.items c.self.inside.undone.items s line
    shown) ∙ ap (table_or c.in_ok-live.table) (sym c.table.ensures) in
    let m = gone_on c.self.inside.bound c.self.inside.done.items c.self.inside.undone.items
    c.take_last-entry.new.stack.items c.take_last-entry.result c.step_at-entry.result.now s
    (state c.in_ok-live.live c.replace.new.table) line shown c.take_last-entry.ensures.items
    c.self.invariant.fits at
    (λ to h. ap (state c.in_ok-live.live) table
    ∙ c.in_ok-live.ensures to (rw (c.live.ensures, c.table.ensures) h)) in
    let closed : c.self.inside.is_open ≡ false =
    ap (λ (j : Journal). j.is_open) c.self.view_is ∙ c.requires.closed in
    let few : length (c.self.inside.done.items ++ c.take_last-entry.result ∷ [])
    + length c.take_last-entry.new.stack.items + 1 ≤ c.self.inside.bound =
    omega (
      arith,
      c.self.invariant.few,
      length-append c.self.inside.done.items (c.take_last-entry.result ∷ []),
      ap length c.take_last-entry.ensures.items,
      length-append c.take_last-entry.new.stack.items (c.take_last-entry.result ∷ []),
    ) in
    rw closed (kept_closed c.self.inside.bound _ _ _ _ _ c.self.invariant.bound
    (rw (c.push_back_reserved.ensures.items, c.in-Ok.ensures.items) (m.0, few)))

pub returns-clause-line : goal.returns-clause-line
returns-clause-line c =
    let s : State = state c.self.inside.live c.self.inside.table in
    let line : Line = c.args.self.now.line in
    let shown : line_of c.self.inside.bound c.self.inside.done.items c.self.inside.undone.items s
    ≡ line = ap (λ (j : Journal). j.line) c.self.view_is in
    let at = subst (λ (n : ℕ). IsStepAt c.args.self.now.line n c.step_at-entry.result.now)
    c.cursor.ensures c.step_at-entry.ensures in
    let table : c.replace.new.table ≡ table_or c.in_ok-live.table c.table.result.now =
    c.replace.ensures ∙ ap (λ (t : State). table_or c.in_ok-live.table t.table)
    (current_shown c.self.inside.bound c.self.inside.done.items c.self.inside.undone.items s line
    shown) ∙ ap (table_or c.in_ok-live.table) (sym c.table.ensures) in
    let m = gone_on c.self.inside.bound c.self.inside.done.items c.self.inside.undone.items
    c.take_last-entry.new.stack.items c.take_last-entry.result c.step_at-entry.result.now s
    (state c.in_ok-live.live c.replace.new.table) line shown c.take_last-entry.ensures.items
    c.self.invariant.fits at
    (λ to h. ap (state c.in_ok-live.live) table
    ∙ c.in_ok-live.ensures to (rw (c.live.ensures, c.table.ensures) h)) in
    rw (c.push_back_reserved.ensures.items, c.in-Ok.ensures.items) m.1

pub invariant_of-self : goal.invariant_of-self
invariant_of-self c =
    let closed : c.self.inside.is_open ≡ false =
    ap (λ (j : Journal). j.is_open) c.self.view_is ∙ c.requires.closed in
    rw (closed, c.reserve.ensures.items)
    (kept_closed c.self.inside.bound _ _ _ _ _ c.self.invariant.bound
    (c.self.invariant.fits, c.self.invariant.few))

pub push_back_reserved-requires : goal.push_back_reserved-requires
push_back_reserved-requires c = omega (arith, c.in-Ok.ensures.ok)

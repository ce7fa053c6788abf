use Rattle.std.proofs.Common.{◌≡◌, ◌∙◌, ◌+◌, ◌≤◌, ◌++◌, ◌∷◌, [], length-append, arith, false}
use Rattle.std.proofs.Common.{length, ap, sym}
use Rattle.rc_model.specs.Line.{State}
use Rattle.rc_line.specs.Opening.{Journal}
use Rattle.rc_line.specs.Keeping.{IsStep, state}
use Rattle.rc_line.proofs.Closings.{kept_closed, current_shown, size_shown, most_shown}
use Rattle.rc_line.proofs.Fronts.{step_of, prepended}
use Rattle.rc_line.proofs.line.Line.prepend.Goals as goal

pub between-requires : goal.between-requires
between-requires c =
    let s : State = state c.self.inside.live c.self.inside.table in
    let shown = ap (λ (j : Journal). j.line) c.self.view_is in
    ap (λ (t : State). length t.live)
    (current_shown c.self.inside.bound c.self.inside.done.items c.self.inside.undone.items s
    c.args.self.now.line shown) ∙ sym c.requires.bound

pub invariant_of-self-2 : goal.invariant_of-self-2
invariant_of-self-2 c =
    let s : State = state c.self.inside.live c.self.inside.table in
    let shown = ap (λ (j : Journal). j.line) c.self.view_is in
    let from : State = state c.args.live c.args.table in
    let here = current_shown c.self.inside.bound c.self.inside.done.items c.self.inside.undone.items
    s c.args.self.now.line shown in
    let bound : length s.live ≡ length from.live =
    ap (λ (t : State). length t.live) here ∙ sym c.requires.bound in
    let step : IsStep from s c.in-Ok-between.entry = step_of from s c.in-Ok-between.entry bound
    (λ same. c.requires.differ (same ∙ here)) c.len.ensures.table c.self.invariant.fits.table
    c.in-Ok-between.ensures in
    let m = prepended c.self.inside.bound c.self.inside.done.items c.self.inside.undone.items
    c.in-Ok-between.entry from s c.args.self.now.line shown c.self.invariant.fits
    c.requires.first step in
    let closed : c.self.inside.is_open ≡ false =
    ap (λ (j : Journal). j.is_open) c.self.view_is ∙ c.requires.closed in
    let few : length c.self.inside.done.items
    + length (c.self.inside.undone.items ++ c.in-Ok-between.entry ∷ []) + 1 ≤ c.self.inside.bound =
    omega (
      arith,
      size_shown c.self.inside.bound c.self.inside.done.items c.self.inside.undone.items
          s c.args.self.now.line shown,
      most_shown c.self.inside.bound c.self.inside.done.items c.self.inside.undone.items s
          c.args.self.now.line shown,
      c.requires.few,
      length-append c.self.inside.undone.items (c.in-Ok-between.entry ∷ []),
    ) in
    rw closed (kept_closed c.self.inside.bound _ _ _ _ _ c.self.invariant.bound
    (rw (c.push_back_reserved.ensures.items, c.in-Ok.ensures.items) (m.0, few)))

pub returns-clause-line : goal.returns-clause-line
returns-clause-line c =
    let s : State = state c.self.inside.live c.self.inside.table in
    let shown = ap (λ (j : Journal). j.line) c.self.view_is in
    let from : State = state c.args.live c.args.table in
    let here = current_shown c.self.inside.bound c.self.inside.done.items c.self.inside.undone.items
    s c.args.self.now.line shown in
    let bound : length s.live ≡ length from.live =
    ap (λ (t : State). length t.live) here ∙ sym c.requires.bound in
    let step : IsStep from s c.in-Ok-between.entry = step_of from s c.in-Ok-between.entry bound
    (λ same. c.requires.differ (same ∙ here)) c.len.ensures.table c.self.invariant.fits.table
    c.in-Ok-between.ensures in
    let m = prepended c.self.inside.bound c.self.inside.done.items c.self.inside.undone.items
    c.in-Ok-between.entry from s c.args.self.now.line shown c.self.invariant.fits
    c.requires.first step in
    rw (c.push_back_reserved.ensures.items, c.in-Ok.ensures.items) m.1

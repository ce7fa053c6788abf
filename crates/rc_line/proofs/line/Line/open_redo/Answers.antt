use Rattle.std.proofs.Common.{◌≡◌, Result, Err, ap, sym, refl}
use Rattle.rc_line.specs.declared.aim.Aim.TheVariants.{Redo}
use Rattle.rc_model.specs.declared.LineFault.{LineFault}
use Rattle.rc_model.specs.declared.LineFault.TheVariants.{Memory, NothingToRedo}
use Rattle.rc_line.specs.Opening.{Journal, Opening}
use Rattle.rc_line.specs.Keeping.{state, forth}
use Rattle.rc_line.proofs.Openings.{on_step, aimed_on, none_after, some_after, opened_well}
use Rattle.rc_line.proofs.Openings.{for_made, no_other, by_memory}
use Rattle.rc_line.proofs.line.Line.open_redo.Goals as goal

pub after-requires : goal.after-requires
after-requires c = (
  forth c.in-Some.entry.now (state c.self.inside.live c.self.inside.table),
  on_step c.self.inside.done.items c.self.inside.undone.items c.in-Some.entry.now
      (state c.self.inside.live c.self.inside.table) c.self.invariant.fits (sym c.in-Some.ensures),
)

pub returns-in_default-clause-nothing : goal.returns-in_default-clause-nothing
returns-in_default-clause-nothing c = (
  λ _. none_after c.self.inside.bound c.self.inside.done.items c.self.inside.undone.items
      (state c.self.inside.live c.self.inside.table) c.args.self.now.line
      (ap (λ (j : Journal). j.line) c.self.view_is) (sym c.in_default.ensures),
  λ _. refl,
)

pub returns-in_default-after-clause-nothing : goal.returns-in_default-after-clause-nothing
returns-in_default-after-clause-nothing c = (
  λ e. (let bad : ◌≡◌ {A = Result Opening LineFault} (Err Memory) (Err NothingToRedo) = e in cc),
  λ none. absurd
      (some_after c.self.inside.bound c.self.inside.done.items c.self.inside.undone.items
      c.in-Some.entry.now (state c.self.inside.live c.self.inside.table) c.args.self.now.line
      (ap (λ (j : Journal). j.line) c.self.view_is) (sym c.in-Some.ensures) none),
)

pub opened-requires : goal.opened-requires
opened-requires c = c.requires

pub returns-clause-opened : goal.returns-clause-opened
returns-clause-opened c =
    opened_well c.args.self.now c.opened.new.self c.opened.result
    (record { aim = Redo; live = c.in-Ok.live; table = c.in-Ok.table })
    c.opened.ensures.line c.opened.ensures.open c.opened.ensures.opening
    (aimed_on c.self.inside.bound c.self.inside.done.items c.self.inside.undone.items
    c.in-Some.entry.now (state c.self.inside.live c.self.inside.table) c.args.self.now.line
    c.in-Ok.live c.in-Ok.table
    (ap (λ (j : Journal). j.line) c.self.view_is) c.self.invariant.fits (sym c.in-Some.ensures)
    c.in-Ok.ensures)

pub returns-clause-aim : goal.returns-clause-aim
returns-clause-aim c =
    for_made c.opened.result (record { aim = Redo; live = c.in-Ok.live; table = c.in-Ok.table })
    (λ (opening : Opening). opening.aim ≡ Redo) c.opened.ensures.opening refl

pub returns-clause-line : goal.returns-clause-line
returns-clause-line c = c.opened.ensures.line

pub returns-clause-nothing : goal.returns-clause-nothing
returns-clause-nothing c = (
  λ e. absurd (no_other c.opened.result NothingToRedo c.opened.ensures.memory
      (λ same. (let bad : Memory ≡ NothingToRedo = same in cc)) e),
  λ none. absurd
      (some_after c.self.inside.bound c.self.inside.done.items c.self.inside.undone.items
      c.in-Some.entry.now (state c.self.inside.live c.self.inside.table) c.args.self.now.line
      (ap (λ (j : Journal). j.line) c.self.view_is) (sym c.in-Some.ensures) none),
)

pub returns-clause-faults : goal.returns-clause-faults
returns-clause-faults c = by_memory c.opened.result _ c.opened.ensures.memory

pub returns-clause-err : goal.returns-clause-err
returns-clause-err c = c.opened.ensures.err

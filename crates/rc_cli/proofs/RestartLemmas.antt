-- Where the undo of a restart leads.
use Rattle.std.proofs.Common.{◌≡◌, ◌≢◌, ◌↔◌, ◌≤◌, ◌∙◌, ℕ, Bool, List, [], ◌∷◌, ap, inl, inr}
use Rattle.std.proofs.Common.{refl, subst, sym}
use Rattle.rc_model.specs.Database.{Database}
use Rattle.rc_model.specs.Headline.{TargetOfCommand}
use Rattle.rc_model.specs.Line.{IsNext, Line, MovesByChange, State, put_last, with_live}
use Rattle.rc_model.specs.Names.{Has}
use Rattle.rc_model.specs.Plan.{Ask}
use Rattle.rc_model.specs.Session.{Change, Does, IsLineOf, Reported, Undo}
use Rattle.rc_model.specs.declared.Event.{Event}
use Rattle.rc_model.proofs.Fitting.{fitted_back}
use Rattle.rc_session.proofs.Neighbours.{one_back}

-- a change that has moved something leads to a state whose neighbour is the one before
behind : (old middle : Line) (live : List Bool) → 3 ≤ old.bound → MovesByChange old live middle
    → middle.current.live ≢ old.current.live
    → (back : Line) × IsNext back middle × (back.current ≡ old.current)
behind old middle live three moves moved = elim moves [
  | inl stays ↦ absurd (moved (ap (λ (l : Line). l.current.live) stays.1))
  | inr goes ↦
      let back : Line = record old { after = with_live old live ∷ [] } in
      let fit = fitted_back (put_last old (with_live old live)) back three
      (record { left = refl; reached = refl; bound = refl }) in (
        fit.0,
        subst (λ (l : Line). IsNext fit.0 l) (sym goes.1) fit.1,
        fit.2,
      )
]

-- so an undo then leads to what was live before
pub comes_back : (d : Database) (old middle : Line) (ask : Ask) (events : List Event)
    (told : Reported) (limit : ℕ) → IsLineOf d old → Does d old (Change ask events) told middle
    → middle.current.live ≢ old.current.live
    → (s : ℕ) → TargetOfCommand d middle (Undo limit []) s ↔ Has old.current.live s
comes_back d old middle ask events told limit of does moved s = elim does [
  | inl run ↦
      let there = behind old middle run.live of.is_line.bound.0 run.moved moved in (
        λ to.
            let one : to.0 ≡ there.0 = one_back to.0 there.0 middle to.1 there.1 in
            subst (λ (x : State). Has x.live s)
            (ap (λ (l : Line). l.current) one ∙ there.2) to.2,
        λ has. (there.0, there.1, subst (λ (x : State). Has x.live s) (sym there.2) has),
      )
  | inr edit ↦ absurd edit.altered
]

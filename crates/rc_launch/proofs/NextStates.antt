-- An undo or a redo after which the services of the next state are live has come to that state.
use Rattle.std.proofs.Common.{◌≡◌, ◌∙◌, ℕ, true, false, Bool, List, [], length, inl, inr, ap, sym}
use Rattle.std.proofs.Common.{subst}
use Rattle.rc_model.specs.declared.Event.{Event}
use Rattle.rc_model.specs.Names.{Has, Holds}
use Rattle.rc_model.specs.Database.{Database}
use Rattle.rc_model.specs.Line.{IsNext, Line, put_between, with_live}
use Rattle.rc_model.specs.Session.{Does, IsLineOf, Redo, Reported, Undo}
use Rattle.rc_model.specs.Headline.{TargetOfCommand}
use Rattle.rc_model.proofs.Fitting.{fitted_current}
use Rattle.rc_model.proofs.SetLemmas.{same_set}
use Rattle.rc_session.proofs.Neighbours.{one_back, one_on}
use Rattle.rc_session.proofs.States.{current_state, line_of_back, line_of_next}
use Rattle.rc_historytext.specs.Travelling.{StandsNext, way_command}

-- a set of services with the members of what is live in the state before is that
lives_before : (d : Database) (line back : Line) (limit : ℕ) (live : List Bool) → IsLineOf d line
    → IsNext back line → length live ≡ length d.names
    → Holds live (TargetOfCommand d line (Undo limit [])) → live ≡ back.current.live
lives_before d line back limit live of at long holds =
    same_set live back.current.live
    (long ∙ sym (current_state d back (line_of_back d back line at of)).bound)
    (λ s. (
      (λ has. let there = (holds s).0 has in
          subst (λ (l : Line). Has l.current.live s) (one_back there.0 back line there.1 at)
          there.2),
      (λ has. (holds s).1 (back, at, has)),
    ))

-- the same of the state after
lives_after : (d : Database) (line on : Line) (limit : ℕ) (live : List Bool) → IsLineOf d line
    → IsNext line on → length live ≡ length d.names
    → Holds live (TargetOfCommand d line (Redo limit [])) → live ≡ on.current.live
lives_after d line on limit live of at long holds =
    same_set live on.current.live
    (long ∙ sym (current_state d on (line_of_next d line on at of)).bound)
    (λ s. (
      (λ has. let there = (holds s).0 has in
          subst (λ (l : Line). Has l.current.live s) (one_on line there.0 on there.1 at) there.2),
      (λ has. (holds s).1 (on, at, has)),
    ))

-- an undo
goes_back : (d : Database) (line new : Line) (limit : ℕ) (events : List Event) (told : Reported)
    → IsLineOf d line → Does d line (Undo limit events) told new
    → Holds new.current.live (TargetOfCommand d line (Undo limit [])) → IsNext new line
goes_back d line new limit events told of does holds = elim does [
  | inl run ↦
      let back = run.moved.0 in
      let at : IsNext back line = run.moved.1 in
      let here = current_state d line of in
      elim run.moved.2 [
        | inl reached ↦ subst (λ (l : Line). IsNext l line) (sym reached.1) at
        | inr other ↦ elim other [
          | inl stayed ↦ absurd (stayed.0 (stayed.1
              ∙ lives_before d line back limit line.current.live of at here.bound
              (subst (λ (l : Line). Holds l.current.live (TargetOfCommand d line (Undo limit [])))
              stayed.2 holds)))
          | inr between ↦
              let same : new.current.live ≡ run.live = ap (λ (l : Line). l.current.live) between.2
              ∙ ap (λ s. s.live) (fitted_current (put_between back (with_live line run.live) line))
              in
              absurd (between.0 (lives_before d line back limit run.live of at
              (run.ends.bound ∙ ap length run.task.2.leads.opening ∙ here.bound)
              (subst (λ (x : List Bool). Holds x (TargetOfCommand d line (Undo limit []))) same
              holds)))
        ]
      ]
  | inr edit ↦ absurd edit.altered
]

-- a redo
goes_on : (d : Database) (line new : Line) (limit : ℕ) (events : List Event) (told : Reported)
    → IsLineOf d line → Does d line (Redo limit events) told new
    → Holds new.current.live (TargetOfCommand d line (Redo limit [])) → IsNext line new
goes_on d line new limit events told of does holds = elim does [
  | inl run ↦
      let on = run.moved.0 in
      let at : IsNext line on = run.moved.1 in
      let here = current_state d line of in
      elim run.moved.2 [
        | inl reached ↦ subst (λ (l : Line). IsNext line l) (sym reached.1) at
        | inr other ↦ elim other [
          | inl stayed ↦ absurd (stayed.0 (stayed.1
              ∙ lives_after d line on limit line.current.live of at here.bound
              (subst (λ (l : Line). Holds l.current.live (TargetOfCommand d line (Redo limit [])))
              stayed.2 holds)))
          | inr between ↦
              let same : new.current.live ≡ run.live = ap (λ (l : Line). l.current.live) between.2
              ∙ ap (λ s. s.live) (fitted_current (put_between line (with_live line run.live) on))
              in
              absurd (between.0 (lives_after d line on limit run.live of at
              (run.ends.bound ∙ ap length run.task.2.leads.opening ∙ here.bound)
              (subst (λ (x : List Bool). Holds x (TargetOfCommand d line (Redo limit []))) same
              holds)))
        ]
      ]
  | inr edit ↦ absurd edit.altered
]

-- either of them
pub comes_next : (on : Bool) (d : Database) (line new : Line) (limit : ℕ) (events : List Event)
    (told : Reported) → IsLineOf d line → Does d line (way_command on limit events) told new
    → Holds new.current.live (TargetOfCommand d line (way_command on limit []))
    → StandsNext on line new
comes_next true d line new limit events told of does holds =
    goes_on d line new limit events told of does holds
comes_next false d line new limit events told of does holds =
    goes_back d line new limit events told of does holds

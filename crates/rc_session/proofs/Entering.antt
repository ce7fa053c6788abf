-- A change or an edit that alters something is entered into the line.
use Rattle.std.proofs.Common.{◌≡◌, ◌∙◌, ◌≤◌, refl, [], ◌∷◌, inl, inr, ap, sym, subst}
use Rattle.rc_model.specs.Database.{Database}
use Rattle.rc_model.specs.Line.{IsEdit, State, Entry, IsEntry, IsGained, Line, IsNext, MovesTo}
use Rattle.rc_model.specs.Line.{put_last, with_live, with_table, Lists}
use Rattle.rc_model.proofs.Fitting.{fitted_back, fitted_current, fitted_last}
use Rattle.rc_model.specs.Session.{IsLineOf}
use Rattle.rc_line.proofs.Rewriting.{no_edit}
use Rattle.rc_line.proofs.Steps.{none_gained}
use Rattle.rc_model.specs.Headline.{IsEntered, ChangesAreEntered, EditsAreEntered}
use Rattle.rc_model.proofs.Walking.{current_table}
use Rattle.rc_session.proofs.Differences.{edit_of}
use Rattle.rc_session.proofs.Entries.{entry_before}

-- where the line ends in a state, that is the current one
pub ends_in : (line new : Line) (end : State) → MovesTo line end new → new.current ≡ end
ends_in line new end ends = elim ends [
  | inl stays ↦ ap (λ l. l.current) stays.1 ∙ sym stays.0
  | inr adds ↦ ap (λ l. l.current) adds.1 ∙ fitted_current (put_last line end)
]

-- what the line ends in is entered
enters : (line new : Line) (end : State) (entry : Entry) → 3 ≤ line.bound → MovesTo line end new
    → IsEntry line.current end entry → IsEntered line new entry
enters line new end entry three ends is =
    let here : IsEntry line.current new.current entry =
    subst (λ s. IsEntry line.current s entry) (sym (ends_in line new end ends)) is in
    record {
      exact = here;
      entered = elim ends [
        | inl stays ↦ inl stays.1
        | inr adds ↦
            let full : Line = put_last line end in
            let back : Line = record {
              before = line.before;
              current = line.current;
              after = end ∷ [];
              bound = line.bound;
            } in
            let left =
            fitted_back full back three (record { left = refl; reached = refl; bound = refl }) in
            let next : IsNext left.0 new = subst (IsNext left.0) (sym adds.1) left.1 in
            let before : IsEntry left.0.current new.current entry =
            subst (λ s. IsEntry s new.current entry) (sym left.2) here in
            inr (
              (λ same. adds.0 (sym (ap (λ l. l.current) adds.1 ∙ fitted_current full) ∙ same)),
              ap (λ l. l.after) adds.1 ∙ fitted_last full three refl,
              (entry_before left.0 new next entry).1 before,
            )
      ];
    }

pub change_entered : (d : Database) (line : Line) → IsLineOf d line → ChangesAreEntered d line
change_entered d line of ask events told new does = elim does [
  | inl run ↦
      let opening : run.plan.opening ≡ line.current.live = run.task.1.opening in
      enters line new (with_live line run.live)
      (record { raised = told.raised; lowered = told.lowered; edit = [] }) of.is_line.bound.0
      run.moved (record {
        raised =
            subst (λ up. Lists (IsGained up run.live) told.raised) opening run.is_report.raised;
        lowered =
            subst (λ up. Lists (IsGained run.live up) told.lowered) opening run.is_report.lowered;
        edit = no_edit line.current.table;
      })
  | inr edit ↦ absurd edit.altered
]

pub edit_entered : (d : Database) (line : Line) → IsLineOf d line → EditsAreEntered d line
edit_entered d line of command told new makes =
    let edit = edit_of line.current.table makes.table (current_table line of.is_line).order in
    let there : new.current.table ≡ makes.table =
    ap (λ s. s.table) (ends_in line new (with_table line makes.table) makes.moved) in (
      edit.0,
      subst (λ table. IsEdit line.current.table table edit.0) (sym there) edit.1,
      enters line new (with_table line makes.table)
          (record { raised = []; lowered = []; edit = edit.0 }) of.is_line.bound.0 makes.moved
          (record {
            raised = none_gained line.current.live;
            lowered = none_gained line.current.live;
            edit = edit.1;
          }),
    )

-- Ways back and on, shown and not gone.
use Rattle.std.proofs.Common.{◌≡◌, ◌≢◌, ◌∙◌, ◌+◌, ◌-◌, length-append, inl, inr, ℕ, suc, Bool}
use Rattle.std.proofs.Common.{List, [], ◌∷◌, ◌++◌, Option, None, Some, Result, Ok, Err, IfOk}
use Rattle.std.proofs.Common.{length, slice_get, ap, arith, refl, sym, subst}
use Rattle.std.proofs.lemmas.List.{nil_from_length}
use Rattle.rc_model.specs.Names.{Has}
use Rattle.rc_model.specs.Graph.{IsClosed}
use Rattle.rc_model.specs.Database.{Database, IsDatabase}
use Rattle.rc_model.specs.Line.{Line, IsEntryAt, cursor, states, Entry, State}
use Rattle.rc_line.proofs.Fronts.{get_after}
use Rattle.rc_model.proofs.Lines.{next_cursor}
use Rattle.rc_model.specs.Plan.{IsPlanTo, PlanSets}
use Rattle.rc_model.specs.Session.{Command, Redo, Undo, IsLineOf, IsStateOf, IsOwnFault, IsTask}
use Rattle.rc_model.specs.Session.{IsWay, Nothing}
use Rattle.rc_model.specs.declared.Refusal.{Refusal}
use Rattle.rc_model.proofs.Lists.{all_at}
use Rattle.rc_render.specs.AnswerText.{words_of}
use Rattle.rc_render.specs.Names.{ok_line}
use Rattle.rc_render.specs.PlanText.{IsPlanText}
use Rattle.rc_render.specs.RefusalText.{refusal_text}
use Rattle.rc_serve.specs.Ending.{EndsWay}
use Rattle.rc_serve.specs.declared.ending.Answer.{Answer}
use Rattle.rc_serve.specs.declared.ending.Ending.TheVariants.{Done, Refused}
use Rattle.rc_session.proofs.EditEntries.{back_by_entry, on_by_entry}
use Rattle.rc_session.proofs.Entries.{before_cursor}
use Rattle.rc_session.proofs.States.{current_state}

-- a state's live set is one of the graph's services, and closed
abbrev FitsIn : List (List ℕ) → List Bool → Type 0
FitsIn needs live = (length live ≡ length needs) × IsClosed needs (Has live)

fits : (d : Database) (s : State) → IsDatabase d → IsStateOf d s → FitsIn d.needs s.live
fits d s is_db is = (is.bound ∙ sym is_db.fit.graph, is.closed)

pub placed_fits : (d : Database) (line : Line) (place : ℕ) (to : State) (needs : List (List ℕ))
    → IsDatabase d → IsLineOf d line → needs ≡ d.needs → slice_get (states line) place ≡ Some to
    → FitsIn needs to.live
placed_fits d line place to needs is_db of same there =
    subst (λ (n : List (List ℕ)). FitsIn n to.live) (sym same)
    (fits d to is_db (all_at (IsStateOf d) (states line) place to there of.each))

-- the opening of a plan that leads from the current state is of the names
pub opens : (d : Database) (line : Line) (names : List (List ℕ)) (Target : ℕ → Type 0)
    (plan : PlanSets) → IsLineOf d line → names ≡ d.names
    → IsPlanTo line.current.live Target Nothing plan → length plan.opening ≡ length names
opens d line names Target plan of same leads =
    ap length leads.opening ∙ (current_state d line of).bound ∙ ap length (sym same)

-- a plan to a state is a way without a limit
way_to : (from to : List Bool) (plan : PlanSets) → IsPlanTo from (Has to) Nothing plan
    → IsWay from to 0 0 plan None
way_to from to plan leads = record { leads = leads; untimed = λ same. refl; timed = λ other. refl }

same_state : (a b : Option State) (s t : State) → a ≡ Some s → a ≡ Some t → s ≡ t
same_state a b s t is too = let all : Some s ≡ Some t = sym is ∙ too in cc

-- the plan to the state before the current one is that of the undo
pub undo_task : (d : Database) (line : Line) (at : ℕ) (e : Entry) (to : State) (plan : PlanSets)
    → IsLineOf d line → at ≡ cursor line → at ≢ 0 → IsEntryAt line (at - 1) e
    → slice_get (states line) (at - 1) ≡ Some to
    → IsPlanTo line.current.live (Has to.live) Nothing plan → IsTask d line (Undo 0 []) 0 plan None
undo_task d line at e to plan of here some entry there leads =
    let back = back_by_entry d line of at e here some entry in
    let place : at - 1 ≡ cursor back.0 =
    (let counted = next_cursor back.0 line back.1 in omega (arith, here, counted, some)) in
    let is : to ≡ back.0.current = same_state (slice_get (states line) (at - 1)) None to
    back.0.current there
    (subst (λ (k : ℕ). slice_get (states line) k ≡ Some back.0.current) (sym place)
    (before_cursor back.0 line back.1)) in (
      back.0,
      back.1,
      way_to line.current.live back.0.current.live plan
          (subst (λ (s : State). IsPlanTo line.current.live (Has s.live) Nothing plan) is leads),
    )

-- and so of the redo
pub redo_task : (d : Database) (line : Line) (at count : ℕ) (e : Entry) (to : State)
    (plan : PlanSets) → IsLineOf d line → at ≡ cursor line → count ≡ length (states line)
    → at + 1 ≢ count → IsEntryAt line at e
    → slice_get (states line) (at + 1) ≡ Some to
    → IsPlanTo line.current.live (Has to.live) Nothing plan → IsTask d line (Redo 0 []) 0 plan None
redo_task d line at count e to plan of here all more entry there leads =
    let on = on_by_entry d line of at count e here all more entry in
    let place : at + 1 ≡ suc (cursor line) = omega (arith, here) in
    let is : to ≡ on.0.current = same_state (slice_get (states line) (at + 1)) None to on.0.current
    there (subst (λ (k : ℕ). slice_get (states line) k ≡ Some on.0.current) (sym place)
    (get_after line on.0 on.1)) in (
      on.0,
      on.1,
      way_to line.current.live on.0.current.live plan
          (subst (λ (s : State). IsPlanTo line.current.live (Has s.live) Nothing plan) is leads),
    )

-- where there is nothing after
pub none_after : (line : Line) (at count : ℕ) → at ≡ cursor line → count ≡ length (states line)
    → at + 1 ≡ count → line.after ≡ []
none_after line at count here all last =
    nil_from_length line.after
    (omega (arith, here, all, last, length-append line.before (line.current ∷ line.after)))

-- a plan to the state at a place
pub planned_to : {E : Type 0} (line : Line) (place : ℕ) (up : List Bool) (to : State)
    (result : Result PlanSets E) → up ≡ line.current.live → slice_get (states line) place ≡ Some to
    → IfOk result (IsPlanTo up (Has to.live) Nothing)
    → IfOk result (λ plan. (x : State) × (slice_get (states line) place ≡ Some x)
    × IsPlanTo line.current.live (Has x.live) Nothing plan)
planned_to line place up to (Ok plan) is there leads =
    (to, there, subst (λ (l : List Bool). IsPlanTo l (Has to.live) Nothing plan) is leads)
planned_to line place up to (Err e) is there leads = tt

-- a way that is shown
pub shown_way : {E : Type 0} (d : Database) (here : Line) (command : Command)
    (names : List (List ℕ)) (plan : PlanSets) (result : Result Answer E)
    → IsTask d here command 0 plan None → names ≡ d.names
    → IfOk result (λ answer. answer.ending ≡ Done)
    → IfOk result (λ answer. (lines : List ℕ) × IsPlanText names plan lines
    × (answer.text.items ≡ lines ++ ok_line))
    → IfOk result (λ answer. EndsWay answer.ending d here command answer.text.items)
shown_way d here command names plan (Ok answer) task same done (lines, is, text) =
    inl (
      done,
      (
        plan,
        lines,
        task,
        subst (λ (n : List (List ℕ)). IsPlanText n plan lines) same is,
        text,
      ),
    )
shown_way d here command names plan (Err e) task same done told = tt

-- or that there is none
pub refused_way : (d : Database) (here : Line) (command : Command) (refusal : Refusal)
    (answer : Answer) → answer.ending ≡ Refused
    → answer.text.items ≡ refusal_text (words_of command) refusal
    → IsOwnFault d here command refusal → EndsWay answer.ending d here command answer.text.items
refused_way d here command refusal answer ends text own = inr (ends, (refusal, own, text, refl))

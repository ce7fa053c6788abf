-- What workers log of a run begins one.
use Rattle.std.proofs.Common.{ℕ, inl, inr, List, [], ◌∷◌, ◌++◌, Option, Contains, refl, sym, subst}
use Rattle.std.proofs.lemmas.List.Elements.{Contains-append_cases, Contains-append_left}
use Rattle.std.proofs.lemmas.List.Elements.{Contains-append_right}
use Rattle.rc_model.specs.declared.Event.{Event}
use Rattle.rc_model.specs.declared.Event.TheVariants.{Stop}
use Rattle.rc_model.specs.Database.{Database}
use Rattle.rc_model.specs.Line.{Line}
use Rattle.rc_model.specs.Plan.{PlanSets}
use Rattle.rc_model.specs.Run.{Course, IsRun, IsStopped, course_of}
use Rattle.rc_model.specs.Session.{Command, IsTask}
use Rattle.rc_recovery.specs.Reordered.{AreReordered, IsTurned, without_stops}
use Rattle.rc_recovery.specs.Logging.{BeginsRun}
use Rattle.rc_recovery.proofs.Cut.{front_begins}

-- two events that change places are the same events
swapped : (x y e : Event) (rest : List Event) → Contains (y ∷ x ∷ rest) e
    → Contains (x ∷ y ∷ rest) e
swapped x y e rest at = elim (Contains-append_cases (y ∷ []) (x ∷ rest) e at) [
  | inl here ↦ Contains-append_right (x ∷ []) (y ∷ rest) e
      (Contains-append_left (y ∷ []) rest e here)
  | inr more ↦ elim (Contains-append_cases (x ∷ []) rest e more) [
    | inl here ↦ Contains-append_left (x ∷ []) (y ∷ rest) e here
    | inr deep ↦ Contains-append_right (x ∷ []) (y ∷ rest) e
        (Contains-append_right (y ∷ []) rest e deep)
  ]
]

turned_had : (old new : List Event) (e : Event) → IsTurned old new → Contains new e
    → Contains old e
turned_had old new e turn at =
    let a = turn.before in
    let x = turn.first in
    let y = turn.second in
    let rest = turn.behind in
    let here : Contains (a ++ y ∷ x ∷ rest) e =
    subst (λ (l : List Event). Contains l e) turn.new_is at
    in
    subst (λ (l : List Event). Contains l e) (sym turn.old_is)
    (elim (Contains-append_cases a (y ∷ x ∷ rest) e here) [
      | inl before ↦ Contains-append_left a (x ∷ y ∷ rest) e before
      | inr behind ↦ Contains-append_right a (x ∷ y ∷ rest) e (swapped x y e rest behind)
    ])

had : (steps : List (List Event)) (old new : List Event) (e : Event) → AreReordered steps old new
    → Contains new e → Contains old e
had [] old new e same at = subst (λ (l : List Event). Contains l e) same at
had (next ∷ steps) old new e (turn, rest) at =
    turned_had old next e turn (had steps next new e rest at)

-- what the laws of run logs say
abbrev pub MayReorder : Type 0
MayReorder = (c : Course) (steps : List (List Event)) (old new : List Event)
    → AreReordered steps old new → IsRun c old → IsRun c new

abbrev pub MayLeaveStops : Type 0
MayLeaveStops = (c : Course) (events : List Event) → IsRun c events
    → IsRun c (without_stops events) × (IsStopped (without_stops events) → ⊥)

pub reordered_begins : MayReorder → MayLeaveStops → (d : Database) (line : Line)
    (command : Command) (start : ℕ) (plan : PlanSets) (deadline : Option ℕ) (trace : List Event)
    (steps : List (List Event)) (events rest : List Event)
    → IsTask d line command start plan deadline → IsRun (course_of d.needs plan deadline) trace
    → AreReordered steps (without_stops trace) (events ++ rest) → BeginsRun d line command events
reordered_begins reorder leave d line command start plan deadline trace steps events rest task run
    are =
    let c : Course = course_of d.needs plan deadline in
    let left = leave c trace run in
    let whole : BeginsRun d line command (events ++ rest) = (
      start,
      plan,
      deadline,
      task,
      reorder c steps (without_stops trace) (events ++ rest) are left.0,
      λ stopped. left.1 (
        stopped.0,
        stopped.1,
        had steps (without_stops trace) (events ++ rest) (Stop stopped.0 stopped.1) are stopped.2,
      ),
    ) in
    front_begins d line command (events ++ rest) events rest refl whole

-- Events that begin a run of a command begin one of it under the least limit.
use Rattle.std.proofs.Common.{◌≡◌, ◌≤◌, inl, inr, ℕ, Bool, List, [], ◌∷◌, ◌++◌, Option, Some, None}
use Rattle.std.proofs.Common.{slice_get, take, Contains, arith, refl, sym, subst}
use Rattle.std.proofs.lemmas.List.Elements.{Contains-append_left}
use Rattle.rc_model.specs.Names.{Has}
use Rattle.rc_model.specs.declared.Event.{Event}
use Rattle.rc_model.specs.declared.Event.TheVariants.{Take, Done, Stop}
use Rattle.rc_model.specs.Database.{Bundles, Database}
use Rattle.rc_model.specs.Line.{Line}
use Rattle.rc_model.specs.Plan.{Ask, CanPlan, IsPlanTo, PlanSets}
use Rattle.rc_model.specs.Run.{CanMove, Course, IsLegal, IsRun, IsStopped, course_of}
use Rattle.rc_model.specs.Session.{Command, Change, Undo, Redo, Add, Delete, IsWay, Nothing}
use Rattle.rc_model.specs.Session.{deadline_of}
use Rattle.rc_model.proofs.Exact.{equal_or_not}
use Rattle.rc_model.proofs.RunLemmas.{front_run}
use Rattle.rc_session.specs.Commands.{with_events}
use Rattle.rc_session.proofs.Excluding.{found, one_task}
use Rattle.rc_session.proofs.Neighbours.{one_back, one_on}
use Rattle.rc_script.specs.RunLines.{least_limited}
use Rattle.rc_recovery.specs.Recovering.{IsCutShort}
use Rattle.rc_recovery.specs.Logging.{BeginsRun}

front_stopped : (all events rest : List Event) → all ≡ events ++ rest → IsStopped events
    → IsStopped all
front_stopped all events rest front h = (
  h.0,
  h.1,
  subst (λ (l : List Event). Contains l (Stop h.0 h.1)) (sym front)
      (Contains-append_left events rest (Stop h.0 h.1) h.2),
)

pub front_begins : (d : Database) (line : Line) (command : Command) (all events rest : List Event)
    → all ≡ events ++ rest → BeginsRun d line command all → BeginsRun d line command events
front_begins d line command all events rest front (start, plan, deadline, task, run, fresh) = (
  start,
  plan,
  deadline,
  task,
  front_run (course_of d.needs plan deadline) events rest
      (subst (IsRun (course_of d.needs plan deadline)) front run),
  λ stopped. fresh (front_stopped all events rest front stopped),
)

-- an event that is no stop is legal whatever the deadline
any_move : (needs : List (List ℕ)) (plan : PlanSets) (a b : Option ℕ) (events : List Event) (s : ℕ)
    → CanMove (course_of needs plan a) events s → CanMove (course_of needs plan b) events s
any_move needs plan a b events s move = elim move [
  | inl sinks ↦ inl (record {
    planned = sinks.planned;
    up = sinks.up;
    fresh = sinks.fresh;
    needed_by_none = sinks.needed_by_none;
  })
  | inr rises ↦ inr (record {
    planned = rises.planned;
    down = rises.down;
    fresh = rises.fresh;
    needs_up = rises.needs_up;
  })
]

any_legal : (needs : List (List ℕ)) (plan : PlanSets) (a b : Option ℕ) (events : List Event)
    (e : Event) → ((w m : ℕ) → e ≡ Stop w m → ⊥) → IsLegal (course_of needs plan a) events e
    → IsLegal (course_of needs plan b) events e
any_legal needs plan a b events (Take w s) other legal =
    (legal.0, legal.1, legal.2, any_move needs plan a b events s legal.3)
any_legal needs plan a b events (Done w s o) other legal = legal
any_legal needs plan a b events (Stop w m) other legal = absurd (other w m refl)

stands_there : (events : List Event) (k : ℕ) (x y : Event) → slice_get events k ≡ Some x → x ≡ y
    → Contains events y
stands_there events k x y at same =
    let is = found events k x at in subst (λ (z : Event). Contains events z) same (k, is.0, is.1)

any_run : (needs : List (List ℕ)) (plan : PlanSets) (a b : Option ℕ) (events : List Event)
    → IsRun (course_of needs plan a) events → (IsStopped events → ⊥)
    → IsRun (course_of needs plan b) events
any_run needs plan a b events run fresh = λ k event at.
    any_legal needs plan a b (take k events) event
    (λ w m is. fresh (w, m, stands_there events k event (Stop w m) at is)) (run k event at)

-- the same run of a plan that is equal
run_as : (needs : List (List ℕ)) (p q : PlanSets) (a b : Option ℕ) (events : List Event) → p ≡ q
    → IsRun (course_of needs p a) events → (IsStopped events → ⊥)
    → IsRun (course_of needs q b) events
run_as needs p q a b events same run fresh =
    subst (λ (x : PlanSets). IsRun (course_of needs x b) events) same
    (any_run needs p a b events run fresh)

-- between equal live sets nothing is moved
still : (up to : List Bool) (plan : PlanSets) (c : Course) (events : List Event) (s : ℕ)
    → IsPlanTo up (Has to) Nothing plan → c.lower ≡ plan.lower → c.raise ≡ plan.raise → up ≡ to
    → CanMove c events s → ⊥
still up to plan c events s leads lower raise same move = elim move [
  | inl sinks ↦
      let is = (leads.lower s).0 (subst (λ (l : List Bool). Has l s) lower sinks.planned) in
      is.1 (subst (λ (l : List Bool). Has l s) same is.0)
  | inr rises ↦
      let is = (leads.raise s).0 (subst (λ (l : List Bool). Has l s) raise rises.planned) in
      is.1 (subst (λ (l : List Bool). Has l s) (sym same) is.0)
]

first_moves : (up to : List Bool) (needs : List (List ℕ)) (plan : PlanSets) (deadline : Option ℕ)
    (first : Event) (events : List Event) → IsPlanTo up (Has to) Nothing plan
    → IsLegal (course_of needs plan deadline) [] first → (IsStopped (first ∷ events) → ⊥)
    → up ≡ to → ⊥
first_moves up to needs plan deadline (Take w s) events leads legal fresh same =
    still up to plan (course_of needs plan deadline) [] s leads refl refl same legal.3
first_moves up to needs plan deadline (Done w s o) events leads legal fresh same =
    absurd (omega (arith, legal.1.0.1))
first_moves up to needs plan deadline (Stop w m) events leads legal fresh same =
    fresh (w, m, (0, omega arith, refl))

-- what may be planned does not hang on the limit
pub can_least : (names : List (List ℕ)) (table : Bundles) (ask : Ask) → CanPlan names table ask
    → CanPlan names table (record ask { limit = 1 })
can_least names table ask can = record { prunes = can.prunes; known = can.known }

-- a way under the least limit, where there is one under another
pub least_way : (up to : List Bool) (start limit : ℕ) (plan : PlanSets) (deadline : Option ℕ)
    → IsWay up to start limit plan deadline → (least : Option ℕ) × IsWay up to 0 1 plan least
least_way up to start limit plan deadline way = elim (equal_or_not up to) [
  | inl same ↦ (
    None,
    record { leads = way.leads; untimed = λ is. refl; timed = λ differ. absurd (differ same) },
  )
  | inr differ ↦ (
    deadline_of 0 1,
    record { leads = way.leads; untimed = λ is. absurd (differ is); timed = λ is. refl },
  )
]

-- what `IsCutShort` says of a task
abbrev IsCut : Database → PlanSets → Option ℕ → List Event → Type 0
IsCut d plan deadline events = IsRun (course_of d.needs plan deadline) events
    × (IsStopped events → ⊥) × ((m : ℕ) × (deadline ≡ Some m) × (m ≤ 18446744073709551615))

cut_way : (d : Database) (up to : List Bool) (p q : PlanSets) (start limit : ℕ) (a b : Option ℕ)
    (first : Event) (events : List Event) → p ≡ q → IsWay up to start limit p a
    → IsWay up to 0 1 q b → IsRun (course_of d.needs p a) (first ∷ events)
    → (IsStopped (first ∷ events) → ⊥) → IsCut d q b (first ∷ events)
cut_way d up to p q start limit a b first events same way least run fresh =
    let legal : IsLegal (course_of d.needs p a) [] first = run 0 first refl in
    let differ : up ≡ to → ⊥ =
    first_moves up to d.needs p a first events way.leads legal fresh
    in (
      run_as d.needs p q a b (first ∷ events) same run fresh,
      fresh,
      (1, least.timed differ, omega arith),
    )

pub begins_cut : (d : Database) (line : Line) (command : Command) (first : Event)
    (events : List Event) → BeginsRun d line command (first ∷ events)
    → IsCutShort d line (with_events (least_limited command) (first ∷ events))
begins_cut d line (Change ask old) first events (start, plan, deadline, task, run, fresh) =
    λ least limit is.
    let same = (one_task d line (Change (record ask { limit = 1 }) (first ∷ events)) 0 plan least
    (deadline_of 0 1) limit
    (can_least d.names line.current.table ask task.0, task.1, refl) is).0 in (
      run_as d.needs plan least deadline limit (first ∷ events) same run fresh,
      fresh,
      (1, is.2, omega arith),
    )
begins_cut d line (Undo most old) first events (start, plan, deadline, task, run, fresh) =
    λ least limit is.
    let back = one_back task.0 is.0 line task.1 is.1 in
    let way : IsWay line.current.live is.0.current.live start most plan deadline =
    subst (λ (l : Line). IsWay line.current.live l.current.live start most plan deadline)
    back task.2
    in
    let other = least_way line.current.live is.0.current.live start most plan deadline way in
    let same = (one_task d line (Undo 1 (first ∷ events)) 0 plan least other.0 limit
    (is.0, is.1, other.1) is).0 in
    cut_way d line.current.live is.0.current.live plan least start most deadline limit first events
    same way is.2 run fresh
begins_cut d line (Redo most old) first events (start, plan, deadline, task, run, fresh) =
    λ least limit is.
    let on = one_on line task.0 is.0 task.1 is.1 in
    let way : IsWay line.current.live is.0.current.live start most plan deadline =
    subst (λ (l : Line). IsWay line.current.live l.current.live start most plan deadline) on task.2
    in
    let other = least_way line.current.live is.0.current.live start most plan deadline way in
    let same = (one_task d line (Redo 1 (first ∷ events)) 0 plan least other.0 limit
    (is.0, is.1, other.1) is).0 in
    cut_way d line.current.live is.0.current.live plan least start most deadline limit first events
    same way is.2 run fresh
begins_cut d line (Add name contents force) first events (start, plan, deadline, task, run, fresh) =
    absurd task
begins_cut d line (Delete words force) first events (start, plan, deadline, task, run, fresh) =
    absurd task

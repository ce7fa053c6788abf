-- A run in which nothing has happened, from the parts that it is made of.
use Rattle.std.proofs.Common.{◌≡◌, ◌∙◌, ℕ, ◌+◌, ◌*◌, ◌≤◌, List, [], Bool, Option, length, count_by}
use Rattle.std.proofs.Common.{arith, refl, subst}
use Rattle.std.specs.Global.{Vec}
use Rattle.std.specs.Vec.{vec_len, vec_capacity}
use Rattle.rc_model.specs.declared.Event.{Event}
use Rattle.rc_model.specs.Names.{Has}
use Rattle.rc_model.specs.Graph.{AreNeeds, IsAcyclic, IsClosed}
use Rattle.rc_model.specs.Plan.{PlanSets}
use Rattle.rc_model.specs.Run.{Course, course_of}
use Rattle.rc_model.specs.Beside.{IsCourse, TargetOf}
use Rattle.rc_select.specs.PlanSets.{IsPlan}
use Rattle.rc_core.specs.declared.tables.Tables.{Tables}
use Rattle.rc_core.specs.declared.ready.Ready.{Ready}
use Rattle.rc_core.specs.Tables.{AreFirst, IsKept, IsRoomFor}
use Rattle.rc_core.specs.Ready.{AreReady, IsFirstReady, IsPlaced}
use Rattle.rc_core.specs.Settled.{RunSoFar}
use Rattle.rc_core.proofs.Opening.{kept_first}
use Rattle.rc_core.proofs.Readying.{ready_first}

-- a plan that fits a graph is a course
pub course_first : (needs : List (List ℕ)) (plan : PlanSets) (deadline : Option ℕ) → AreNeeds needs
    → IsAcyclic needs → IsPlan plan → length plan.opening ≡ length needs
    → IsClosed needs (Has plan.opening)
    → IsClosed needs (TargetOf (course_of needs plan deadline))
    → IsCourse (course_of needs plan deadline)
course_first needs plan deadline lists acyclic is bound opening target = record {
  lists = lists;
  acyclic = acyclic;
  up_bound = bound;
  lower_bound = is.lower_bound ∙ bound;
  raise_bound = is.raise_bound ∙ bound;
  falls = is.falls;
  rises = is.rises;
  opening = opening;
  target = target;
}

-- the course of a graph that is shared and of sets that are copied
abbrev pub course_kept : List (List ℕ) → List Bool → List Bool → List Bool → Option ℕ → Course
course_kept needs up lower raise deadline =
    record { needs = needs; up = up; lower = lower; raise = raise; deadline = deadline }

-- what the copies are of was handed to the tables and to the queue
pub record AreCopied (needs shared : List (List ℕ)) (plan : PlanSets)
    (opening lower raise : List Bool) : Type 0 where
  pub graph : shared ≡ needs
  pub opening_is : opening ≡ plan.opening
  pub lower_is : lower ≡ plan.lower
  pub raise_is : raise ≡ plan.raise

pub run_first : (needs shared : List (List ℕ)) (plan : PlanSets) (deadline : Option ℕ) (t : Tables)
    (r : Ready) (trace : Vec Event) (left : Vec ℕ)
    (opening lower raise up_lent lower_lent raise_lent : List Bool) (many services : ℕ)
    → IsCourse (course_of needs plan deadline) → AreCopied needs shared plan opening lower raise
    → up_lent ≡ plan.opening → lower_lent ≡ plan.lower → raise_lent ≡ plan.raise
    → AreFirst up_lent lower_lent raise_lent t
    → IsFirstReady needs up_lent lower_lent raise_lent t.left r
    → many ≡ count_by (λ flag. flag) t.left → services ≡ length needs
    → trace.items ≡ [] → vec_len trace ≡ 0 → 2 * many + 1 ≤ vec_capacity trace
    → IsRoomFor services left
    → IsKept (course_kept shared opening lower raise deadline) trace t
    × IsPlaced r × IsRoomFor (length shared) left
    × AreReady (course_kept shared opening lower raise deadline) trace.items r.waits.items
    r.queue.items × (length shared ≤ vec_capacity r.queue)
run_first needs shared plan deadline t r trace left opening lower raise up_lent lower_lent
    raise_lent many services course same up_is lower_is raise_is tables ready count bound empty len
    room left_room =
    let c : Course = course_of needs plan deadline in
    let first : AreFirst plan.opening plan.lower plan.raise t =
    rw (← up_is, ← lower_is, ← raise_is) tables in
    let readied : IsFirstReady needs plan.opening plan.lower plan.raise t.left r =
    rw (← up_is, ← lower_is, ← raise_is) ready in
    rw (same.graph, same.opening_is, same.lower_is, same.raise_is) (
      kept_first c t trace course first empty len
          (subst (λ (n : ℕ). 2 * n + 1 ≤ vec_capacity trace) count room),
      readied.placed,
      subst (λ (n : ℕ). IsRoomFor n left) bound left_room,
      rw empty (ready_first c t.left r course first.left_ones readied),
      omega (arith, readied.bound, readied.queue.room),
    )

-- what it shows is the plan's course, and no events
pub shown_first : (needs shared : List (List ℕ)) (plan : PlanSets) (deadline : Option ℕ)
    (opening lower raise : List Bool) (events : List Event)
    → AreCopied needs shared plan opening lower raise → events ≡ []
    → ◌≡◌ {A = RunSoFar}
    (record { course = course_kept shared opening lower raise deadline; events = events })
    (record { course = course_of needs plan deadline; events = [] })
shown_first needs shared plan deadline opening lower raise events same empty =
    rw (same.graph, same.opening_is, same.lower_is, same.raise_is, empty) refl

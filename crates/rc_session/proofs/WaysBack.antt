-- Where there is a state before the cursor its undo can go well, and where there is one after it
-- its redo.
use Rattle.std.proofs.Common.{◌≡◌, ◌∙◌, ◌<◌, ℕ, inl, inr, Bool, List, [], ◌∷◌, ◌++◌, length, Option}
use Rattle.std.proofs.Common.{None, refl, sym, subst}
use Rattle.rc_model.specs.Names.{Has, Holds}
use Rattle.rc_model.proofs.SetMembers.{has_or_lacks, has_within}
use Rattle.rc_model.specs.Plan.{PlanSets, IsPlanTo}
use Rattle.rc_model.specs.Run.{course_of}
use Rattle.rc_model.specs.Database.{Database, IsDatabase}
use Rattle.rc_model.specs.Line.{Line, IsNext}
use Rattle.rc_model.specs.Session.{IsWay, deadline_of, IsLineOf, Nothing}
use Rattle.rc_session.specs.Existence.{WaysBack, WaysOn}
use Rattle.rc_session.proofs.Arriving.{arrives}
use Rattle.rc_session.proofs.CarriedOut.{goes_through}
use Rattle.rc_session.proofs.Courses.{way_is_course}
use Rattle.rc_session.proofs.Deciding.{both, not, set_of, holds_of, list_decided, flag_decided}
use Rattle.rc_session.proofs.Deciding.{last_of, first_of}
use Rattle.rc_session.proofs.States.{current_state, line_of_back, line_of_next}

-- the services that one set has and the other lacks, as a set
gained_set : (from to : List Bool) (n : ℕ) → length to ≡ n
    → (set : List Bool) × (length set ≡ n) × Holds set (λ s. Has to s × (Has from s → ⊥))
gained_set from to n long =
    let Gained : ℕ → Type 0 = λ s. Has to s × (Has from s → ⊥) in
    let made =
    set_of Gained n
    (λ s low. both (Has to s) (Has from s → ⊥) (has_or_lacks to s)
    (not (Has from s) (has_or_lacks from s))) in (
      made.0,
      made.1.bound,
      holds_of Gained n made.0 made.1 (λ s is. subst (λ m. s < m) long (has_within to s is.0)),
    )

nothing_set : (n : ℕ) → (set : List Bool) × (length set ≡ n) × Holds set Nothing
nothing_set n = let made = set_of Nothing n (λ s low. inr (λ h. h)) in
    (made.0, made.1.bound, holds_of Nothing n made.0 made.1 (λ s h. absurd h))

-- there is a plan from some services to others
plan_between : (from to : List Bool) → length to ≡ length from
    → (plan : PlanSets) × IsPlanTo from (Has to) Nothing plan
plan_between from to long =
    let lower = gained_set to from (length from) refl in
    let raise = gained_set from to (length from) long in
    let kept = nothing_set (length from) in (
      record { opening = from; lower = lower.0; raise = raise.0; kept = kept.0 },
      record {
        opening = refl;
        lower = lower.2;
        raise = raise.2;
        kept = kept.2;
        lower_bound =
            lower.1;
        raise_bound = raise.1;
        kept_bound = kept.1;
      },
    )

-- and a way
way_between : (from to : List Bool) (limit : ℕ) → length to ≡ length from
    → (plan : PlanSets) × (deadline : Option ℕ) × IsWay from to 0 limit plan deadline
way_between from to limit long =
    let plan = plan_between from to long in
    elim (list_decided from to flag_decided) [
      | inl same ↦ (
        plan.0,
        None,
        record { leads = plan.1; untimed = λ is. refl; timed = λ other. absurd (other same) },
      )
      | inr other ↦ (
        plan.0,
        deadline_of 0 limit,
        record { leads = plan.1; untimed = λ same. absurd (other same); timed = λ is. refl },
      )
    ]

module _ (d : Database) (line : Line) (is_db : IsDatabase d) (of : IsLineOf d line) where
  pub ways_back : WaysBack d line
  ways_back limit some =
      let split = last_of line.before some in
      let back : Line = record {
        before = split.0;
        current = split.1;
        after = line.current ∷ line.after;
        bound = line.bound;
      } in
      let next : IsNext back line = record { left = split.2; reached = refl; bound = refl } in
      let now = current_state d line of in
      let was = current_state d back (line_of_back d back line next of) in
      let way = way_between line.current.live back.current.live limit (was.bound ∙ sym now.bound) in
      let c = course_of d.needs way.0 way.1 in
      let through =
      goes_through c way.0
      (way_is_course d line.current back.current way.0 way.1 way.2.leads is_db now was) in
      let there = arrives d line.current back.current way.0 way.1 way.2.leads through.events
      through.live through.told is_db now was through.ends through.is_report through.failed
      through.stopped in (
        back,
        next,
        (
          through.events,
          through.told,
          inl (record {
            plan = way.0;
            deadline = way.1;
            live = through.live;
            task = (back, next, way.2);
            ends = through.ends;
            moved = (back, next, inl (there, refl));
            is_report = through.is_report;
          }),
          (through.failed, through.stopped),
        ),
      )

  pub ways_on : WaysOn d line
  ways_on limit some =
      let split = first_of line.after some in
      let on : Line = record {
        before = line.before ++ line.current ∷ [];
        current = split.0;
        after =
            split.1;
        bound = line.bound;
      } in
      let next : IsNext line on = record { left = refl; reached = split.2; bound = refl } in
      let now = current_state d line of in
      let will = current_state d on (line_of_next d line on next of) in
      let way = way_between line.current.live on.current.live limit (will.bound ∙ sym now.bound) in
      let c = course_of d.needs way.0 way.1 in
      let through =
      goes_through c way.0
      (way_is_course d line.current on.current way.0 way.1 way.2.leads is_db now will) in
      let there = arrives d line.current on.current way.0 way.1 way.2.leads through.events
      through.live through.told is_db now will through.ends through.is_report through.failed
      through.stopped in (
        on,
        next,
        (
          through.events,
          through.told,
          inl (record {
            plan = way.0;
            deadline = way.1;
            live = through.live;
            task = (on, next, way.2);
            ends = through.ends;
            moved = (on, next, inl (there, refl));
            is_report = through.is_report;
          }),
          (through.failed, through.stopped),
        ),
      )

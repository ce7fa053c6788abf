-- Each task can be carried out with nothing failing: some events are a run of it, and they come to
-- its target.
use Rattle.std.proofs.Common.{◌≡◌, ◌∙◌, ℕ, Bool, true, false, List, [], length, refl, sym}
use Rattle.rc_model.specs.Names.{Has}
use Rattle.rc_model.proofs.SetMembers.{has_or_lacks}
use Rattle.rc_model.specs.Plan.{PlanSets}
use Rattle.rc_model.specs.declared.Event.{Event}
use Rattle.rc_model.specs.Run.{Course, HasFailed, IsStopped, IsLeft}
use Rattle.rc_model.specs.Beside.{IsCourse, TargetOf}
use Rattle.rc_core.proofs.Places.{planned_within}
use Rattle.rc_model.specs.Line.{IsGained}
use Rattle.rc_model.specs.Session.{Reported, IsReportOf, EndsWith}
use Rattle.rc_model.proofs.Telling.{lists_none}
use Rattle.rc_session.proofs.Deciding.{Decided, both, not, set_of, holds_of, ids_of, ids_of_set}
use Rattle.rc_session.proofs.WellRuns.{well_run, left_decided, ends_there, target_decided}
use Rattle.rc_session.proofs.WellRuns.{target_within}
use Rattle.rc_session.proofs.Differences.{gained}

-- what a task comes to where all goes well
pub record GoesThrough (c : Course) (plan : PlanSets) : Type 0 where
  pub events : List Event
  pub live : List Bool
  pub told : Reported
  pub ends : EndsWith c events live
  pub is_report : IsReportOf c plan events live told
  pub failed : told.failed ≡ []
  pub stopped : told.stopped ≡ false

gained_decided : (from to : List Bool) (s : ℕ) → Decided (IsGained from to s)
gained_decided from to s =
    both (Has to s) (Has from s → ⊥) (has_or_lacks to s) (not (Has from s) (has_or_lacks from s))

pub goes_through : (c : Course) (plan : PlanSets) → IsCourse c → GoesThrough c plan
goes_through c plan course =
    let made = well_run c course in
    let events = made.0 in
    let goes = made.1 in
    let live = set_of (TargetOf c) (length c.needs) (λ s low. target_decided c course s) in
    let holds = holds_of (TargetOf c) (length c.needs) live.0 live.1 (target_within c course) in
    let lowered = gained live.0 c.up in
    let raised = gained c.up live.0 in
    let left = ids_of (IsLeft c events) (length c.needs)
    (λ s low. left_decided c course events goes.run s) (λ s is. planned_within c s course is.0) in
    let kept = ids_of_set plan.kept in
    record {
      events = events;
      live = live.0;
      told = record {
        opening = c.up;
        lowered = lowered.0;
        raised = raised.0;
        failed = [];
        blocked =
            left.0;
        untried = [];
        kept = kept.0;
        stopped = false;
        trace = events;
      };
      ends = record {
        settled = made.2;
        bound = live.1.bound ∙ sym course.up_bound;
        members = λ s. let at = ends_there c course events goes made.2 s in
            (λ has. at.1 ((holds s).0 has), λ is. (holds s).1 (at.0 is));
      };
      is_report = record {
        opening = refl;
        lowered = lowered.1;
        raised = raised.1;
        failed = lists_none (HasFailed events) goes.well;
        blocked = record {
          ascending = left.1.ascending;
          same = λ s. (λ in_ids. ((left.1.same s).0 in_ids, goes.runs), λ h. (left.1.same s).1 h.0);
        };
        untried = lists_none (λ s. IsLeft c events s × IsStopped events) (λ s h. goes.runs h.1);
        kept = kept.1;
        stopped = (λ bad. let is : false ≡ true = bad in cc, λ stopped. absurd (goes.runs stopped));
        trace = refl;
      };
      failed = refl;
      stopped = refl;
    }

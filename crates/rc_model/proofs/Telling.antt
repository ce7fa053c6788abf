-- What a report tells of a run, from what the run has come to.
use Rattle.std.proofs.Common.{◌≡◌, ◌∙◌, ◌↔◌, ℕ, Bool, true, false, List, [], Option, if◌then◌else◌}
use Rattle.std.proofs.Common.{refl, sym, subst, rules}
use Rattle.rc_model.specs.Names.{Has}
use Rattle.rc_model.specs.Plan.{PlanSets}
use Rattle.rc_model.specs.declared.Event.{Event}
use Rattle.rc_model.specs.Run.{course_of, HasFailed, IsStopped, IsLeft}
use Rattle.rc_model.specs.Line.{IsGained, Lists}
use Rattle.rc_model.proofs.Members.{none_contained}
use Rattle.rc_model.specs.Session.{Reported, IsReportOf}

-- no ids are the list of what nothing is
pub lists_none : (P : ℕ → Type 0) → ((s : ℕ) → P s → ⊥) → Lists P []
lists_none P none = record {
  ascending = search rules;
  same = λ s. (λ bad. absurd (none_contained s bad), λ h. absurd (none s h));
}

-- a list of ids, of which something more holds
lists_more : (P : ℕ → Type 0) (Q : Type 0) (ids : List ℕ) → Q → Lists P ids
    → Lists (λ s. P s × Q) ids
lists_more P Q ids more lists = record {
  ascending = lists.ascending;
  same = λ s. (λ there. ((lists.same s).0 there, more), λ h. (lists.same s).1 h.0);
}

-- what was left was blocked, where the run was not stopped
blocked_of : (Left : ℕ → Type 0) (Stops : Type 0) (left : List ℕ) (stopped : Bool) → Lists Left left
    → (stopped ≡ true) ↔ Stops → Lists (λ s. Left s × (Stops → ⊥)) (if stopped then [] else left)
blocked_of Left Stops left true lists stops =
    lists_none (λ s. Left s × (Stops → ⊥)) (λ s h. h.1 (stops.0 refl))
blocked_of Left Stops left false lists stops =
    lists_more Left (Stops → ⊥) left (λ stop. (let bad : false ≡ true = stops.1 stop in cc)) lists

-- and untried, where it was
untried_of : (Left : ℕ → Type 0) (Stops : Type 0) (left : List ℕ) (stopped : Bool) → Lists Left left
    → (stopped ≡ true) ↔ Stops → Lists (λ s. Left s × Stops) (if stopped then left else [])
untried_of Left Stops left true lists stops = lists_more Left Stops left (stops.0 refl) lists
untried_of Left Stops left false lists stops =
    lists_none (λ s. Left s × Stops) (λ s h. (let bad : false ≡ true = stops.1 h.1 in cc))

module _ (needs : List (List ℕ)) (plan : PlanSets) (deadline : Option ℕ) (events : List Event)
    (live : List Bool) (told : Reported) where
  -- what is told of a run, from what it has come to
  pub tells : (opening : List Bool) (left none : List ℕ) (stopped : Bool) → opening ≡ plan.opening
      → none ≡ [] → told.opening ≡ opening →
      Lists (IsGained live opening) told.lowered → Lists (IsGained opening live) told.raised
      → Lists (HasFailed events) told.failed →
      Lists (IsLeft (course_of needs plan deadline) events) left
      → (stopped ≡ true) ↔ IsStopped events →
      told.blocked ≡ (if stopped then none else left)
      → told.untried ≡ (if stopped then left else none) →
      Lists (Has plan.kept) told.kept → told.stopped ≡ stopped → told.trace ≡ events →
      IsReportOf (course_of needs plan deadline) plan events live told
  tells opening left none stopped begins empty told_opening lowered raised failed lists stops
      blocked untried kept told_stopped trace =
      let Blocked : List ℕ → Type 0 =
      Lists (λ s. IsLeft (course_of needs plan deadline) events s × (IsStopped events → ⊥)) in
      let Untried : List ℕ → Type 0 =
      Lists (λ s. IsLeft (course_of needs plan deadline) events s × IsStopped events) in
      record {
        opening = told_opening ∙ begins;
        lowered = subst (λ set. Lists (IsGained live set) told.lowered) begins lowered;
        raised = subst (λ set. Lists (IsGained set live) told.raised) begins raised;
        failed = failed;
        blocked =
            subst Blocked (sym blocked)
            (subst (λ ids. Blocked (if stopped then ids else left)) (sym empty)
            (blocked_of (IsLeft (course_of needs plan deadline) events) (IsStopped events) left
            stopped lists stops));
        untried =
            subst Untried (sym untried)
            (subst (λ ids. Untried (if stopped then left else ids)) (sym empty)
            (untried_of (IsLeft (course_of needs plan deadline) events) (IsStopped events) left
            stopped lists stops));
        kept = kept;
        stopped = (λ is. stops.0 (sym told_stopped ∙ is), λ stop. told_stopped ∙ stops.1 stop);
        trace = trace;
      }

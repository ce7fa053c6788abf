-- What the first step of a restart leaves, and the plans of both.
use Rattle.std.proofs.Common.{◌≡◌, ◌∙◌, ℕ, Bool, false, List, Result, Ok, Err, IfOk, ap, length}
use Rattle.std.proofs.Common.{subst, sym}
use Rattle.rc_model.specs.Database.{Bundles, Database, IsDatabase}
use Rattle.rc_model.specs.Graph.{IsClosed}
use Rattle.rc_model.specs.Line.{Line}
use Rattle.rc_model.specs.Names.{Has, Holds}
use Rattle.rc_model.specs.Plan.{IsEssentialUp, IsPlanOf, IsPlanTo, IsWanted, PlanSets, TargetOfAsk}
use Rattle.rc_model.specs.Session.{IsLineOf, Nothing}
use Rattle.rc_model.specs.declared.Mode.TheVariants.{DownAll}
use Rattle.rc_select.proofs.TargetLemmas.{same_closed, target_closed}
use Rattle.rc_session.proofs.States.{current_state}
use Rattle.rc_cli.specs.Showing.{IsPlanBack}
use Rattle.rc_cli.specs.Steps.{step_ask}

-- what a plan leaves that lowers names with all that needs them is closed
left_closed : (d : Database) (table : Bundles) (live left : List Bool) (names : List (List ℕ))
    (plan : PlanSets) → IsClosed d.needs (Has live)
    → IsPlanOf d table live (step_ask DownAll names) plan
    → Holds left (λ s. Has live s × (Has plan.lower s → ⊥)) → IsClosed d.needs (Has left)
left_closed d table live left names plan closed planned leaves =
    same_closed d.needs (TargetOfAsk d table live (step_ask DownAll names)) (Has left)
    (λ s target. (leaves s).1 (target.0, λ low. ((planned.lower s).0 low).1 target))
    (λ s has.
    let here = (leaves s).0 has in
    (here.0, λ down. here.1 ((planned.lower s).1 (here.0, λ target. target.1 down))))
    (target_closed d.needs (Has live) (IsEssentialUp d (Has live))
    (IsWanted d.names table (Has live) (step_ask DownAll names)) DownAll false closed)

-- a set is of the services of a graph, and closed
abbrev FitsIn : List (List ℕ) → List Bool → Type 0
FitsIn graph set = (length set ≡ length graph) × IsClosed graph (Has set)

-- what is left, in the words of the spec
leaves_by : (live held left lower : List Bool) (plan : PlanSets) → held ≡ live → lower ≡ plan.lower
    → Holds left (λ s. Has held s × (Has lower s → ⊥))
    → Holds left (λ s. Has live s × (Has plan.lower s → ⊥))
leaves_by live held left lower plan is low leaves =
    subst (λ (set : List Bool). Holds left (λ s. Has set s × (Has plan.lower s → ⊥))) is
    (subst (λ (set : List Bool). Holds left (λ s. Has held s × (Has set s → ⊥))) low leaves)

pub left_fits : (d : Database) (here : Line) (names : List (List ℕ)) (plan : PlanSets)
    (graph : List (List ℕ)) (held left lower : List Bool) → IsDatabase d → IsLineOf d here
    → IsPlanOf d here.current.table here.current.live (step_ask DownAll names) plan
    → graph ≡ d.needs → held ≡ here.current.live → lower ≡ plan.lower → length left ≡ length held
    → Holds left (λ s. Has held s × (Has lower s → ⊥)) → FitsIn graph left
left_fits d here names plan graph held left lower is_db of planned same is low long leaves =
    let state = current_state d here of in
    subst (λ (needs : List (List ℕ)). FitsIn needs left) (sym same) (
      long ∙ ap length is ∙ state.bound ∙ sym is_db.fit.graph,
      left_closed d here.current.table here.current.live left names plan state.closed planned
          (leaves_by here.current.live held left lower plan is low leaves),
    )

-- the plan from there to what is live brings back what was lowered
pub plans_back : {E : Type 0} (live shown held left lower : List Bool) (plan : PlanSets)
    (result : Result PlanSets E) → shown ≡ live → held ≡ live → lower ≡ plan.lower
    → length left ≡ length held → Holds left (λ s. Has held s × (Has lower s → ⊥))
    → IfOk result (IsPlanTo left (Has shown) Nothing) → IfOk result (IsPlanBack live plan)
plans_back live shown held left lower plan (Ok back) see is low long leaves leads = record {
  left = left;
  bound = long ∙ ap length is;
  leaves = leaves_by live held left lower plan is low leaves;
  leads = subst (λ (set : List Bool). IsPlanTo left (Has set) Nothing back) see leads;
}
plans_back live shown held left lower plan (Err fault) see is low long leaves leads = tt

-- both plans open with services of the names
pub first_opens : (d : Database) (here : Line) (names asked : List (List ℕ)) (plan : PlanSets)
    → IsLineOf d here → names ≡ d.names
    → IsPlanOf d here.current.table here.current.live (step_ask DownAll asked) plan
    → length plan.opening ≡ length names
first_opens d here names asked plan of same planned =
    ap length planned.opening ∙ (current_state d here of).bound ∙ ap length (sym same)

pub second_opens : (d : Database) (here : Line) (names : List (List ℕ)) (plan back : PlanSets)
    → IsLineOf d here → names ≡ d.names → IsPlanBack here.current.live plan back
    → length back.opening ≡ length names
second_opens d here names plan back of same brings =
    ap length brings.leads.opening ∙ brings.bound ∙ (current_state d here of).bound
    ∙ ap length (sym same)

-- What is shown of a session in one line, besides what a session line shows.
use Rattle.std.specs.Prelude.{◌≡◌, ◌⊎◌, ◌∷◌, ◌++◌, ℕ, Bool, List, [], Option, zero, suc, codes}
use Rattle.std.specs.Prelude.{false, length, slice_index_or, if◌then◌else◌}
use Rattle.rc_model.specs.Database.{Database}
use Rattle.rc_model.specs.Line.{Line}
use Rattle.rc_model.specs.Names.{Has, Holds}
use Rattle.rc_model.specs.Plan.{CanPlan, IsPlanOf, IsPlanTo, PlanSets}
use Rattle.rc_model.specs.Session.{Change, Nothing}
use Rattle.rc_model.specs.declared.Mode.TheVariants.{DownAll}
use Rattle.rc_render.specs.Lines.{line}
use Rattle.rc_render.specs.Names.{ok_line}
use Rattle.rc_render.specs.PlanText.{IsPlanText}
use Rattle.rc_streams.specs.Input.{AppendsFront}
use Rattle.rc_serve.specs.declared.ending.Ending.{Ending}
use Rattle.rc_serve.specs.declared.ending.Ending.TheVariants.{Done, Refused}
use Rattle.rc_serve.specs.declared.fault.ServeFault.{ServeFault}
use Rattle.rc_serve.specs.declared.fault.ServeFault.TheVariants.{Memory, Write}
use Rattle.rc_serve.specs.Meeting.{IsRefused}
use Rattle.rc_cli.specs.Steps.{step_ask}

-- the name of a service after a space, if it is not live
abbrev pub down_name : (names : List (List ℕ)) → (live : List Bool) → ℕ → List ℕ
down_name names live s = if slice_index_or live s false then [] else 32 ∷ slice_index_or names s []

-- the names of those of the first services that are not live, in the order of the database
abbrev pub down_names : (names : List (List ℕ)) → (live : List Bool) → (count : ℕ) → List ℕ
down_names names live zero = []
down_names names live (suc s) = down_names names live s ++ down_name names live s

-- the line of the services of a database that are not live
abbrev pub down_text : (names : List (List ℕ)) → (live : List Bool) → List ℕ
down_text names live = line (codes "down" ++ down_names names live (length names))

-- what is down is shown, and the line of states stays
abbrev pub EndsDown : Ending → Database → Line → List ℕ → Type 0
EndsDown ending d here text =
    (ending ≡ Done) × (text ≡ down_text d.names here.current.live ++ ok_line)

-- the plan that brings back what a plan lowers: from what that leaves live to what is live
pub record IsPlanBack (live : List Bool) (plan back : PlanSets) : Type 0 where
  pub left : List Bool
  pub bound : length left ≡ length live
  pub leaves : Holds left (λ s. Has live s × (Has plan.lower s → ⊥))
  pub leads : IsPlanTo left (Has live) Nothing back

-- both plans of a restart of these names, each as text: that of its first step, and then that of
-- its second one as if the first had succeeded
pub record AreBothPlans (d : Database) (here : Line) (names : List (List ℕ)) (text : List ℕ)
    : Type 0 where
  pub plan : PlanSets
  pub back : PlanSets
  pub lowered : List ℕ
  pub raised : List ℕ
  pub can : CanPlan d.names here.current.table (step_ask DownAll names)
  pub lowers : IsPlanOf d here.current.table here.current.live (step_ask DownAll names) plan
  pub raises : IsPlanBack here.current.live plan back
  pub first : IsPlanText d.names plan lowered
  pub second : IsPlanText d.names back raised
  pub all : text ≡ lowered ++ ok_line ++ (raised ++ ok_line)

-- what a restart would move is shown, or why it could not be begun, and the line of states stays
abbrev pub EndsDryRestart : Ending → Database → Line → (names : List (List ℕ)) → List ℕ → Type 0
EndsDryRestart ending d here names text = ((ending ≡ Done) × AreBothPlans d here names text)
    ⊎ ((ending ≡ Refused) × IsRefused d here (Change (step_ask DownAll names) []) text here)

-- something could not be shown: out of memory, with nothing written, or the writer has failed, with
-- a prefix of the answer written
abbrev pub FailsToShow : ServeFault → (Shows : Ending → List ℕ → Type 0)
    → (written gained : Option (List ℕ)) → Type 0
FailsToShow fault Shows written gained = ((fault ≡ Memory) × (gained ≡ written))
    ⊎ ((fault ≡ Write) × (ending : Ending) × (text : List ℕ) × Shows ending text
    × AppendsFront written gained text)

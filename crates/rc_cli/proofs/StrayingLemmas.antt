-- Strays are brought down.
use Rattle.std.proofs.Common.{◌≡◌, ◌∙◌, ℕ, Bool, false, List, Option, None, ap, subst}
use Rattle.std.specs.Io.KnownBytes.{Appends}
use Rattle.rc_graph.proofs.Paths.{up_is_closed}
use Rattle.rc_model.specs.Database.{Bundles, Database, Selected}
use Rattle.rc_model.specs.Graph.{IsClosed, UpFrom}
use Rattle.rc_model.specs.Names.{Has, Holds}
use Rattle.rc_session.specs.Holding.{Holding}
use Rattle.rc_runner.specs.Gates.{gate_answers, gate_gives}
use Rattle.rc_runner.specs.declared.session_gate.SessionGate.{SessionGate}
use Rattle.rc_model.specs.declared.Mode.TheVariants.{DownAll}
use Rattle.rc_model.proofs.Closures.{up_more}
use Rattle.rc_script.specs.Says.{Saying}
use Rattle.rc_serve.specs.Ending.{Ends, EndsIn, IsDoneAs}
use Rattle.rc_serve.specs.declared.ending.Ending.{Ending}
use Rattle.rc_args.specs.SessionAsked.{SessionAsk}
use Rattle.rc_cli.specs.Gating.{IsGateFor}
use Rattle.rc_cli.specs.Services.{IsDoneFor}
use Rattle.rc_cli.specs.Steps.{step_ask, step_by}
use Rattle.rc_cli.specs.Straying.{IsStraySession, LowersAs, LowersOn}
use Rattle.rc_cli.proofs.LaunchLemmas.{past_gate}

-- a set that holds what members need and they themselves is closed
closed_up : (needs : List (List ℕ)) (Set : ℕ → Type 0) (live : List Bool)
    → Holds live (UpFrom needs Set) → IsClosed needs (Has live)
closed_up needs Set live holds s t has need =
    (holds t).1 (up_is_closed needs Set s t ((holds s).0 has) need)

-- a set that holds what wanted services need and they themselves, by the graph and the bundles of a
-- database
pub live_members : (d : Database) (graph : List (List ℕ)) (table : Bundles)
    (strays : List (List ℕ)) (wanted live : List Bool) → graph ≡ d.needs → table ≡ d.table
    → Holds wanted (Selected d.names table strays) → Holds live (UpFrom graph (Has wanted))
    → Holds live (UpFrom d.needs (Selected d.names d.table strays))
live_members d graph table strays wanted live same stands meant holds t =
    let In : ℕ → Type 0 = Selected d.names d.table strays in
    let those : Holds wanted In =
    subst (λ (b : Bundles). Holds wanted (Selected d.names b strays)) stands meant in
    let with : Holds live (UpFrom d.needs (Has wanted)) =
    subst (λ (g : List (List ℕ)). Holds live (UpFrom g (Has wanted))) same holds in (
      λ has. up_more d.needs (Has wanted) In (λ s x. (those s).0 x) t ((with t).0 has),
      λ up. (with t).1 (up_more d.needs In (Has wanted) (λ s x. (those s).1 x) t up),
    )

-- and it is closed
pub live_closed : (d : Database) (graph : List (List ℕ)) (wanted live : List Bool)
    → graph ≡ d.needs → Holds live (UpFrom graph (Has wanted)) → IsClosed d.needs (Has live)
live_closed d graph wanted live same holds =
    closed_up d.needs (Has wanted) live
    (subst (λ (g : List (List ℕ)). Holds live (UpFrom g (Has wanted))) same holds)

-- the session of strays is not on its way
pub stray_closed : (d : Database) (strays : List (List ℕ)) (session : Holding)
    → IsStraySession d strays session → session.begun ≡ false
stray_closed d strays session (live, counts, members, stands) =
    ap (λ (h : Holding). h.begun) stands

-- past the gate strays are lowered as it is asked
pub lowers_past : {R L : Type 0} (ending : Ending) (d : Database) (ask : SessionAsk)
    (strays : List (List ℕ)) (written gained : Option (List ℕ))
    (gate : SessionGate R L) (old new : Holding) → IsGateFor d ask.making gate
    → IsStraySession d strays old
    → LowersOn (IsDoneAs ask.workers (gate_answers gate) (gate_gives gate)) ending strays
    written gained old new
    → IsDoneFor d ask.workers ask.making
    (λ Does As. LowersAs As ending d strays written gained)
lowers_past ending d ask strays written gained gate old new made stands lowers =
    past_gate d ask.workers ask.making gate None
    (λ Does As. LowersAs As ending d strays written gained) made
    (λ fails lets. (old, new, stands, lowers))

-- a line that says so lowers strays
pub lowers_said : (As : EndsIn) (ending : Ending) (strays names : List (List ℕ)) (said : Saying)
    (written gained : Option (List ℕ)) (old new : Holding)
    → said ≡ step_by false (step_ask DownAll names) → names ≡ strays
    → ((text : List ℕ) × Ends As ending old.database old.line said text new.line
    × Appends written gained text)
    → LowersOn As ending strays written gained old new
lowers_said As ending strays names said written gained old new says same ended = (
  ended.0,
  subst (λ (s : Saying). Ends As ending old.database old.line s ended.0 new.line)
      (says ∙ ap (λ (ns : List (List ℕ)). step_by false (step_ask DownAll ns)) same) ended.1,
  ended.2,
)

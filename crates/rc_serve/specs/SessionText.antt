-- What an input comes to where certain transitions fail: its bytes are determined, and no
-- workers and no events occur in it.
use Rattle.std.specs.Prelude.{◌≡◌, ◌⊎◌, ◌↔◌, ℕ, Bool, true, false, List, [], length, All, Option}
use Rattle.std.specs.Io.KnownBytes.{Consumes}
use Rattle.rc_model.specs.Names.{Has, Holds}
use Rattle.rc_graph.specs.declared.Way.{Way}
use Rattle.rc_model.specs.Database.{Database}
use Rattle.rc_model.specs.Plan.{PlanSets}
use Rattle.rc_model.specs.declared.Outcome.{Outcome}
use Rattle.rc_model.specs.Run.{course_of, is_success}
use Rattle.rc_core.specs.End.{EndOf}
use Rattle.rc_core.specs.Failing.{WouldFail, IsTriedInVain, IsBlocked}
use Rattle.rc_model.specs.Line.{IsGained, Line, Lists}
use Rattle.rc_model.specs.Session.{Command, Change, Undo, Redo, Add, Delete, Reported, IsTask}
use Rattle.rc_model.specs.Session.{MovesBy}
use Rattle.rc_session.specs.Holding.{Holding}
use Rattle.rc_render.specs.ReportText.{report_text}
use Rattle.rc_script.specs.Says.{Saying, SaysStep, Says}
use Rattle.rc_streams.specs.Exchange.{Exchange}
use Rattle.rc_serve.specs.Meeting.{Doing, IsEdited}
use Rattle.rc_serve.specs.Serving.{AreLines, Serves, ServesAll}

-- a report of these lists, and of nothing else
abbrev pub listing : (lowered raised failed blocked kept : List ℕ) → Reported
listing lowered raised failed blocked kept = record {
  opening = [];
  lowered = lowered;
  raised = raised;
  failed = failed;
  blocked = blocked;
  untried = [];
  kept = kept;
  stopped = false;
  trace = [];
}

-- a command that a run carries out ends where the transitions that fail leave it: what is live,
-- what failed and what was blocked are what the definitions name, and that is answered
pub record EndsFailing (fails : ℕ → Way → Bool) (d : Database) (here : Line) (command : Command)
    (text : List ℕ) (new : Line) : Type 0 where
  pub plan : PlanSets
  pub deadline : Option ℕ
  pub live : List Bool
  pub lowered : List ℕ
  pub raised : List ℕ
  pub failed : List ℕ
  pub blocked : List ℕ
  pub kept : List ℕ
  pub task : IsTask d here command 0 plan deadline
  pub bound : length live ≡ length plan.opening
  pub ends : Holds live (EndOf (course_of d.needs plan deadline)
      (WouldFail (course_of d.needs plan deadline) fails))
  pub moved : MovesBy here command live new
  pub all_lowered : Lists (IsGained live plan.opening) lowered
  pub all_raised : Lists (IsGained plan.opening live) raised
  pub all_failed : Lists (IsTriedInVain (course_of d.needs plan deadline) fails) failed
  pub all_blocked : Lists (IsBlocked (course_of d.needs plan deadline) fails) blocked
  pub all_kept : Lists (Has plan.kept) kept
  pub told : text ≡ report_text d.names (listing lowered raised failed blocked kept)

-- a command is done where these transitions fail
abbrev pub IsDoneFailing : (ℕ → Way → Bool) → Doing
IsDoneFailing fails d here command text new =
    EndsFailing fails d here command text new ⊎ IsEdited d here command text new

-- the text of a session: the answers to the lines of its input where these transitions fail, and
-- the line of states from then on
abbrev pub SessionText : (ℕ → Way → Bool) → Database → Line → List ℕ → List ℕ → Line → Type 0
SessionText fails d here bytes text new = (lines : List (List ℕ)) × AreLines lines bytes []
    × Serves (IsDoneFailing fails) d here lines text new

-- the whole input was read, and what was written is the text of the session
abbrev pub ServesFailing : (ℕ → Way → Bool) → Exchange → Holding → Holding → Type 0
ServesFailing fails = ServesAll (IsDoneFailing fails)

-- a gate that may answer so lets exactly these transitions fail
abbrev pub FailsExactly : (ℕ → Way → Outcome → Type 0) → (ℕ → Way → Bool) → Type 0
FailsExactly Answers fails = (s : ℕ) (way : Way) (o : Outcome) → Answers s way o →
    (is_success o ≡ true) ↔ (fails s way ≡ false)

-- the limit of a command, 0 for none
abbrev pub limit_of : Command → ℕ
limit_of (Change ask events) = ask.limit
limit_of (Undo limit events) = limit
limit_of (Redo limit events) = limit
limit_of (Add name contents force) = 0
limit_of (Delete words force) = 0

-- what is said has no limit that counts
abbrev pub HasNoLimit : Saying → Type 0
HasNoLimit (SaysStep command) = limit_of command ≡ 0
HasNoLimit other = Unit {0}

-- a line has no limit
abbrev pub IsUnlimited : List ℕ → Type 0
IsUnlimited bytes = (saying : Saying) → Says bytes saying → HasNoLimit saying

-- no limit is ever reached: the gate gives no moment but 0, or no line at the
-- beginning of the input has one
abbrev pub IsTimeless : (Gives : ℕ → Type 0) → (input : Option (List ℕ)) → Type 0
IsTimeless Gives input = ((m : ℕ) → Gives m → m ≡ 0)
    ⊎ ((left : Option (List ℕ)) (bytes rest : List ℕ) (lines : List (List ℕ)) →
    Consumes input left bytes → AreLines lines bytes rest → All IsUnlimited lines)

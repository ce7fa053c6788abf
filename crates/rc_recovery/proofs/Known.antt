-- What the laws of the crates below say, for the proofs of this one.
use Rattle.std.proofs.Common.{◌≡◌, ℕ, List, [], ◌++◌, Result}
use Rattle.rc_model.specs.declared.Event.{Event}
use Rattle.rc_model.specs.declared.Refusal.{Refusal}
use Rattle.rc_model.specs.Database.{Database, IsDatabase}
use Rattle.rc_model.specs.Headline.{HasRun}
use Rattle.rc_model.specs.Line.{Line}
use Rattle.rc_model.specs.Run.{Course, IsRun, NoneHeld}
use Rattle.rc_model.specs.Session.{Answers, Command, IsLineOf, IsRunFault, Reported}
use Rattle.rc_livetext.specs.LiveFaults.{IsLiveFault}
use Rattle.rc_livetext.specs.Spelling.{Spells, spelling}
use Rattle.rc_livetext.specs.declared.fault.LiveFault.{LiveFault}
use Rattle.rc_livetext.specs.declared.fault.LiveFault.TheVariants as live_fault
use Rattle.rc_script.specs.Script.{IsScript, IsScriptFault}
use Rattle.rc_script.specs.declared.script.ScriptFault.{ScriptFault}
use Rattle.rc_script.specs.declared.script.ScriptFault.TheVariants as script_fault
use Rattle.rc_recovery.specs.Ends.{with_ends}
use Rattle.rc_recovery.specs.Recovering.{IsCutShort, called_off}

-- a script gives one list of commands, and no fault
pub record Scripts : Type 0 where
  pub one : (names : List (List ℕ)) (text : List ℕ) (a b : List Command)
      → IsScript names text a → IsScript names text b → a ≡ b
  pub right : (names : List (List ℕ)) (text : List ℕ) (commands : List Command)
      (fault : ScriptFault) → IsScript names text commands → IsScriptFault names text fault
      → fault ≡ script_fault.Memory

pub record Laws : Type 0 where
  pub scripts : Scripts
  pub apart : (d e : Database) (a b : Line) (rest : List ℕ) → IsDatabase d → IsDatabase e
      → IsLineOf d a → IsLineOf e b → spelling d a ++ rest ≡ spelling e b → rest ≡ []
  pub one_line : (d : Database) (bytes : List ℕ) (a b : Line) → IsDatabase d
      → IsLineOf d a → IsLineOf d b → Spells d bytes a → Spells d bytes b → a ≡ b
  pub readable : (d : Database) (line : Line) (fault : LiveFault) → IsDatabase d
      → IsLineOf d line → IsLiveFault d (spelling d line) fault → fault ≡ live_fault.Memory
  pub one_answer : (d : Database) (line a b : Line) (command : Command)
      (x y : Result Reported Refusal) → Answers d line command x a → Answers d line command y b
      → (x ≡ y) × (a ≡ b)
  pub keeps : (d : Database) (line new : Line) (command : Command)
      (answer : Result Reported Refusal) → IsLineOf d line → Answers d line command answer new
      → IsLineOf d new
  pub not_refused : (d : Database) (line : Line) (command : Command) (refusal : Refusal)
      → HasRun command → IsCutShort d line command
      → IsRunFault d line (called_off command) refusal → ⊥
  pub runs : (c : Course) (logged : List Event) → IsRun c logged
      → IsRun c (with_ends logged) × NoneHeld (with_ends logged)

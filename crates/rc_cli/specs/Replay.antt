-- What `replay` prints, and when it refuses.
use Rattle.std.specs.Prelude.{ℕ, List, Option}
use Rattle.rc_model.specs.Database.{Database}
use Rattle.rc_dbtext.specs.Base.{Spells}
use Rattle.rc_script.specs.Script.{IsScriptFault}
use Rattle.rc_script.specs.declared.script.ScriptFault.{ScriptFault}
use Rattle.rc_cli.specs.Faults.{IsFromScript}
use Rattle.rc_cli.specs.Played.{IsReplay}
use Rattle.rc_cli.specs.declared.fault.Fault.{Fault}

-- what is printed: what the script after the database comes to
abbrev pub IsReplayFor : Option (List ℕ) → (input output : List ℕ) → Type 0
IsReplayFor base input output =
    (d : Database) × (rest : List ℕ) × Spells base input d rest × IsReplay d rest output

-- why a script comes to nothing: its first line that may not stand where it does, or out of memory
abbrev pub IsReplayFault : List (List ℕ) → List ℕ → Fault → Type 0
IsReplayFault names script fault =
    (wrong : ScriptFault) × IsScriptFault names script wrong × IsFromScript wrong fault

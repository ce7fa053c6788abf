-- The gate by which the transitions of a session are made.
use Rattle.std.specs.Prelude.{◌≡◌, [], Bool, true, false, Option, option_map}
use Rattle.rc_model.specs.Database.{Database}
use Rattle.rc_runner.specs.Shell.{scripts_of}
use Rattle.rc_streams.specs.declared.output_folder.OutputFolder.{OutputFolder}
use Rattle.rc_runner.specs.declared.session_gate.SessionGate.{SessionGate}
use Rattle.rc_runner.specs.declared.session_gate.SessionGate.TheVariants.{Table, Shell}
use Rattle.rc_args.specs.Programs.{ByPrograms, ByTable, MakingAsk, controller_in, listed_in}
use Rattle.rc_args.specs.Programs.{runner_in}
use Rattle.rc_args.specs.declared.verbosity.Verbosity.{Verbosity}
use Rattle.rc_args.specs.declared.verbosity.Verbosity.TheVariants.{Failures, Quiet, Transitions}
use Rattle.rc_serve.specs.declared.fault.ServeFault.TheVariants.{Memory}
use Rattle.rc_cli.specs.Finding.{AreFound, IsFirstUnknown}
use Rattle.rc_cli.specs.declared.sessions.host.RunFiles.{RunFiles}
use Rattle.rc_cli.specs.declared.sessions.session_fault.SessionFault.{SessionFault}
use Rattle.rc_cli.specs.declared.sessions.session_fault.SessionFault.TheVariants.{Unknown, Failed}

-- a gate makes the transitions of a database as it is asked: by a table of those that fail, in
-- which no limit is reached, or by these programs
abbrev pub IsGateFor : {R L : Type 0} → Database → MakingAsk → SessionGate R L → Type 0
IsGateFor d (ByTable listed) (Table table) =
    AreFound d.names listed table.failing × (table.moments ≡ [])
IsGateFor d (ByTable listed) (Shell shell) = ⊥
IsGateFor d (ByPrograms runner controller limit) (Table table) = ⊥
IsGateFor d (ByPrograms runner controller limit) (Shell shell) =
    shell.scripts ≡ scripts_of d (runner_in runner) (controller_in controller) limit

-- what programs write is shown where each transition is reported
abbrev pub shows_writes : Verbosity → Bool
shows_writes Quiet = false
shows_writes Failures = false
shows_writes Transitions = true

-- a gate that starts programs shows what they write where each transition is reported, and keeps it
-- in this directory, if there is one; its runs are logged and called off by these files, if there
-- are any, and logged as steps where they are some
abbrev pub IsOnFiles : {R L : Type 0} → Verbosity → Option OutputFolder → Option RunFiles
    → (is_step : Bool) → SessionGate R L → Type 0
IsOnFiles verbosity outputs files is_step (Table table) = Unit {0}
IsOnFiles verbosity outputs files is_step (Shell shell) = (shell.shows ≡ shows_writes verbosity)
    × (shell.outputs ≡ outputs) × (shell.log ≡ option_map (λ f. f.log) files)
    × (shell.steps ≡ option_map (λ f. is_step) files)
    × (shell.stop ≡ option_map (λ f. f.stop) files)

-- why there is no such gate: the first name that is to fail and is no service's, or out of memory
abbrev pub IsGateless : Database → MakingAsk → SessionFault → Type 0
IsGateless d making (Unknown word) = IsFirstUnknown d.names (listed_in making) word.now
IsGateless d making (Failed fault) = fault ≡ Memory
IsGateless d making other = ⊥

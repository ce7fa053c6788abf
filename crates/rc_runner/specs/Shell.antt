-- What a gate that starts programs may answer.
use Rattle.std.specs.Prelude.{◌≡◌, ◌≢◌, ◌+◌, ◌/◌, ◌≤◌, ◌++◌, ◌∷◌, ◌⊎◌, ℕ, List, [], Option, Some}
use Rattle.std.specs.Prelude.{None, Bool, false, slice_get, codes, decimal, ◌==◌, if◌then◌else◌}
use Rattle.std.specs.Process.{command_program, command_args, command_var}
use Rattle.std.specs.declared.process.command.Command.{Command}
use Rattle.rc_model.specs.declared.Kind.{Kind}
use Rattle.rc_model.specs.declared.Kind.TheVariants.{Oneshot, Longrun, Bundle}
use Rattle.rc_graph.specs.declared.Way.{Way}
use Rattle.rc_graph.specs.declared.Way.TheVariants.{Raise, Lower}
use Rattle.rc_model.specs.declared.Outcome.{Outcome}
use Rattle.rc_model.specs.declared.Outcome.TheVariants as outcome
use Rattle.rc_model.specs.Database.{Service, Database}
use Rattle.rc_db.specs.Service.{limit_of}
use Rattle.rc_streams.specs.declared.output_folder.OutputFolder.{OutputFolder}
use Rattle.rc_streams.specs.declared.run_file.RunFile.{RunFile}
use Rattle.rc_streams.specs.declared.stop_file.StopFile.{StopFile}

-- what is kept of a database, the words of the program that runs the texts of oneshots and of the
-- one that moves longruns, and the limit of services without one of their own, 0 for none
pub record Scripts : Type 0 where
  pub names : List (List ℕ)
  pub services : List Service
  pub runner : List (List ℕ)
  pub controller : List (List ℕ)
  pub limit : ℕ

-- what is kept of a database with these programs and this usual limit
abbrev pub scripts_of : Database → List (List ℕ) → List (List ℕ) → ℕ → Scripts
scripts_of d runner controller limit = record {
  names = d.names;
  services = d.services;
  runner = runner;
  controller = controller;
  limit = limit;
}

-- a gate that starts programs: what it is to run, whether what they write is shown, the directory
-- in which it is kept, and the files in which its runs are logged and by which they are called off,
-- if there are any; and whether its runs are logged as those of a command of several steps
pub record Starting : Type 0 where
  pub scripts : Scripts
  pub shows : Bool
  pub outputs : Option OutputFolder
  pub log : Option RunFile
  pub steps : Option Bool
  pub stop : Option StopFile

-- one that shows, keeps and logs nothing, and that nothing calls off
abbrev pub quiet : Scripts → Starting
quiet scripts =
    record {
      scripts = scripts;
      shows = false;
      outputs = None;
      log = None;
      steps = None;
      stop = None;
    }

-- a limit of one's own, or the usual one where that is 0
abbrev pub limit_or : (own usual : ℕ) → ℕ
limit_or own usual = if own == 0 then usual else own

-- how long a service may take on its way, in milliseconds, 0 for no limit
abbrev pub limit_for : Scripts → Service → Way → ℕ
limit_for g s way = limit_or (limit_of s way) g.limit

-- the text that is run for a service on its way, if there is one
abbrev pub text_of : Service → Way → Option (List ℕ)
text_of s Raise = s.text_up
text_of s Lower = s.text_down

-- the word that tells a controller which way a service is to go
abbrev pub word_of : Way → List ℕ
word_of Raise = codes "up"
word_of Lower = codes "down"

-- milliseconds in whole seconds, rounded up
abbrev pub seconds_of : ℕ → ℕ
seconds_of limit = (limit + 999) / 1000

-- a program and its words: those of a list, and further ones after them
abbrev pub Runs : {A : Type 0} → List (List ℕ) → List (List ℕ) → Command A → Type 0
Runs words more command = command_program command ∷ command_args command ≡ words ++ more

-- what a program is told in its environment: the service, the way that it is to go, and how long it
-- may take, in milliseconds, 0 for no limit
abbrev pub IsTold : {A : Type 0} → List ℕ → Way → ℕ → Command A → Type 0
IsTold name way limit command =
    (command_var command (codes "UNDORC_NAME") ≡ Some (Some name))
    × (command_var command (codes "UNDORC_WAY") ≡ Some (Some (word_of way)))
    × (command_var command (codes "UNDORC_LIMIT") ≡ Some (Some (decimal limit)))

-- how a program that is to be started may end under a limit in seconds, 0 for none: only under a
-- limit may it take too long, and some statuses then tell something else than a failure
abbrev pub MayEnd : ℕ → Outcome → Type 0
MayEnd limit outcome.Ok = Unit {0}
MayEnd limit (outcome.Failed n) =
    (1 ≤ n) × (n ≤ 255) × ((limit ≡ 0) ⊎ ((n ≢ 124) × (n ≢ 126) × (n ≢ 127)))
MayEnd limit outcome.TimedOut = limit ≢ 0
MayEnd limit outcome.NotStarted = Unit {0}

-- how what these words call may end under a limit in milliseconds: without a word nothing is
-- started
abbrev pub MayCall : List (List ℕ) → ℕ → Outcome → Type 0
MayCall [] limit o = o ≡ outcome.NotStarted
MayCall (program ∷ words) limit o = MayEnd (seconds_of limit) o

-- how a text may end with this runner: without a text there is nothing to do
abbrev pub MayRun : List (List ℕ) → Option (List ℕ) → ℕ → Outcome → Type 0
MayRun runner None limit o = o ≡ outcome.Ok
MayRun runner (Some text) limit o = MayCall runner limit o

-- how a service of this kind may end: a oneshot by its text, a longrun by the controller
abbrev pub MayMove : Scripts → Kind → Service → Way → Outcome → Type 0
MayMove g Oneshot s way o = MayRun g.runner (text_of s way) (limit_for g s way) o
MayMove g Longrun s way o = MayCall g.controller (limit_for g s way) o
MayMove g Bundle s way o = o ≡ outcome.NotStarted

-- what may be answered for what stands at a place: where there is no service, nothing is started
abbrev pub MayTell : Scripts → Option Service → Way → Outcome → Type 0
MayTell g None way o = o ≡ outcome.NotStarted
MayTell g (Some s) way o = MayMove g s.kind s way o

-- what the gate may answer for a service and the way that it is to go
abbrev pub MayAnswer : Scripts → ℕ → Way → Outcome → Type 0
MayAnswer g s way o = MayTell g (slice_get g.services s) way o

-- What a session comes to that is launched, with its status and what is told.
use Rattle.std.specs.Prelude.{◌≡◌, ◌⊎◌, ℕ, List, Option, None, false, map, string_bytes}
use Rattle.clap.specs.Words.{Text as Path}
use Rattle.rc_model.specs.Database.{Database}
use Rattle.rc_model.specs.Line.{Line}
use Rattle.rc_serve.specs.declared.ending.Ending.{Ending}
use Rattle.rc_serve.specs.declared.ending.Ending.TheVariants.{Refused}
use Rattle.rc_args.specs.OnceAsked.{once_saying_of}
use Rattle.rc_cli.specs.Filing.{BeginsBy, CannotKeep, file_named}
use Rattle.rc_cli.specs.Putting.{LeadsLine, Putting}
use Rattle.rc_cli.specs.Restarting.{LeadsBack}
use Rattle.rc_cli.specs.Services.{OfLines}
use Rattle.rc_cli.specs.Session.{Asked, Dealing, Opens}
use Rattle.rc_cli.specs.SessionFaults.{ComesBy, EndsAs}
use Rattle.rc_cli.specs.Steps.{lowering}
use Rattle.rc_cli.specs.declared.sessions.service.Service.{Service}
use Rattle.rc_cli.specs.declared.sessions.service.Service.TheVariants.{Lines, Line as OneLine}
use Rattle.rc_cli.specs.declared.sessions.service.Service.TheVariants.{Restart}

-- a session was served to its end, with the status of how that is, and nothing told; or a fault is
-- told: a refusal, or a failure of the reader, of the writer or of the file only where that one has
-- failed. Without a base lines are read of the input that was read before
abbrev pub Launches : Service → Asked → (status : ℕ) → Dealing → (reader writer keeper : Type 0)
    → (before after : Option (List ℕ)) → Type 0
Launches service asked status deal reader writer keeper before after = EndsAs
    (λ ended. ComesBy ended service asked deal (reader ⊎ OfLines service (asked.base ≡ None)) writer
    (CannotKeep asked.ask asked.file keeper))
    status before after

-- a service ended so on a session, and has led its store so: one line, or the two steps of a
-- restart
abbrev pub LeadsFor : {S : Type 0} → Putting S → Service → Option Path → Ending → Database → Line
    → (was is : S) → Type 0
LeadsFor Put Lines path ending d here was is = Unit {0}
LeadsFor Put (OneLine once) path ending d here was is =
    (new : Line) × LeadsLine Put path ending d (once_saying_of once.now) here new was is
LeadsFor Put (Restart names) path ending d here was is =
    LeadsBack Put path ending (lowering false (map string_bytes names.now)) d here was is

-- and so from where its session begins
abbrev pub LeadsBegun : {S : Type 0} → Putting S → Service → Asked → Ending
    → (remaining after : Option (List ℕ)) → (was is : S) → Type 0
LeadsBegun Put service asked ending remaining after was is =
    (d : Database) × (input : Option (List ℕ)) × (left : Option (List ℕ))
    × Opens asked.base remaining after d input left × (start : Line)
    × BeginsBy d asked.ask.bound (file_named asked.ask.live asked.file) start
    × LeadsFor Put service asked.ask.live ending d start was is

-- a session that is refused before it begins leaves its store alone
abbrev pub LeadsLaunched : {S : Type 0} → Putting S → Service → Asked → Ending
    → (remaining after : Option (List ℕ)) → (was is : S) → Type 0
LeadsLaunched Put service asked ending remaining after was is =
    ((ending ≡ Refused) × (is ≡ was))
    ⊎ LeadsBegun Put service asked ending remaining after was is

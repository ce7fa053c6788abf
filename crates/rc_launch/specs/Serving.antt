-- What a command comes to on what was read for it.
use Rattle.std.specs.Prelude.{◌≡◌, ℕ, Bool, true, false, List, [], Option}
use Rattle.std.specs.Prelude.{option_map, IfOk, OnErr}
use Rattle.std.specs.Prelude.{Result, map, string_bytes}
use Rattle.rc_args.specs.NamedAsked.{named_ask_of}
use Rattle.rc_args.specs.SessionAsked.{session_ask_of}
use Rattle.rc_args.specs.UpdateAsked.{update_ask_of}
use Rattle.rc_args.specs.declared.named_words.NamedRequest.{NamedRequest}
use Rattle.rc_args.specs.declared.once_words.OnceRequest.{OnceRequest}
use Rattle.rc_cli.specs.Checking.{TellsCheck}
use Rattle.rc_cli.specs.Sealing.{SealsAs}
use Rattle.rc_cli.specs.Status.{RunLog, TellsStatus}
use Rattle.rc_cli.specs.UpdateEnds.{Updates}
use Rattle.log.specs.declared.level.LevelFilter.{LevelFilter}
use Rattle.rc_cli.specs.Deciding.{IsFound, level_by}
use Rattle.rc_cli.specs.Filing.{IsUnread}
use Rattle.rc_cli.specs.Launching.{Launches}
use Rattle.rc_cli.specs.Session.{Dealing, asked_with}
use Rattle.rc_cli.specs.declared.sessions.keeping.LiveFile.{LiveFile}
use Rattle.rc_cli.specs.declared.sessions.service.Service.{Service}
use Rattle.rc_cli.specs.declared.sessions.service.Service.TheVariants.{Lines, Line as OneLine}
use Rattle.rc_cli.specs.declared.sessions.service.Service.TheVariants.{Restart}
use Rattle.rc_launch.specs.declared.loading.Loaded.{Loaded}
use Rattle.rc_launch.specs.declared.texts.FileText.{FileText}
use Rattle.rc_args.specs.declared.session_command.SessionCommand.{SessionCommand}
use Rattle.rc_args.specs.declared.session_command.SessionCommand.TheVariants as command
use Rattle.rc_launch.specs.declared.opened.Note.{Note}
use Rattle.rc_launch.specs.declared.opened.Note.TheVariants as note
use Rattle.rc_launch.specs.Loading.{bytes_in, bytes_of, session_in}

-- what was read of the run log
abbrev pub logged_of : Note → RunLog
logged_of (note.Logged seen) = record { text = seen.log.bytes.items; is_cut = seen.is_cut }
logged_of other = record { text = []; is_cut = false }

-- what stood in a file as it was read
abbrev pub IsReadAs : {E B : Type 0} → (B → List ℕ) → Result (Option B) E → LiveFile → Type 0
IsReadAs bytes found file = IfOk found (λ held. IsFound (option_map bytes held) file)
    × OnErr found (IsUnread file)

-- whether a command keeps its states as steps where it is launched
abbrev pub takes_steps : SessionCommand → Bool
takes_steps (command.Update request) = true
takes_steps (command.Restart request) = true
takes_steps other = false

-- whether a restart is launched, both steps of which are kept as such
abbrev pub is_restart : Service → Bool
is_restart (Restart names) = true
is_restart other = false

-- a session of the one line of a request
abbrev pub IsLineOf : OnceRequest → Service → Type 0
IsLineOf request (OneLine once) = once.now ≡ request.once
IsLineOf request other = ⊥

-- a restart of the names of a request
abbrev pub IsRestartOf : NamedRequest → Service → Type 0
IsRestartOf request (Restart names) = map string_bytes names.now ≡ (named_ask_of request).names
IsRestartOf request other = ⊥

-- up to which level messages are written
abbrev pub IsLogFor : Loaded → LevelFilter → Type 0
IsLogFor loaded level = level ≡ level_by (session_in loaded).verbosity

-- a command was carried out on what was read, with this status: as a session of lines, or of one
-- line, as an update, a restart, a seal, a status or a check
abbrev pub CarriesOut : SessionCommand → (base new : Option FileText) → RunLog → LiveFile
    → (status : ℕ) → Dealing → (reader writer keeper : Type 0)
    → (before after : Option (List ℕ)) → Type 0
CarriesOut (command.Lines request) base new log file status deal reader writer keeper before
    after =
    Launches Lines (asked_with (session_ask_of request) (option_map bytes_in base) file) status
    deal reader writer keeper before after
CarriesOut (command.Line request) base new log file status deal reader writer keeper before after =
    (service : Service) × IsLineOf request service
    × Launches service (asked_with (session_ask_of request.session) (option_map bytes_in base) file)
    status deal reader writer keeper before after
CarriesOut (command.Update request) base new log file status deal reader writer keeper before
    after =
    Updates (bytes_of base) (bytes_of new) (update_ask_of request) file status deal.was deal.is
    deal.io.written deal.io.gained writer keeper before after
CarriesOut (command.Restart request) base new log file status deal reader writer keeper before
    after =
    (service : Service) × IsRestartOf request service
    × Launches service (asked_with (session_ask_of request.session) (option_map bytes_in base) file)
    status deal reader writer keeper before after
CarriesOut (command.Seal request) base new log file status deal reader writer keeper before after =
    SealsAs (bytes_of base) request.bound file status deal.was deal.is deal.io.written
    deal.io.gained writer keeper before after
CarriesOut (command.Status request) base new log file status deal reader writer keeper before
    after =
    TellsStatus (bytes_of base) (named_ask_of request) file log status writer
    deal.io.written deal.io.gained before after
CarriesOut (command.Check request) base new log file status deal reader writer keeper before after =
    TellsCheck (bytes_of base) (named_ask_of request) file status writer deal.io.written
    deal.io.gained before after

-- the same of a command that was loaded
abbrev pub Carries : Loaded → RunLog → LiveFile → (status : ℕ) → Dealing
    → (reader writer keeper : Type 0)
    → (before after : Option (List ℕ)) → Type 0
Carries loaded log file status deal reader writer keeper before after =
    CarriesOut loaded.command loaded.base loaded.new log file status deal reader writer keeper
    before after

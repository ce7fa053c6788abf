-- What the words ask, of whichever command.
use Rattle.std.specs.Prelude.{◌≡◌, ◌⊎◌, ℕ, Bool, List, Option, None, Some, codes, false}
use Rattle.std.specs.Prelude.{option_map}
use Rattle.std.specs.Borrow.{Bor}
use Rattle.clap.specs.Words.{Row, Text, first_of}
use Rattle.rc_model.specs.Plan.{Ask}
use Rattle.rc_select.specs.Ask.{ask_of}
use Rattle.rc_args.specs.Words.{is_on, rows_for}
use Rattle.rc_args.specs.Asked.{ask_in}
use Rattle.rc_args.specs.CommandWords.{Meaning, meaning_of}
use Rattle.rc_args.specs.CompileAsked.{AsksCompileIn, CompileAsk, compile_ask_of}
use Rattle.rc_args.specs.OnceAsked.{AsksOnceIn, LacksFile, OnceAsk, once_ask_of}
use Rattle.rc_args.specs.OnceAsked.{once_command}
use Rattle.rc_args.specs.DbAsked.{AsksIn, DbAsk, db_ask_of}
use Rattle.rc_args.specs.SessionAsked.{AsksLinesIn, AsksSessionIn, SessionAsk, session_ask_of}
use Rattle.rc_args.specs.NamedAsked.{AsksNamesIn, NamedAsk, named_ask_of}
use Rattle.rc_args.specs.UpdateAsked.{AsksUpdateIn, UpdateAsk, update_ask_of}
use Rattle.rc_args.specs.Defaults.{DefaultsAsk, first_named, session_by}
use Rattle.rc_args.specs.declared.invocation.Invocation.{Invocation}
use Rattle.rc_args.specs.declared.invocation.Invocation.TheVariants as invocation
use Rattle.rc_args.specs.declared.session_command.SessionCommand.{SessionCommand}
use Rattle.rc_args.specs.declared.session_command.SessionCommand.TheVariants as command
use Rattle.rc_args.specs.declared.session_request.SessionRequest.{SessionRequest}
use Rattle.rc_args.specs.declared.asked.WordsFault.{WordsFault}
use Rattle.rc_args.specs.declared.asked.WordsFault.TheVariants.{Files, NoFile, Session}

-- what is asked of a command, and the file of `-b` or, of `cancel`, that of `-l`, if one is named
pub data InvocationAsk : Type 0 where
  OfCompile : CompileAsk → InvocationAsk
  OfDb : DbAsk → Option Text → InvocationAsk
  OfPlan : Ask → Option Text → InvocationAsk
  OfReplay : Option Text → InvocationAsk
  OfSession : SessionAsk → Option Text → InvocationAsk
  OfOnce : OnceAsk → Option Text → InvocationAsk
  OfUpdate : UpdateAsk → Option Text → InvocationAsk
  OfRestart : NamedAsk → Option Text → InvocationAsk
  OfSeal : SessionAsk → Option Text → InvocationAsk
  OfStatus : NamedAsk → Option Text → InvocationAsk
  OfCheck : NamedAsk → Option Text → InvocationAsk
  OfCancel : (kills : Bool) → Option Text → InvocationAsk
  OfVersion : InvocationAsk

-- the command that is asked
abbrev pub command_of : InvocationAsk → Text
command_of (OfCompile ask) = codes "compile"
command_of (OfDb ask file) = codes "db"
command_of (OfPlan ask file) = codes "plan"
command_of (OfReplay file) = codes "replay"
command_of (OfSession ask file) = codes "session"
command_of (OfOnce ask file) = once_command ask.what
command_of (OfUpdate ask file) = codes "update"
command_of (OfRestart ask file) = codes "restart"
command_of (OfSeal ask file) = codes "seal"
command_of (OfStatus ask file) = codes "status"
command_of (OfCheck ask file) = codes "check"
command_of (OfCancel kills file) = codes "cancel"
command_of OfVersion = codes "version"

-- the file of `-b` in the matches of a command
abbrev pub file_in : List Row → Option Text
file_in rows = first_of (codes "base") rows

-- the matches of the command ask this, where this flag counts as given
abbrev pub InvokesIn : (flag : Text) → List Row → InvocationAsk → Type 0
InvokesIn flag rows (OfCompile ask) = AsksCompileIn rows ask
InvokesIn flag rows (OfDb ask file) = AsksIn rows ask × (file ≡ file_in rows)
InvokesIn flag rows (OfPlan ask file) = (ask_in rows ≡ Some ask) × (file ≡ file_in rows)
InvokesIn flag rows (OfReplay file) = file ≡ file_in rows
InvokesIn flag rows (OfSession ask file) = AsksLinesIn rows ask × (file ≡ file_in rows)
InvokesIn flag rows (OfOnce ask file) = AsksOnceIn flag rows ask × (file ≡ file_in rows)
InvokesIn flag rows (OfUpdate ask file) = AsksUpdateIn rows ask × (file ≡ file_in rows)
InvokesIn flag rows (OfRestart ask file) =
    (is_on (codes "dry") rows ≡ false) × AsksNamesIn rows ask × (file ≡ file_in rows)
InvokesIn flag rows (OfSeal ask file) = AsksSessionIn rows ask × (file ≡ file_in rows)
InvokesIn flag rows (OfStatus ask file) = AsksNamesIn rows ask × (file ≡ file_in rows)
InvokesIn flag rows (OfCheck ask file) = AsksNamesIn rows ask × (file ≡ file_in rows)
InvokesIn flag rows (OfCancel kills file) =
    (kills ≡ is_on (codes "kill") rows) × (file ≡ first_of (codes "live") rows)
InvokesIn flag rows OfVersion = Unit {0}

-- the matches of this command ask this, with the flag that counts as given
abbrev pub InvokesMeant : Meaning → List Row → InvocationAsk → Type 0
InvokesMeant meaning rows ask =
    (meaning.command ≡ command_of ask) × InvokesIn meaning.flag rows ask

-- the matches of the command that this word stands for ask this
abbrev pub InvokesNamed : Text → List Row → InvocationAsk → Type 0
InvokesNamed name rows ask = InvokesMeant (meaning_of name) rows ask

-- what was entered asks this
abbrev pub InvokesEntered : Option (Text × List Row) → InvocationAsk → Type 0
InvokesEntered entered ask =
    (name : Text) × (rows : List Row) × (entered ≡ Some (name, rows)) × InvokesNamed name rows ask

-- the words ask this
abbrev pub Invokes : List Text → InvocationAsk → Type 0
Invokes words ask =
    (name : Text) × (rows : List Row) × (rows_for name words ≡ Some rows)
    × InvokesNamed name rows ask

-- the words ask nothing of any command: they are a wrong command line
abbrev pub InvokesNothing : List Text → Type 0
InvokesNothing words = (ask : InvocationAsk) → Invokes words ask → ⊥

-- what a command on the file of a session asks, with this file of its database
abbrev pub on_session : SessionCommand → Option Text → InvocationAsk
on_session (command.Lines request) file = OfSession (session_ask_of request) file
on_session (command.Line request) file = OfOnce (once_ask_of request) file
on_session (command.Update request) file = OfUpdate (update_ask_of request) file
on_session (command.Restart request) file = OfRestart (named_ask_of request) file
on_session (command.Seal request) file = OfSeal (session_ask_of request) file
on_session (command.Status request) file = OfStatus (named_ask_of request) file
on_session (command.Check request) file = OfCheck (named_ask_of request) file

-- what such a command asks of the session
abbrev pub command_session : SessionCommand → SessionRequest
command_session (command.Lines request) = request
command_session (command.Line request) = request.session
command_session (command.Update request) = request.session
command_session (command.Restart request) = request.session
command_session (command.Seal request) = request
command_session (command.Status request) = request.session
command_session (command.Check request) = request.session

-- the path of a file, if one is named
abbrev pub path_text : Option (Bor Text) → Option Text
path_text file = option_map (λ f. f.now) file

-- what an invocation of the program asks
abbrev pub invocation_ask_of : Invocation → InvocationAsk
invocation_ask_of (invocation.Compile request) = OfCompile (compile_ask_of request)
invocation_ask_of (invocation.Db request file) = OfDb (db_ask_of request) (path_text file)
invocation_ask_of (invocation.Plan request file) = OfPlan (ask_of request) (path_text file)
invocation_ask_of (invocation.Replay file) = OfReplay (path_text file)
invocation_ask_of (invocation.Session command file) = on_session command (path_text file)
invocation_ask_of (invocation.Cancel kills file) = OfCancel kills (path_text file)
invocation_ask_of invocation.Version = OfVersion

-- the same, with these where nothing is named
abbrev pub invocation_by : DefaultsAsk → InvocationAsk → InvocationAsk
invocation_by defaults (OfCompile ask) = OfCompile ask
invocation_by defaults (OfDb ask file) = OfDb ask (first_named file defaults.base)
invocation_by defaults (OfPlan ask file) = OfPlan ask (first_named file defaults.base)
invocation_by defaults (OfReplay file) = OfReplay (first_named file defaults.base)
invocation_by defaults (OfSession ask file) =
    OfSession (session_by defaults ask) (first_named file defaults.base)
invocation_by defaults (OfOnce ask file) =
    OfOnce (record ask { session = session_by defaults ask.session })
    (first_named file defaults.base)
invocation_by defaults (OfUpdate ask file) =
    OfUpdate (record ask { session = session_by defaults ask.session })
    (first_named file defaults.base)
invocation_by defaults (OfRestart ask file) =
    OfRestart (record ask { session = session_by defaults ask.session })
    (first_named file defaults.base)
invocation_by defaults (OfSeal ask file) =
    OfSeal (session_by defaults ask) (first_named file defaults.base)
invocation_by defaults (OfStatus ask file) =
    OfStatus (record ask { session = session_by defaults ask.session })
    (first_named file defaults.base)
invocation_by defaults (OfCheck ask file) =
    OfCheck (record ask { session = session_by defaults ask.session })
    (first_named file defaults.base)
invocation_by defaults (OfCancel kills file) =
    OfCancel kills (first_named file defaults.live)
invocation_by defaults OfVersion = OfVersion

-- a line that is to go back to a state names no file of its session, or another one none that it
-- needs
abbrev pub LacksForLine : (to : Option ℕ) → OnceAsk → Type 0
LacksForLine None ask = LacksFile ask
LacksForLine (Some state) ask = ask.session.live ≡ None

-- an update names no file of its session, or none of a new database
abbrev pub LacksForUpdate : UpdateAsk → (base : Option Text) → Type 0
LacksForUpdate ask base = (ask.session.live ≡ None) ⊎ ((ask.new ≡ None) × (base ≡ None))

-- a file that the command needs is not named: that of the session, where it needs one, and of an
-- update the new database
abbrev pub LacksItsFile : InvocationAsk → Type 0
LacksItsFile (OfOnce ask file) = LacksForLine ask.to ask
LacksItsFile (OfUpdate ask file) = LacksForUpdate ask file
LacksItsFile (OfRestart ask file) = ask.session.live ≡ None
LacksItsFile (OfSeal ask file) = ask.live ≡ None
LacksItsFile (OfStatus ask file) = ask.session.live ≡ None
LacksItsFile (OfCheck ask file) = ask.session.live ≡ None
LacksItsFile (OfCancel kills file) = file ≡ None
LacksItsFile other = ⊥

-- why a command is refused that lacks its file: the files that it wants
abbrev pub wanted_files : InvocationAsk → WordsFault
wanted_files (OfUpdate ask file) = Files
wanted_files (OfCancel kills file) = Session
wanted_files other = NoFile

-- the words ask this by these defaults, and each file that its command needs is named
abbrev pub InvokesBy : DefaultsAsk → List Text → InvocationAsk → Type 0
InvokesBy defaults words ask = (said : InvocationAsk) × Invokes words said
    × (ask ≡ invocation_by defaults said) × (LacksItsFile ask → ⊥)

-- the words ask nothing, or that of which a file is not named, and this says why
abbrev pub IsUsageFault : DefaultsAsk → List Text → WordsFault → Type 0
IsUsageFault defaults words fault = InvokesNothing words
    ⊎ (said : InvocationAsk) × Invokes words said × LacksItsFile (invocation_by defaults said)
    × (fault ≡ wanted_files (invocation_by defaults said))

-- What is read for a command on the file of a session.
use Rattle.std.specs.Prelude.{◌≡◌, ◌≢◌, ℕ, Bool, List, [], Option, None, Some, false, true}
use Rattle.std.specs.Prelude.{is_some, option_map, unwrap_or}
use Rattle.std.specs.Borrow.{Bor}
use Rattle.rc_args.specs.Invocation.{command_session}
use Rattle.rc_args.specs.OnceAsked.{once_saying_of}
use Rattle.rc_args.specs.SessionAsked.{session_ask_of}
use Rattle.rc_args.specs.declared.session_command.SessionCommand.{SessionCommand}
use Rattle.rc_args.specs.declared.session_command.SessionCommand.TheVariants as command
use Rattle.rc_args.specs.declared.session_request.SessionRequest.{SessionRequest}
use Rattle.rc_cli.specs.Deciding.{Moves}
use Rattle.rc_launch.specs.declared.fault.OpenFault.{OpenFault}
use Rattle.rc_launch.specs.declared.fault.OpenFault.TheVariants.{NoDatabase}
use Rattle.rc_launch.specs.declared.loading.Loaded.{Loaded}
use Rattle.rc_launch.specs.declared.texts.FileText.{FileText}
use Rattle.rc_launch.specs.declared.texts.FoundHistory.{FoundHistory}
use Rattle.rc_launch.specs.declared.texts.LiveText.{LiveText}
use Rattle.rc_launch.specs.declared.texts.ReadFiles.{ReadFiles}

-- something is to be done, and not only shown
abbrev pub MovesBy : SessionCommand → Type 0
MovesBy (command.Lines request) = Unit {0}
MovesBy (command.Line request) = Moves (Some (once_saying_of request.once))
MovesBy (command.Update request) = request.dry ≡ false
MovesBy (command.Restart request) = Unit {0}
MovesBy (command.Seal request) = Unit {0}
MovesBy (command.Status request) = ⊥
MovesBy (command.Check request) = request.repairs ≡ true

-- what is asked of the session
abbrev pub session_in : Loaded → SessionRequest
session_in loaded = command_session loaded.command

-- a session is kept in a file that is named
abbrev pub NamesFile : Loaded → Type 0
NamesFile loaded = (session_ask_of (session_in loaded)).live ≢ None

-- the path of a file that was read, and its bytes
abbrev pub path_of : FileText → Bor (List ℕ)
path_of text = text.path

abbrev pub bytes_in : FileText → List ℕ
bytes_in text = text.bytes.items

-- the bytes of a database that is needed: none, where no file is named
abbrev pub bytes_of : Option FileText → List ℕ
bytes_of text = unwrap_or (option_map bytes_in text) []

-- the path of the new database of an update: the one that it names, or else the file of `-b`
abbrev pub new_by : (named file : Option (Bor (List ℕ))) → Option (Bor (List ℕ))
new_by (Some path) file = Some path
new_by None file = file

abbrev pub new_file : SessionCommand → (file : Option (Bor (List ℕ))) → Option (Bor (List ℕ))
new_file (command.Update request) file = new_by request.new file
new_file other file = None

-- the lines of an input are served
abbrev pub AreLines : SessionCommand → Type 0
AreLines (command.Lines request) = Unit {0}
AreLines other = ⊥

abbrev pub IsOfLines : Loaded → Type 0
IsOfLines loaded = AreLines loaded.command

-- the file of the database of a command: that of its session, where it has a database, and else the
-- one that is named
abbrev pub file_by : Option FoundHistory → (live file : Option (Bor (List ℕ)))
    → Option (Bor (List ℕ))
file_by (Some history) (Some path) file = Some path
file_by (Some history) None file = file
file_by None live file = file

abbrev pub base_file : LiveText → (file : Option (Bor (List ℕ))) → Option (Bor (List ℕ))
base_file live file = file_by live.history live.path file

-- a command needs a database, and does not read one from the input
abbrev pub wants_base : SessionCommand → Bool
wants_base (command.Lines request) = false
wants_base (command.Line request) = is_some request.to
wants_base other = true

-- it has none: its session has no database, and none is named
abbrev pub LacksBase : SessionCommand → (file : Option (Bor (List ℕ))) → LiveText → Type 0
LacksBase command file live = (wants_base command ≡ true) × (base_file live file ≡ None)

-- it is refused so
abbrev pub IsNoDatabase : OpenFault → Type 0
IsNoDatabase (NoDatabase path) = Unit {0}
IsNoDatabase other = ⊥

-- a command with the databases that were read for it
abbrev pub IsLoaded : SessionCommand → (file : Option (Bor (List ℕ))) → LiveText → Loaded → Type 0
IsLoaded command file live loaded = (loaded.command ≡ command)
    × (option_map path_of loaded.base ≡ base_file live file)
    × (option_map path_of loaded.new ≡ new_file command file) × (LacksBase command file live → ⊥)

-- the text of the history that stood in the file of a session, if one did
abbrev pub history_read : ReadFiles → Option (List ℕ)
history_read read = option_map (λ history. history.text.items) read.history

-- The texts of a session and of its database are read.
use Rattle.std.specs.Prelude.{◌≡◌, ◌⊎◌, ℕ, List, [], Option, Some}
use Rattle.std.specs.Borrow.{Bor}
use Rattle.rc_model.specs.Database.{Database}
use Rattle.rc_model.specs.Line.{Line}
use Rattle.rc_dbtext.specs.Base.{Spells}
use Rattle.rc_historytext.specs.Present.{IsPresent}
use Rattle.rc_args.specs.SessionAsked.{session_ask_of}
use Rattle.rc_args.specs.declared.session_request.SessionRequest.{SessionRequest}
use Rattle.rc_cli.specs.Filing.{BeginsBy, file_named}
use Rattle.rc_cli.specs.SessionFaults.{IsFileFault, IsTold, IsUnspelled}
use Rattle.rc_cli.specs.declared.sessions.session_fault.SessionFault.{SessionFault}
use Rattle.rc_cli.specs.declared.sessions.session_fault.SessionFault.TheVariants.{Failed}
use Rattle.rc_serve.specs.declared.fault.ServeFault.TheVariants.{Memory}
use Rattle.rc_cli.specs.declared.sessions.keeping.LiveFile.{LiveFile}
use Rattle.rc_cli.specs.declared.sessions.keeping.LiveFile.TheVariants.{Text}
use Rattle.rc_launch.specs.Loading.{bytes_of, session_in}
use Rattle.rc_launch.specs.Serving.{IsReadAs}
use Rattle.rc_launch.specs.declared.opened.Opened.{Opened}

-- a text is that of a database, and a session of that begins by what stood in its file
abbrev pub AreRead : (base : List ℕ) → SessionRequest → LiveFile → Type 0
AreRead base request file = (d : Database) × Spells (Some base) [] d [] × (start : Line)
    × BeginsBy d request.bound (file_named (session_ask_of request).live file) start

-- the texts that were opened for a command are such
abbrev pub IsOpenedRead : Opened → Type 0
IsOpenedRead opened = (file : LiveFile) × IsReadAs (λ bytes. bytes.items) opened.live.found file
    × AreRead (bytes_of opened.loaded.base) (session_in opened.loaded) file

-- the texts of the present generation of a history are such
abbrev pub IsPresentRead : SessionRequest → (bytes : List ℕ) → Type 0
IsPresentRead request bytes = (database : List ℕ) × (session : Bor (List ℕ))
    × IsPresent bytes database session.now × AreRead database request (Text session)

-- a text is refused as that of a database, or a session of that does not begin by what stood in its
-- file; and this is why
abbrev pub AreRefused : (base : List ℕ) → SessionRequest → LiveFile → SessionFault → Type 0
AreRefused base request file fault = IsUnspelled (Some base) [] fault
    ⊎ ((d : Database) × Spells (Some base) [] d []
    × IsFileFault (file_named (session_ask_of request).live file) d fault)

-- the texts of the present generation of a history are refused so, or memory ran out
abbrev pub IsUnreadFault : SessionRequest → (bytes : List ℕ) → SessionFault → Type 0
IsUnreadFault request bytes fault = (fault ≡ Failed Memory)
    ⊎ ((database : List ℕ) × (session : Bor (List ℕ)) × IsPresent bytes database session.now
    × AreRefused database request (Text session) fault)

-- they are refused, and that is told
abbrev pub IsPresentRefused : SessionRequest → (bytes : List ℕ) → (status : ℕ)
    → (before after : Option (List ℕ)) → Type 0
IsPresentRefused request bytes status before after = (fault : SessionFault)
    × IsUnreadFault request bytes fault × IsTold fault status before after

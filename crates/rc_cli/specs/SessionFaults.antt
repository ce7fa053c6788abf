-- When a session is refused or fails, and how it tells that.
use Rattle.std.specs.Prelude.{◌≡◌, ◌≢◌, ◌⊎◌, ℕ, List, Option, codes, ◌<◌, None, IfSome, length}
use Rattle.std.specs.Prelude.{◌++◌, Result, Ok, Err, string_bytes}
use Rattle.rc_graph.specs.declared.Way.{Way}
use Rattle.rc_livetext.specs.LiveFaults.{IsLiveFault}
use Rattle.rc_livetext.specs.declared.fault.LiveFault.{LiveFault}
use Rattle.rc_livetext.specs.declared.fault.LiveFault.TheVariants as live
use Rattle.rc_model.specs.Database.{Database}
use Rattle.rc_dbtext.specs.declared.fault.TextFault.{TextFault}
use Rattle.rc_dbtext.specs.declared.fault.TextFault.TheVariants as text
use Rattle.rc_streams.specs.declared.input.Failure.{Failure}
use Rattle.rc_streams.specs.declared.input.Failure.TheVariants as failures
use Rattle.rc_streams.specs.Input.{AppendsFront, fault_line}
use Rattle.rc_dbtext.specs.Base.{IsTextFault, Spells}
use Rattle.rc_dbtext.specs.Opening.{Reads}
use Rattle.rc_livetext.specs.LiveFaultWord.{live_word}
use Rattle.rc_dbtext.specs.TextFaultWord.{text_word}
use Rattle.rc_render.specs.UnknownWord.{unknown_word}
use Rattle.rc_serve.specs.Faults.{IsServeFault}
use Rattle.rc_serve.specs.declared.ending.Ending.{Ending}
use Rattle.rc_serve.specs.declared.ending.Ending.TheVariants.{Done, Refused, Hindered}
use Rattle.rc_serve.specs.declared.fault.ServeFault.{ServeFault}
use Rattle.rc_serve.specs.declared.fault.ServeFault.TheVariants.{Read, Write, TooLong, Memory}
use Rattle.rc_serve.specs.declared.fault.ServeFault.TheVariants.{NoThread, Strange, Workers, Io}
use Rattle.rc_args.specs.Listed.{Listed}
use Rattle.rc_args.specs.Programs.{listed_in}
use Rattle.rc_cli.specs.Filing.{FailsToBegin, IsFileRefused, file_named}
use Rattle.rc_cli.specs.Controlled.{IsUncontrolled}
use Rattle.rc_cli.specs.Finding.{AreFound, IsFirstUnknown}
use Rattle.rc_cli.specs.Services.{ComesFor}
use Rattle.rc_cli.specs.Session.{Asked, Dealing, Runs}
use Rattle.rc_cli.specs.declared.sessions.failing.GateFault.{GateFault}
use Rattle.rc_cli.specs.declared.sessions.failing.GateFault.TheVariants as gate
use Rattle.rc_cli.specs.declared.sessions.keeping.LiveFile.{LiveFile}
use Rattle.rc_cli.specs.declared.sessions.service.Service.{Service}
use Rattle.rc_cli.specs.declared.sessions.session_fault.SessionFault.{SessionFault}
use Rattle.rc_cli.specs.declared.sessions.session_fault.SessionFault.TheVariants.{OfText, Unknown}
use Rattle.rc_cli.specs.declared.sessions.session_fault.SessionFault.TheVariants.{OfLive, Failed}
use Rattle.rc_cli.specs.declared.sessions.session_fault.SessionFault.TheVariants.{NoController}

-- it is a refusal, and no failure
abbrev pub IsRefusal : SessionFault → Type 0
IsRefusal (OfText fault) = Unit {0}
IsRefusal (Unknown word) = Unit {0}
IsRefusal (OfLive fault) = Unit {0}
IsRefusal (NoController name) = Unit {0}
IsRefusal (Failed fault) = ⊥

-- each name that is to fail is a service's
abbrev pub AreAllFound : Database → List Listed → Type 0
AreAllFound d listed = (table : List (ℕ × Way)) × AreFound d.names listed table

-- when each refusal comes: those of the database text, then the first name that is to fail and is
-- no service's, then those of the text that stands in the file, and then that of a longrun which
-- no program controls
abbrev pub IsSessionRefused : SessionFault → Service → Asked → List ℕ → Type 0
IsSessionRefused (OfText fault) service asked input =
    (fault ≢ text.Memory) × IsTextFault asked.base input fault
IsSessionRefused (Unknown word) service asked input = (d : Database) × (rest : List ℕ)
    × Spells asked.base input d rest × IsFirstUnknown d.names (listed_in asked.ask.making) word.now
IsSessionRefused (OfLive fault) service asked input = (d : Database) × (rest : List ℕ)
    × Spells asked.base input d rest × AreAllFound d (listed_in asked.ask.making)
    × IsFileRefused d (file_named asked.ask.live asked.file) fault
IsSessionRefused (NoController name) service asked input = (d : Database) × (rest : List ℕ)
    × Spells asked.base input d rest × AreAllFound d (listed_in asked.ask.making)
    × IsUncontrolled service asked d (string_bytes name)
IsSessionRefused (Failed fault) service asked input = ⊥

-- a failure to read the whole input, as a fault of serving
abbrev pub reading_fault : Failure → ServeFault
reading_fault failures.TooLong = TooLong
reading_fault failures.Memory = Memory
reading_fault failures.Read = Read
reading_fault failures.Write = Read

-- why a session was not served: out of memory, or that its file can't be read or written, or
-- without a base that the whole input could not be read, which is too long only above its bound
abbrev pub IsUnserved : ServeFault → Option (List ℕ) → Option (List ℕ) → Type 0
IsUnserved Memory base remaining = Unit {0}
IsUnserved Io base remaining = Unit {0}
IsUnserved Read base remaining = base ≡ None
IsUnserved TooLong base remaining = (base ≡ None) × IfSome remaining (λ all. 16777216 < length all)
IsUnserved Write base remaining = ⊥
IsUnserved NoThread base remaining = ⊥
IsUnserved Strange base remaining = ⊥
IsUnserved Workers base remaining = ⊥

-- why a session does not go on with a text: it is refused, or out of memory
abbrev pub IsTextFaultOf : Database → List ℕ → SessionFault → Type 0
IsTextFaultOf d bytes (OfLive fault) = (fault ≢ live.Memory) × IsLiveFault d bytes fault
IsTextFaultOf d bytes (Failed fault) = fault ≡ Memory
IsTextFaultOf d bytes other = ⊥

-- why it does not begin where this stood in its file: the text there is refused, the file could
-- not be read, or out of memory
abbrev pub IsFileFault : LiveFile → Database → SessionFault → Type 0
IsFileFault file d (OfLive fault) = IsFileRefused d file fault
IsFileFault file d (Failed fault) = FailsToBegin file fault
IsFileFault file d other = ⊥

-- why there is no database of a text: it is refused, or out of memory
abbrev pub IsUnspelled : Option (List ℕ) → List ℕ → SessionFault → Type 0
IsUnspelled base input (OfText fault) = (fault ≢ text.Memory) × IsTextFault base input fault
IsUnspelled base input (Failed fault) = fault ≡ Memory
IsUnspelled base input other = ⊥

-- why a session on a database is not begun: a name that is to fail is no service's; its file is
-- refused, only after that; it would move a longrun that no program controls, only after those;
-- the file could not be read, or out of memory
abbrev pub IsUnready : Service → Asked → Database → SessionFault → Type 0
IsUnready service asked d (OfText fault) = ⊥
IsUnready service asked d (Unknown word) =
    IsFirstUnknown d.names (listed_in asked.ask.making) word.now
IsUnready service asked d (OfLive fault) = AreAllFound d (listed_in asked.ask.making)
    × IsFileRefused d (file_named asked.ask.live asked.file) fault
IsUnready service asked d (NoController name) = AreAllFound d (listed_in asked.ask.making)
    × IsUncontrolled service asked d (string_bytes name)
IsUnready service asked d (Failed fault) =
    (fault ≡ Memory) ⊎ FailsToBegin (file_named asked.ask.live asked.file) fault

-- why the session of a service does not begin: for its file, or for a longrun that it would move
-- and no program controls
abbrev pub IsUnbegun : Service → Asked → Database → SessionFault → Type 0
IsUnbegun service asked d (NoController name) =
    IsUncontrolled service asked d (string_bytes name)
IsUnbegun service asked d fault = IsFileFault (file_named asked.ask.live asked.file) d fault

-- each longrun that would be moved has a program that controls it, where that is asked
abbrev pub IsControlled : Service → Asked → Database → Type 0
IsControlled service asked d = (name : List ℕ) → IsUncontrolled service asked d name → ⊥

-- a refusal holds
abbrev pub IsRefusedBy : SessionFault → Service → Asked → (remaining after : Option (List ℕ))
    → Type 0
IsRefusedBy fault service asked remaining after = (input : List ℕ)
    × Reads asked.base remaining after input × IsSessionRefused fault service asked input

-- a session was not begun: nothing was written, and its store was left alone
abbrev pub IsNotBegun : ServeFault → Option (List ℕ) → Dealing → Type 0
IsNotBegun fault base deal = IsUnserved fault base deal.io.input
    × (deal.io.gained ≡ deal.io.written) × (deal.is ≡ deal.was)

-- what serving comes to, as what a session comes to
abbrev pub session_end : Result Ending ServeFault → Result Ending SessionFault
session_end (Ok ending) = Ok ending
session_end (Err fault) = Err (Failed fault)

-- it was served so, and moves no longrun that no program controls
abbrev pub RunsControlled : Service → Result Ending ServeFault → Asked → Dealing → Type 0
RunsControlled service result asked deal = (run : Runs (ComesFor service result) asked deal)
    × IsControlled service asked run.database

-- what a session comes to: it was served to its end; or it is refused, with nothing written and its
-- store left alone; or a fault came, before it was begun or where it was served
abbrev pub ComesBy : Result Ending SessionFault → Service → Asked → Dealing
    → (reader writer keeper : Type 0) → Type 0
ComesBy (Ok ending) service asked deal reader writer keeper =
    RunsControlled service (Ok ending) asked deal
ComesBy (Err (Failed fault)) service asked deal reader writer keeper =
    IsServeFault reader writer keeper fault
    × (IsNotBegun fault asked.base deal ⊎ RunsControlled service (Err fault) asked deal)
ComesBy (Err fault) service asked deal reader writer keeper =
    IsRefusedBy fault service asked deal.io.input deal.io.left
    × (deal.io.gained ≡ deal.io.written) × (deal.is ≡ deal.was)

-- a fault of the database text, as one of the session
abbrev pub IsTextFailing : TextFault → SessionFault → Type 0
IsTextFailing text.Memory fault = fault ≡ Failed Memory
IsTextFailing other fault = fault ≡ OfText other

-- a fault of the file's text, as one of the session
abbrev pub IsLiveFailing : LiveFault → SessionFault → Type 0
IsLiveFailing live.Memory fault = fault ≡ Failed Memory
IsLiveFailing other fault = fault ≡ OfLive other

-- a name that is no service's, as a fault of the session
abbrev pub IsGateFailing : GateFault → SessionFault → Type 0
IsGateFailing (gate.Unknown word) fault = fault ≡ Unknown word
IsGateFailing gate.Memory fault = fault ≡ Failed Memory

-- a fault of serving in words
abbrev pub serve_word : ServeFault → List ℕ
serve_word Read = codes "Read"
serve_word Write = codes "Write"
serve_word TooLong = codes "TooLong"
serve_word Memory = codes "Memory"
serve_word NoThread = codes "NoThread"
serve_word Strange = codes "Strange"
serve_word Workers = codes "Workers"
serve_word Io = codes "Io"

-- how a fault is told
abbrev pub session_fault_text : SessionFault → List ℕ
session_fault_text (OfText fault) = text_word fault
session_fault_text (Unknown word) = unknown_word word.now
session_fault_text (OfLive fault) = live_word fault
session_fault_text (NoController name) = codes "NoController " ++ string_bytes name
session_fault_text (Failed fault) = serve_word fault

-- as which fault of serving a failure is told: as its own, or as out of memory
-- where a refusal could not be told
abbrev pub IsToldAs : SessionFault → ServeFault → Type 0
IsToldAs (OfText fault) told = told ≡ Memory
IsToldAs (Unknown word) told = told ≡ Memory
IsToldAs (OfLive fault) told = told ≡ Memory
IsToldAs (NoController name) told = told ≡ Memory
IsToldAs (Failed fault) told = told ≡ fault

-- how a fault is told: a refusal with status 1; a failure with 111, and as out of memory a refusal
-- that could not be told. A writer gains a prefix of its line, or all of it
abbrev pub IsTold : SessionFault → (status : ℕ) → (before after : Option (List ℕ)) → Type 0
IsTold fault status before after =
    ((status ≡ 1) × IsRefusal fault
    × AppendsFront before after (fault_line (session_fault_text fault)))
    ⊎ ((status ≡ 111) × (told : ServeFault) × IsToldAs fault told
    × AppendsFront before after (fault_line (serve_word told)))

-- the status of a line that was answered
abbrev pub status_of : Ending → ℕ
status_of Done = 0
status_of Refused = 1
status_of Hindered = 2

-- the status of what a command came to, and what is told of it: nothing where it was answered, else
-- the fault
abbrev pub IsEndTold : Result Ending SessionFault → (status : ℕ)
    → (before after : Option (List ℕ)) → Type 0
IsEndTold (Ok ending) status before after = (status ≡ status_of ending) × (after ≡ before)
IsEndTold (Err fault) status before after = IsTold fault status before after

-- nothing was done, for a reason of this kind: nothing was written, and the store was left alone
abbrev pub IsUndone : Result Ending SessionFault → (Why : SessionFault → Type 0)
    → (was is written gained : Option (List ℕ)) → Type 0
IsUndone ended Why was is written gained = (fault : SessionFault) × (ended ≡ Err fault) × Why fault
    × (gained ≡ written) × (is ≡ was)

-- a command came to this, and that is told
abbrev pub EndsAs : (Comes : Result Ending SessionFault → Type 0) → (status : ℕ)
    → (before after : Option (List ℕ)) → Type 0
EndsAs Comes status before after =
    (ended : Result Ending SessionFault) × Comes ended × IsEndTold ended status before after

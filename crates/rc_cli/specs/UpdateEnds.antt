-- When an update is refused or fails.
use Rattle.std.specs.Prelude.{◌≡◌, ◌⊎◌, ℕ, List, [], Option, Some, Result, Ok, Err}
use Rattle.std.specs.Prelude.{string_bytes}
use Rattle.rc_graph.specs.declared.Way.TheVariants.{Lower, Raise}
use Rattle.rc_model.specs.Database.{Database}
use Rattle.rc_model.specs.Line.{Line}
use Rattle.rc_serve.specs.declared.ending.Ending.{Ending}
use Rattle.rc_serve.specs.declared.ending.Ending.TheVariants.{Refused}
use Rattle.rc_serve.specs.declared.fault.ServeFault.{ServeFault}
use Rattle.rc_serve.specs.declared.fault.ServeFault.TheVariants.{Memory}
use Rattle.rc_serve.specs.Faults.{IsServeFault}
use Rattle.rc_args.specs.Programs.{MakingAsk, listed_in}
use Rattle.rc_args.specs.UpdateAsked.{UpdateAsk}
use Rattle.rc_update.specs.Knowing.{AreKnown, IsFirstStranger}
use Rattle.rc_dbtext.specs.Base.{Spells}
use Rattle.rc_cli.specs.Filing.{BeginsBy, CannotKeep, FailsToBegin, IsFileRefused, file_named}
use Rattle.rc_cli.specs.Controlled.{IsUncontrolledUpdate, LacksController, MovesAhead}
use Rattle.rc_cli.specs.Finding.{IsFirstUnknown}
use Rattle.rc_cli.specs.Putting.{Putting}
use Rattle.rc_cli.specs.Serving.{session_on}
use Rattle.rc_cli.specs.SessionFaults.{AreAllFound, EndsAs, IsUndone, IsUnspelled}
use Rattle.rc_cli.specs.declared.sessions.keeping.LiveFile.{LiveFile}
use Rattle.rc_cli.specs.declared.sessions.session_fault.SessionFault.{SessionFault}
use Rattle.rc_cli.specs.declared.sessions.session_fault.SessionFault.TheVariants.{OfText, Unknown}
use Rattle.rc_cli.specs.declared.sessions.session_fault.SessionFault.TheVariants.{OfLive, Failed}
use Rattle.rc_cli.specs.declared.sessions.session_fault.SessionFault.TheVariants.{NoController}
use Rattle.rc_cli.specs.Updating.{AreDoneFor, IsAhead, LeadsFrom, Updated, making_on}
use Rattle.rc_cli.specs.declared.updating.Ahead.{Ahead}
use Rattle.rc_session.specs.Holding.{Holding}

-- an update came to this where it was carried out from where the session of the old database begins
abbrev pub RunsUpdate : Result Ending ServeFault → UpdateAsk → LiveFile → (old new : Database)
    → (was is written gained : Option (List ℕ)) → Type 0
RunsUpdate result ask file old new was is written gained =
    AreDoneFor old new ask.session.workers ask.session.making (λ As At. (start : Line)
    × BeginsBy old ask.session.bound (file_named ask.session.live file) start
    × Updated result ask.session.live was is As At ask.conversions ask.dry
    written gained (session_on old start) new)

-- each service that is to fail on its way down is one of the old database, and each that is to
-- fail on its way up one of the new
abbrev pub AreFoundInBoth : (old new : Database) → MakingAsk → Type 0
AreFoundInBoth old new making = AreAllFound old (listed_in (making_on Lower making))
    × AreAllFound new (listed_in (making_on Raise making))

-- the first name that is to fail and is no service's, those of the way down first
abbrev pub IsUnknownInBoth : (old new : Database) → MakingAsk → List ℕ → Type 0
IsUnknownInBoth old new making word =
    IsFirstUnknown old.names (listed_in (making_on Lower making)) word
    ⊎ (AreAllFound old (listed_in (making_on Lower making))
    × IsFirstUnknown new.names (listed_in (making_on Raise making)) word)

-- why there are no gates of both steps: such a name, or out of memory
abbrev pub AreGateless : (old new : Database) → MakingAsk → SessionFault → Type 0
AreGateless old new making (Unknown word) = IsUnknownInBoth old new making word.now
AreGateless old new making (Failed fault) = fault ≡ Memory
AreGateless old new making other = ⊥

-- why an update is not begun: a conversion names no service of its database; a name that is to
-- fail is no service's, only after that; its file is refused, only after those; the file could not
-- be read, or out of memory; and that it would move a longrun which no program controls comes last
abbrev pub IsUnreadyUpdate : UpdateAsk → LiveFile → (old new : Database) → SessionFault → Type 0
IsUnreadyUpdate ask file old new (OfText fault) = ⊥
IsUnreadyUpdate ask file old new (Unknown word) =
    IsFirstStranger old.names new.names ask.conversions word.now
    ⊎ (AreKnown old.names new.names ask.conversions
    × IsUnknownInBoth old new ask.session.making word.now)
IsUnreadyUpdate ask file old new (OfLive fault) = AreKnown old.names new.names ask.conversions
    × AreFoundInBoth old new ask.session.making
    × IsFileRefused old (file_named ask.session.live file) fault
IsUnreadyUpdate ask file old new (NoController name) =
    AreKnown old.names new.names ask.conversions × AreFoundInBoth old new ask.session.making
    × IsUncontrolledUpdate old new ask file (string_bytes name)
IsUnreadyUpdate ask file old new (Failed fault) =
    (fault ≡ Memory) ⊎ FailsToBegin (file_named ask.session.live file) fault

-- why there is nothing ahead of an update from where a session stands: a step would move a longrun
-- that no program controls, or out of memory
abbrev pub IsNoneAhead : UpdateAsk → Holding → Database → SessionFault → Type 0
IsNoneAhead ask from new (NoController name) = (ahead : Ahead) × IsAhead ask from new ahead
    × LacksController ask.session × MovesAhead from ahead (string_bytes name)
IsNoneAhead ask from new (Failed fault) = fault ≡ Memory
IsNoneAhead ask from new other = ⊥

-- each longrun that would be moved has a program that controls it
abbrev pub IsControlledUpdate : (old new : Database) → UpdateAsk → LiveFile → Type 0
IsControlledUpdate old new ask file = (name : List ℕ)
    → IsUncontrolledUpdate old new ask file name → ⊥

-- what an update from one database to another comes to: each conversion names services of theirs,
-- each name that is to fail is a service's, and it was carried out, or shown; or it was not begun,
-- with nothing written and its store left alone; or a fault came, up to which it was carried out
abbrev pub UpdatesOn : Result Ending SessionFault → UpdateAsk → LiveFile → (old new : Database)
    → (was is written gained : Option (List ℕ)) → (writer keeper : Type 0) → Type 0
UpdatesOn (Ok ending) ask file old new was is written gained writer keeper =
    AreKnown old.names new.names ask.conversions × IsControlledUpdate old new ask file
    × RunsUpdate (Ok ending) ask file old new was is written gained
UpdatesOn (Err fault) ask file old new was is written gained writer keeper =
    (IsUnreadyUpdate ask file old new fault × (gained ≡ written) × (is ≡ was))
    ⊎ ((why : ServeFault) × (fault ≡ Failed why) × IsServeFault ⊥ writer keeper why
    × IsControlledUpdate old new ask file
    × RunsUpdate (Err why) ask file old new was is written gained)

-- why there are not both databases: the text of the old one is refused, or where it is one that of
-- the new; or out of memory
abbrev pub IsUnspelledBoth : (old new : List ℕ) → SessionFault → Type 0
IsUnspelledBoth old new fault = IsUnspelled (Some old) [] fault
    ⊎ ((d : Database) × Spells (Some old) [] d [] × IsUnspelled (Some new) [] fault)

-- what an update comes to: a text is refused, or out of memory, with nothing done; or both are
-- those of databases, and an update from the one to the other comes to this
abbrev pub UpdatesBy : Result Ending SessionFault → (old new : List ℕ) → UpdateAsk → LiveFile
    → (was is written gained : Option (List ℕ)) → (writer keeper : Type 0) → Type 0
UpdatesBy result old new ask file was is written gained writer keeper =
    IsUndone result (IsUnspelledBoth old new) was is written gained
    ⊎ ((from : Database) × (to : Database)
    × Spells (Some old) [] from [] × Spells (Some new) [] to []
    × UpdatesOn result ask file from to was is written gained writer keeper)

-- an update was answered, with the status of how it ended, and nothing told; or a fault is told, of
-- the writer or of the file only where that one has failed
abbrev pub Updates : (old new : List ℕ) → UpdateAsk → LiveFile → (status : ℕ) →
    (was is written gained : Option (List ℕ)) → (writer keeper : Type 0) →
    (before after : Option (List ℕ)) → Type 0
Updates old new ask file status was is written gained writer keeper before after = EndsAs
    (λ ended. UpdatesBy ended old new ask file was is written gained writer
    (CannotKeep ask.session file keeper))
    status before after

-- an update from one database to another ended so, and has led its store so: from where the session
-- of the old one begins
abbrev pub LeadsOn : {S : Type 0} → Putting S → (Enters : S → S → Type 0) → UpdateAsk → LiveFile
    → Ending → (old new : Database) → (was is : S) → Type 0
LeadsOn Put Enters ask file ending old new was is = (start : Line)
    × BeginsBy old ask.session.bound (file_named ask.session.live file) start
    × LeadsFrom Put Enters ask ending (session_on old start) new was is

-- and so between the databases of two texts; one that is refused leaves its store alone
abbrev pub Leads : {S : Type 0} → Putting S → (Enters : S → S → Type 0) → (old new : List ℕ)
    → UpdateAsk → LiveFile → Ending → (was is : S) → Type 0
Leads Put Enters old new ask file ending was is = ((ending ≡ Refused) × (is ≡ was))
    ⊎ ((from : Database) × (to : Database)
    × Spells (Some old) [] from [] × Spells (Some new) [] to []
    × LeadsOn Put Enters ask file ending from to was is)

-- What a recovery makes of the two files of a session, by the text of a database.
use Rattle.std.specs.Prelude.{◌≡◌, ◌≢◌, ◌⊎◌, List, ℕ, []}
use Rattle.rc_model.specs.Database.{Database, IsDatabase}
use Rattle.rc_dbtext.specs.Spelling.{spelling}
use Rattle.rc_dbtext.specs.TextFaults.{IsWholeFault}
use Rattle.rc_dbtext.specs.declared.fault.TextFault.{TextFault}
use Rattle.rc_dbtext.specs.declared.fault.TextFault.TheVariants as text_fault
use Rattle.rc_recovery.specs.RunLog.{HasNothing, IsEntered, IsUnfit}
use Rattle.rc_recovery.specs.Files.{Files}
use Rattle.rc_recovery.specs.Recoveries.{IsCutRecovery}
use Rattle.rc_launch.specs.declared.recovering.Unrecovered.{Unrecovered}
use Rattle.rc_launch.specs.declared.recovering.Unrecovered.TheVariants.{Database as NoDatabase}
use Rattle.rc_launch.specs.declared.recovering.Unrecovered.TheVariants.{Memory}

-- of the database that a text spells this holds
abbrev pub IsOn : List ℕ → (Database → Type 0) → Type 0
IsOn base holds = (d : Database) × IsDatabase d × (base ≡ spelling d) × holds d

-- a text is none of a database
abbrev pub IsNoBase : List ℕ → Type 0
IsNoBase base = (fault : TextFault) × (fault ≢ text_fault.Memory) × IsWholeFault base fault

-- what comes of a text that is refused: out of memory, or that there is no database
abbrev pub IsUnread : TextFault → Unrecovered → Type 0
IsUnread fault given = ((fault ≡ text_fault.Memory) × (given ≡ Memory))
    ⊎ ((fault ≢ text_fault.Memory) × (given ≡ NoDatabase))

-- what the log says is entered in the file, with this report, and the log is empty
abbrev pub Leaves : (base : List ℕ) → (old new : Files) → (told : List ℕ) → Type 0
Leaves base old new told =
    IsOn base (λ d. IsEntered d old.file old.log new.file told) × (new.log ≡ [])

-- there is nothing to enter, and the log is empty
abbrev pub LeavesNothing : (base : List ℕ) → (old new : Files) → Type 0
LeavesNothing base old new = IsOn base (λ d. HasNothing d old.file old.log)
    × (new ≡ record { file = old.file; log = [] })

-- nothing can be entered, and the files are as they were
abbrev pub LeavesUnfit : (base : List ℕ) → (old new : Files) → Type 0
LeavesUnfit base old new = IsOn base (λ d. IsUnfit d old.file old.log) × (new ≡ old)

-- what a crash may leave: the files as they were, or what a recovery leaves that is cut short
abbrev pub LeavesCut : (base : List ℕ) → (old g : Files) → Type 0
LeavesCut base old g = (g ≡ old) ⊎ IsOn base (λ d. IsCutRecovery d old g)

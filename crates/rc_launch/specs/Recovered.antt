-- What came of a run log beside the file of a session that is locked.
use Rattle.std.specs.Prelude.{◌≡◌, ℕ, List, [], Option, None, Some, option_map, unwrap_or}
use Rattle.std.specs.Borrow.{Bor}
use Rattle.rc_recovery.specs.Files.{Files}
use Rattle.rc_launch.specs.Held.{files_held}
use Rattle.rc_launch.specs.Logs.{IsCutBy}
use Rattle.rc_launch.specs.Recovering.{IsNoBase, Leaves, LeavesNothing}
use Rattle.rc_launch.specs.Loading.{bytes_in}
use Rattle.rc_launch.specs.declared.held_files.HeldFiles.{HeldFiles}
use Rattle.rc_launch.specs.declared.loading.Loaded.{Loaded}
use Rattle.rc_launch.specs.declared.recovered.Came.{Came}
use Rattle.rc_launch.specs.declared.recovered.Came.TheVariants.{Entered, NoDatabase, Nothing}
use Rattle.rc_launch.specs.declared.recovered.Came.TheVariants.{Stale}
use Rattle.rc_launch.specs.declared.recovered.Recovery.{Recovery}
use Rattle.rc_launch.specs.declared.recovered.Recovery.TheVariants as recovery
use Rattle.rc_launch.specs.declared.texts.ReadFiles.{ReadFiles}

-- the text that stood in the file, if there was one
abbrev pub found_in : ReadFiles → Option (List ℕ)
found_in read = option_map (λ bytes. bytes.items) read.found

-- the bytes of both files, as they were read
abbrev pub files_read : ReadFiles → Files
files_read read =
    record { file = unwrap_or (found_in read) []; log = read.logged.bytes.items }

-- the log that was read is that of a command on the text that stood in the file
abbrev pub IsCut : ReadFiles → Type 0
IsCut read = IsCutBy (found_in read) read.logged.bytes.items

-- what comes of a log by the text of one database
abbrev pub ComesBy : (base : List ℕ) → (old new : Files) → Came → Type 0
ComesBy base old new Stale = ⊥
ComesBy base old new (Entered report) = Leaves base old new report.items
ComesBy base old new Nothing = LeavesNothing base old new
ComesBy base old new NoDatabase = IsNoBase base × (new ≡ old)

-- what comes of it by the database of a session; without one nothing does
abbrev pub Comes : (base : Option (List ℕ)) → (old new : Files) → Came → Type 0
Comes None old new came = ⊥
Comes (Some base) old new came = ComesBy base old new came

abbrev pub ComesFor : Loaded → (old new : Files) → Came → Type 0
ComesFor loaded old new came = Comes (option_map bytes_in loaded.base) old new came

-- a log that is not empty was dealt with: it is removed where it is of another text, and else
-- recovered by the database of the session
abbrev pub IsMade : Loaded → ReadFiles → HeldFiles → Came → Type 0
IsMade loaded read held Stale = (IsCut read → ⊥)
    × (files_held held ≡ record { file = (files_read read).file; log = [] })
IsMade loaded read held other =
    IsCut read × ComesFor loaded (files_read read) (files_held held) other

-- the run log beside this file was read, and dealt with where it is not empty
abbrev pub IsRecovered : Loaded → (path : Bor (List ℕ)) → Recovery → Type 0
IsRecovered loaded path (recovery.Bare log) = (log.path ≡ path) × (log.bytes.items ≡ [])
IsRecovered loaded path (recovery.Made read held came) =
    (read.logged.path ≡ path) × IsMade loaded read held came

-- the report of what was entered
abbrev pub report_of : Recovery → Option (List ℕ)
report_of (recovery.Bare log) = None
report_of (recovery.Made read held (Entered report)) = Some report.items
report_of (recovery.Made read held other) = None

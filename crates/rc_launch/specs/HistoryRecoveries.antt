-- What recoveries make of a history and of the run log beside it, also where they are cut short,
-- and where that ends.
use Rattle.std.specs.Prelude.{◌≡◌, ◌⊎◌, ◌∷◌, [], ℕ, List, Option, None, Some}
use Rattle.rc_model.specs.Database.{Database, IsDatabase}
use Rattle.rc_db.specs.Database.{IsWritable}
use Rattle.rc_dbtext.specs.Spelling.{spelling as database_text}
use Rattle.rc_historytext.specs.declared.keeping.Keeping.{Keeping}
use Rattle.rc_historytext.specs.Keeping.{IsKept}
use Rattle.rc_historytext.specs.Present.{IsPresent}
use Rattle.rc_recovery.specs.Files.{AfterCrash, Files}
use Rattle.rc_recovery.specs.Recoveries.{recovery_writes, text_after}
use Rattle.rc_recovery.specs.RunLog.{HasNothing, IsEntered}
use Rattle.rc_launch.specs.Keeping.{KeepsAs}

-- the present generation of a history has the text of this database, and this text of a session
pub record HasPresent (bytes : List ℕ) (d : Database) (session : List ℕ) : Type 0 where
  pub there : IsPresent bytes (database_text d) session
  pub is_database : IsDatabase d
  pub writable : IsWritable d

-- the same log beside this text
abbrev pub beside : (text : List ℕ) → Files → Files
beside text f = record { file = text; log = f.log }

-- a text is kept in the history, in the place of its present session, as the log says
abbrev pub IsKeptFor : (session : List ℕ) → Files → (text whole : List ℕ) → Type 0
IsKeptFor session f text whole = (keeping : Keeping)
    × KeepsAs session f.log keeping × IsKept keeping f.file text whole

-- what a recovery makes by a database and the present session: a new history, or there is nothing
-- to enter
abbrev pub MakesBy : Database → (session : List ℕ) → Files → Option (List ℕ) → Type 0
MakesBy d session f None = HasNothing d session f.log
MakesBy d session f (Some whole) = (text : List ℕ) × (told : List ℕ)
    × IsEntered d session f.log text told × IsKeptFor session f text whole

-- what it makes of the two files: by what is present in the history
abbrev pub MakesOf : Files → Option (List ℕ) → Type 0
MakesOf f made =
    (d : Database) × (session : List ℕ) × HasPresent f.file d session × MakesBy d session f made

-- a recovery leaves this that was cut short: it wrote nothing, or a crash came at some point of
-- its writes
abbrev pub IsCutOf : Files → Files → Type 0
IsCutOf f g = (g ≡ f)
    ⊎ ((made : Option (List ℕ)) × MakesOf f made × AfterCrash (recovery_writes made) f g)

-- recoveries were cut short, one after the other; each left these files
abbrev pub AreCutOf : Files → List Files → Files → Type 0
AreCutOf f [] g = g ≡ f
AreCutOf f (h ∷ left) g = IsCutOf f h × AreCutOf h left g

-- the history that a recovery leaves which is not cut short, after any number that were
abbrev pub EndsWithHistory : Files → List ℕ → Type 0
EndsWithHistory f end = (left : List Files) × (g : Files) × AreCutOf f left g
    × ((made : Option (List ℕ)) × MakesOf g made × (end ≡ text_after g made))

-- the history in the end is the one that stood there, and there was nothing to enter; or what the
-- log says is entered once, and kept as the log says
abbrev pub EntersOnce : Database → (session : List ℕ) → Files → (end : List ℕ) → Type 0
EntersOnce d session f end = ((end ≡ f.file) × HasNothing d session f.log)
    ⊎ ((text : List ℕ) × (told : List ℕ) × IsEntered d session f.log text told
    × IsKeptFor session f text end)

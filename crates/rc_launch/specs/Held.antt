-- What the two files of a session hold since they were read, and what a crash may have left of
-- them since.
use Rattle.std.specs.Prelude.{◌≡◌, ◌⊎◌, ◌∷◌, [], List, drop, take, reverse}
use Rattle.rc_recovery.specs.Files.{AfterCrash, Append, Empty, Files, Replace, Write}
use Rattle.rc_launch.specs.declared.held_files.Begun.{Begun}
use Rattle.rc_launch.specs.declared.held_files.Begun.TheVariants as begun
use Rattle.rc_launch.specs.declared.held_files.HeldFiles.{HeldFiles}

-- what the files hold
abbrev pub files_held : HeldFiles → Files
files_held held = record { file = held.file.items; log = held.log.items }

-- what they held before a write was begun, by what they hold since
abbrev pub before_of : Begun → Files → Files
before_of (begun.Replaced text) f = record { file = text.items; log = f.log }
before_of (begun.Emptied log) f = record { file = f.file; log = log.items }
before_of (begun.Appended count) f = record { file = f.file; log = take count f.log }
before_of (begun.FailedReplace text) f = f
before_of (begun.FailedAppend bytes) f = f
before_of begun.FailedEmpty f = f

-- which write it was
abbrev pub write_of : Begun → Files → Write
write_of (begun.Replaced text) f = Replace f.file
write_of (begun.Emptied log) f = Empty
write_of (begun.Appended count) f = Append (drop count f.log)
write_of (begun.FailedReplace text) f = Replace text.items
write_of (begun.FailedAppend bytes) f = Append bytes.items
write_of begun.FailedEmpty f = Empty

-- a crash within one of these writes may have left this; the last one stands first
abbrev pub MayBeLeft : List Begun → Files → Files → Type 0
MayBeLeft [] f g = ⊥
MayBeLeft (b ∷ more) f g =
    AfterCrash (write_of b f ∷ []) (before_of b f) g ⊎ MayBeLeft more (before_of b f) g

-- at some moment since the files were read a crash may have left this: what they hold, or what one
-- within a write that was begun leaves
abbrev pub WasLeft : HeldFiles → Files → Type 0
WasLeft held g = (g ≡ files_held held) ⊎ MayBeLeft (reverse held.begun.items) (files_held held) g

-- nothing was written since the files were read
abbrev pub IsUnwritten : HeldFiles → Type 0
IsUnwritten held = held.begun.items ≡ []

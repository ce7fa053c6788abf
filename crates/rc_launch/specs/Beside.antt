-- What is found beside the file of a session, and that its runs are logged.
use Rattle.std.specs.Prelude.{◌≡◌, ℕ, List, Option, None, Some, IsSome, option_map}
use Rattle.std.specs.Borrow.{Bor}
use Rattle.rc_args.specs.Programs.{MakingAsk, StartsBy}
use Rattle.rc_launch.specs.Recovered.{IsRecovered}
use Rattle.rc_launch.specs.declared.live_store.LiveStore.{LiveStore}
use Rattle.rc_launch.specs.declared.loading.Loaded.{Loaded}
use Rattle.rc_args.specs.declared.session_command.SessionCommand.{SessionCommand}
use Rattle.rc_args.specs.declared.session_command.SessionCommand.TheVariants.{Status}
use Rattle.rc_launch.specs.declared.opened.Note.{Note}
use Rattle.rc_launch.specs.declared.opened.Note.TheVariants as note
use Rattle.rc_launch.specs.declared.runs.Runs.{Runs}
use Rattle.rc_launch.specs.declared.tried_lock.TriedLock.{TriedLock}

-- nothing was read but to look
abbrev pub IsSeen : Note → Type 0
IsSeen note.Nothing = Unit {0}
IsSeen note.UnderWay = Unit {0}
IsSeen note.Cut = Unit {0}
IsSeen (note.Logged seen) = ⊥
IsSeen (note.Locked recovery) = ⊥

-- the log of this file was read
abbrev pub IsLogOf : Bor (List ℕ) → Note → Type 0
IsLogOf path (note.Logged seen) = seen.log.path ≡ path
IsLogOf path other = ⊥

-- what is found beside a file that is not locked: where it is shown where services stand its log
-- was read, and else it was only looked at
abbrev pub IsLookedBy : SessionCommand → Bor (List ℕ) → Note → Type 0
IsLookedBy (Status request) path note = IsLogOf path note
IsLookedBy other path note = IsSeen note

abbrev pub IsLookedAt : SessionCommand → (live : Option (Bor (List ℕ))) → Note → Type 0
IsLookedAt command None note = IsSeen note
IsLookedAt command (Some path) note = IsLookedBy command path note

-- what comes first of a command whose file is locked: the run log was read and dealt with
abbrev pub IsEntered : Loaded → Bor (List ℕ) → Note → Type 0
IsEntered loaded path (note.Locked recovery) = IsRecovered loaded path recovery
IsEntered loaded path other = ⊥

abbrev pub IsEnteredFirst : Loaded → (live : Option (Bor (List ℕ))) → Note → Type 0
IsEnteredFirst loaded None note = IsSeen note
IsEnteredFirst loaded (Some path) note = IsEntered loaded path note

-- what was found beside the file of a session: where that is locked its run log was dealt with, and
-- where it is not it was only looked at
pub record IsNoted (loaded : Loaded) (live : Option (Bor (List ℕ))) (locked : Type 0) (note : Note)
    : Type 0 where
  pub entered : locked → IsEnteredFirst loaded live note
  pub looked : (locked → ⊥) → IsLookedAt loaded.command live note

-- a lock was asked for, and is held
abbrev pub IsHeld : Option TriedLock → Type 0
IsHeld None = ⊥
IsHeld (Some lock) = IsSome lock.lock

-- the file of a session is locked
abbrev pub IsLocked : LiveStore → Type 0
IsLocked store = IsHeld store.lock

-- the file whose lock was asked for, if one was
abbrev pub locked_path : LiveStore → Option (Bor (List ℕ))
locked_path store = option_map (λ lock. lock.path) store.lock

-- there are the files of runs beside that of a session exactly where it is locked and programs are
-- started
abbrev pub AreRunsOf : MakingAsk → LiveStore → Option Runs → Type 0
AreRunsOf making store None = StartsBy making → IsLocked store → ⊥
AreRunsOf making store (Some runs) =
    StartsBy making × IsLocked store × (locked_path store ≡ Some runs.path)

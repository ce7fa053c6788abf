-- The files of a command are opened.
use Rattle.std.specs.Prelude.{◌≡◌, ◌↔◌, ℕ, Bool, List, Option, None, Some, true}
use Rattle.std.specs.Prelude.{if◌then◌else◌}
use Rattle.std.specs.Borrow.{Bor}
use Rattle.rc_args.specs.Making.{making_ask_of}
use Rattle.rc_args.specs.Invocation.{command_session}
use Rattle.rc_launch.specs.Beside.{AreRunsOf, IsLocked, IsNoted, locked_path}
use Rattle.rc_launch.specs.declared.live_store.LiveStore.{LiveStore}
use Rattle.rc_launch.specs.declared.opened.Opened.{Opened}
use Rattle.rc_args.specs.declared.session_command.SessionCommand.{SessionCommand}
use Rattle.rc_launch.specs.declared.texts.LiveText.{LiveText}
use Rattle.rc_launch.specs.Loading.{IsLoaded, MovesBy, session_in}

-- a command is opened with what was read of it, of the file of its session, and beside that: where
-- the file is locked its run log was read and dealt with, and runs are logged
pub record IsOpenedAs (asked : SessionCommand) (file : Option (Bor (List ℕ))) (moves : Bool)
    (store : LiveStore) (opened : Opened) : Type 0 where
  pub seen : LiveText
  pub there : seen.path ≡ (session_in opened.loaded).live
  pub loaded : IsLoaded asked file seen opened.loaded
  pub live : opened.live.path ≡ (session_in opened.loaded).live
  pub noted : IsNoted opened.loaded (session_in opened.loaded).live (IsLocked store) opened.note
  pub runs : AreRunsOf (making_ask_of (session_in opened.loaded).making) store opened.runs
  pub moving : opened.moves ≡ moves

-- the lock was asked for of this file where something is to be done, and else of none
abbrev pub LocksFor : (moves : Bool) → (live : Option (Bor (List ℕ))) → LiveStore → Type 0
LocksFor moves live store = locked_path store ≡ (if moves then live else None)

-- it is this file, if one is named, whose text is replaced
abbrev pub Replaces : (live : Option (Bor (List ℕ))) → LiveStore → Type 0
Replaces None store = Unit {0}
Replaces (Some path) store = store.path ≡ path

-- the files of a command are opened
pub record AreOpened (asked : SessionCommand) (file : Option (Bor (List ℕ)))
    (opened : Opened) (store : LiveStore) : Type 0 where
  pub moves : Bool
  pub opened_as : IsOpenedAs asked file moves store opened
  pub moving : (moves ≡ true) ↔ MovesBy asked
  pub locked : LocksFor moves (command_session asked).live store
  pub replaced : Replaces (command_session asked).live store

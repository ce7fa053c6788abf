-- A command is carried out as on a session that is kept alone.
use Rattle.std.specs.Prelude.{◌≡◌, ◌⊎◌, Bool, true, false, None}
use Rattle.rc_model.specs.Session.{Redo, Undo}
use Rattle.rc_script.specs.Says.{SaysJournal, SaysStep}
use Rattle.rc_args.specs.OnceAsked.{OnceSaying, Said, WantsDryRedo, WantsDryUndo, once_saying_of}
use Rattle.rc_args.specs.declared.session_command.SessionCommand.{SessionCommand}
use Rattle.rc_args.specs.declared.session_command.SessionCommand.TheVariants.{Check, Line}
use Rattle.rc_args.specs.declared.session_command.SessionCommand.TheVariants.{Restart, Update}

-- a line does not undo or redo, does not show what that would move, and is not the journal
abbrev pub StaysInside : OnceSaying → Type 0
StaysInside (Said (SaysStep (Undo limit events))) = ⊥
StaysInside (Said (SaysStep (Redo limit events))) = ⊥
StaysInside (Said SaysJournal) = ⊥
StaysInside WantsDryUndo = ⊥
StaysInside WantsDryRedo = ⊥
StaysInside other = Unit {0}

-- a command is carried out so: none that moves in several steps, and on a history none that may
-- cross a border
abbrev pub IsServed : SessionCommand → (is_history : Bool) → Type 0
IsServed (Line request) is_history =
    (request.to ≡ None) × ((is_history ≡ false) ⊎ StaysInside (once_saying_of request.once))
IsServed (Update request) is_history = request.dry ≡ true
IsServed (Restart request) is_history = ⊥
IsServed (Check request) is_history = request.repairs ≡ false
IsServed other is_history = Unit {0}

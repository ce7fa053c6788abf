-- An undo or a redo is asked for, and led so.
use Rattle.std.specs.Prelude.{◌≡◌, ℕ, Bool, false, true, [], None, Some}
use Rattle.rc_args.specs.OnceAsked.{Said, once_saying_of}
use Rattle.rc_args.specs.declared.once_words.Once.{Once}
use Rattle.rc_args.specs.declared.session_command.SessionCommand.{SessionCommand}
use Rattle.rc_args.specs.declared.named_words.NamedRequest.{NamedRequest}
use Rattle.rc_args.specs.declared.update_words.UpdateRequest.{UpdateRequest}
use Rattle.rc_args.specs.declared.session_command.SessionCommand.TheVariants.{Line}
use Rattle.rc_args.specs.declared.session_command.SessionCommand.TheVariants as command
use Rattle.rc_script.specs.Says.{SaysJournal, SaysStep}
use Rattle.rc_historytext.specs.Travelling.{way_command}
use Rattle.rc_launch.specs.declared.carrying_out.Led.{Led}
use Rattle.rc_launch.specs.declared.carrying_out.Led.TheVariants.{Alone, Back, Journal, Way}
use Rattle.rc_launch.specs.declared.carrying_out.Led.TheVariants as led

-- a line is an undo (not `on`) or a redo (`on`), with this limit
abbrev pub IsWayLine : Once → (on : Bool) → (limit : ℕ) → Type 0
IsWayLine once on limit = once_saying_of once ≡ Said (SaysStep (way_command on limit []))

-- a command is such a line, and names no state to go back to
abbrev pub AsksWay : SessionCommand → (on : Bool) → (limit : ℕ) → Type 0
AsksWay (Line request) on limit = IsWayLine request.once on limit × (request.to ≡ None)
AsksWay other on limit = ⊥

-- a command is an undo that goes back to this state, with this limit of each of its runs
abbrev pub AsksBack : SessionCommand → (state : ℕ) → (limit : ℕ) → Type 0
AsksBack (Line request) state limit =
    IsWayLine request.once false limit × (request.to ≡ Some state)
AsksBack other state limit = ⊥

-- a line asks for the journal
abbrev pub IsJournalLine : Once → Type 0
IsJournalLine once = once_saying_of once ≡ Said SaysJournal

-- a command is such a line
abbrev pub AsksJournal : SessionCommand → Type 0
AsksJournal (Line request) = IsJournalLine request.once × (request.to ≡ None)
AsksJournal other = ⊥

-- it is led as an undo (not `on`) or a redo (`on`)
abbrev pub IsLedOn : (on : Bool) → Led → Type 0
IsLedOn on (Way way) = way.is_on ≡ on
IsLedOn on other = ⊥

-- it is led back to this state
abbrev pub IsLedBack : (state : ℕ) → Led → Type 0
IsLedBack state (Back aim) = aim.state ≡ state
IsLedBack state other = ⊥

-- it is led as the journal of a history
abbrev pub IsLedJournal : Led → Type 0
IsLedJournal Journal = Unit {0}
IsLedJournal other = ⊥

-- it is led as on a session that is kept alone
abbrev pub IsLedAlone : Led → Type 0
IsLedAlone Alone = Unit {0}
IsLedAlone other = ⊥

-- a command is an update that is not only shown, or a restart
abbrev pub AsksUpdate : SessionCommand → UpdateRequest → Type 0
AsksUpdate asked request = (asked ≡ command.Update request) × (request.dry ≡ false)

abbrev pub AsksRestart : SessionCommand → NamedRequest → Type 0
AsksRestart asked request = asked ≡ command.Restart request

-- or a check that repairs
abbrev pub AsksMend : SessionCommand → NamedRequest → Type 0
AsksMend asked request = (asked ≡ command.Check request) × (request.repairs ≡ true)

-- it is led as one
abbrev pub IsLedUpdate : UpdateRequest → Led → Type 0
IsLedUpdate request (led.Update given) = given.now ≡ request
IsLedUpdate request other = ⊥

abbrev pub IsLedRestart : NamedRequest → Led → Type 0
IsLedRestart request (led.Restart given) = given.now ≡ request
IsLedRestart request other = ⊥

abbrev pub IsLedMend : NamedRequest → Led → Type 0
IsLedMend request (led.Mend given) = given.now ≡ request
IsLedMend request other = ⊥

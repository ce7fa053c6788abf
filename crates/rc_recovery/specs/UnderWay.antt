-- What was under way when a command was cut short, and the ends that are logged of it.
use Rattle.std.specs.Prelude.{◌≡◌, ◌≢◌, ◌⊎◌, ◌++◌, ◌∷◌, [], ℕ, List, Bool, false}
use Rattle.std.specs.Prelude.{if◌then◌else◌, slice_index_or}
use Rattle.std.specs.List.{fold, list_any}
use Rattle.rc_model.specs.declared.Event.{Event}
use Rattle.rc_model.specs.declared.Event.TheVariants.{Take, Done, Stop}
use Rattle.rc_model.specs.declared.Outcome.TheVariants as outcome
use Rattle.rc_model.specs.Database.{Database}
use Rattle.rc_model.specs.Line.{Line}
use Rattle.rc_model.specs.Run.{IsHeldBy}
use Rattle.rc_model.specs.Session.{IsLineOf}
use Rattle.rc_livetext.specs.LiveFaults.{IsLiveFault}
use Rattle.rc_livetext.specs.Spelling.{Spells}
use Rattle.rc_livetext.specs.declared.fault.LiveFault.{LiveFault}
use Rattle.rc_livetext.specs.declared.fault.LiveFault.TheVariants as live_fault
use Rattle.rc_script.specs.RunLines.{IsEventLine}
use Rattle.rc_recovery.specs.Ends.{ends}
use Rattle.rc_recovery.specs.Files.{AfterCrash, Append, Files, after}
use Rattle.rc_recovery.specs.Logged.{AreLogged}
use Rattle.rc_recovery.specs.Logging.{HoldEvents, Logged}
use Rattle.rc_recovery.specs.Recoveries.{IsCrash}
use Rattle.rc_recovery.specs.RunLog.{EndsWhole}
use Rattle.rc_recovery.specs.declared.ways.UnderWay.{UnderWay}

-- a transition that one of these events begins, and that none of them ends
abbrev pub with_taken : List Bool → List Event → List UnderWay → Event → List UnderWay
with_taken live logged found (Take w s) =
    if list_any (ends w s) logged then found
    else found ++ record { worker = w; service = s; was_up = slice_index_or live s false } ∷ []
with_taken live logged found (Done w s o) = found
with_taken live logged found (Stop w m) = found

-- the transitions that events begin and do not end, where these services were live before them
abbrev pub unended : List Bool → List Event → List UnderWay
unended live logged = fold (with_taken live logged) [] logged

-- a worker holds the service of such a transition, and it was live before, or was not
abbrev pub IsWayOf : List Bool → List Event → UnderWay → Type 0
IsWayOf live logged way = IsHeldBy logged way.worker way.service
    × (way.was_up ≡ slice_index_or live way.service false)

-- the transitions that are under way by the log of a text: none if the log ends in a part of a
-- line, since nothing can be appended to it, or if the text is none of the database
abbrev pub AreUnderWay : Database → (text log : List ℕ) → List UnderWay → Type 0
AreUnderWay d text log found = ((EndsWhole log → ⊥) × (found ≡ []))
    ⊎ ((fault : LiveFault) × (fault ≢ live_fault.Memory) × IsLiveFault d text fault × (found ≡ []))
    ⊎ ((line : Line) × (events : List Event) × EndsWhole log × IsLineOf d line
    × Spells d text line × AreLogged d.names text log events
    × (found ≡ unended line.current.live events))

-- the transition has come to its end
abbrev pub end_of : UnderWay → Event
end_of ended = Done ended.worker ended.service outcome.Ok

-- the line of an event was appended to the log, or a crash came within that
abbrev pub MayLog : (names : List (List ℕ)) → Event → Files → Files → Type 0
MayLog names event f g =
    (line : List ℕ) × IsEventLine names event line × AfterCrash (Append line ∷ []) f g

-- to the log of a command that was cut short the line of an event is appended: whatever a crash
-- leaves of that, it is what one leaves of the same command where it has logged this event, too
pub record IsMore (d : Database) (line new : Line) (l : Logged) (events : List Event)
    (text : List ℕ) (f g : Files) (more : Logged) : Type 0 where
  pub command : more.command ≡ l.command
  pub logged : more.events ≡ events
  pub cut : (h : Files) → AfterCrash (Append text ∷ []) g h → IsCrash d line new more f h
  pub holds : HoldEvents d line more events (after g (Append text))
  pub whole : EndsWhole (after g (Append text)).log

-- What a run log says of the command that is under way.
use Rattle.std.specs.Prelude.{◌≡◌, ◌⊎◌, ◌∷◌, [], ℕ, List}
use Rattle.rc_model.specs.declared.Event.{Event}
use Rattle.rc_model.specs.Session.{Command, events_of}
use Rattle.rc_script.specs.Script.{IsBadLine, IsScript}
use Rattle.rc_recovery.specs.RunLog.{HasScript, IsOther}

-- the events of one command; of none, or of several, there are none
abbrev pub events_logged : List Command → List Event
events_logged [] = []
events_logged (command ∷ []) = events_of command
events_logged (command ∷ next ∷ commands) = []

-- a script has a line that may not stand where it does, and then there are no events; or it says
-- commands, and these are their events
abbrev pub AreOfScript : (names : List (List ℕ)) → (script : List ℕ) → List Event → Type 0
AreOfScript names script events =
    ((number : ℕ) × IsBadLine names script number × (events ≡ []))
    ⊎ ((commands : List Command) × IsScript names script commands
    × (events ≡ events_logged commands))

-- the events that the log of a text says, over the services of these names: those of its one
-- command, so far as its lines are whole. A log of another text says none
abbrev pub AreLogged : (names : List (List ℕ)) → (text log : List ℕ) → List Event → Type 0
AreLogged names text log events = (IsOther text log × (events ≡ []))
    ⊎ ((script : List ℕ) × HasScript text log script × AreOfScript names script events)

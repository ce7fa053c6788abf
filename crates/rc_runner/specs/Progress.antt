-- The messages that tell what comes to services.
use Rattle.std.specs.Prelude.{◌++◌, ◌/◌, ◌%◌, ◌==◌, if◌then◌else◌, ℕ, List, [], codes, decimal}
use Rattle.std.specs.Prelude.{Bool, true, false, Option, None, Some}
use denote.Ref.{Bor}
use Rattle.log.specs.declared.level.Level.{Level}
use Rattle.log.specs.declared.level.Level.TheVariants.{Info, Warn}
use Rattle.rc_graph.specs.declared.Way.{Way}
use Rattle.rc_model.specs.declared.Outcome.{Outcome}
use Rattle.rc_model.specs.declared.Outcome.TheVariants as outcome
use Rattle.rc_runner.specs.declared.progress.Event.{Event}
use Rattle.rc_runner.specs.declared.progress.Event.TheVariants.{Started, Ended, Saying}
use Rattle.rc_runner.specs.Shell.{word_of}

-- how a transition ended, in words
abbrev pub outcome_text : Outcome → List ℕ
outcome_text outcome.Ok = codes "ok"
outcome_text (outcome.Failed status) = codes "failed " ++ decimal status
outcome_text outcome.TimedOut = codes "timed out"
outcome_text outcome.NotStarted = codes "not started"

-- what comes to a service, in words; what its program wrote last stands behind its end
abbrev pub event_text : Event → List ℕ
event_text Started = codes "started"
event_text (Ended outcome) = outcome_text outcome
event_text (Saying outcome said) = (outcome_text outcome ++ codes ": ") ++ said.now

-- at which level an end is told: a transition that did not succeed is a warning
abbrev pub level_for : Outcome → Level
level_for outcome.Ok = Info
level_for other = Warn

-- at which level it is told what comes to a service
abbrev pub level_of : Event → Level
level_of Started = Info
level_of (Ended outcome) = level_for outcome
level_of (Saying outcome said) = level_for outcome

-- what a program wrote last is told where it was started and failed
abbrev pub says_more : Outcome → Bool
says_more outcome.Ok = false
says_more (outcome.Failed status) = true
says_more outcome.TimedOut = true
says_more outcome.NotStarted = false

-- an end, with what the program wrote last, if that is known
abbrev pub event_for : Outcome → Option (Bor (List ℕ)) → Event
event_for outcome None = Ended outcome
event_for outcome (Some said) = Saying outcome said

-- the blanks before so many seconds, which take four places at least
abbrev pub gap_text : ℕ → List ℕ
gap_text seconds = if seconds / 10 == 0 then codes "   "
    else (if seconds / 100 == 0 then codes "  "
    else (if seconds / 1000 == 0 then codes " " else []))

-- the zeros before so many milliseconds, which take three places at least
abbrev pub zeros_text : ℕ → List ℕ
zeros_text rest = if rest / 10 == 0 then codes "00"
    else (if rest / 100 == 0 then codes "0" else [])

-- how a message begins: with a moment in milliseconds, which is told in seconds with three places
-- after the point
abbrev pub moment_text : ℕ → List ℕ
moment_text moment = ((gap_text (moment / 1000)
    ++ (decimal (moment / 1000) ++ codes ".")) ++ zeros_text (moment % 1000))
    ++ decimal (moment % 1000)

-- the message that tells what came to a service of this name, on this way, at a moment
abbrev pub line_text : ℕ → Way → List ℕ → Event → List ℕ
line_text moment way name event = (((((moment_text moment ++ codes " s  ") ++ word_of way)
    ++ codes " ") ++ name) ++ codes ": ") ++ event_text event

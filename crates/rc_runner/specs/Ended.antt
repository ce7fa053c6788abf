-- What the end of a program tells.
use Rattle.std.specs.Prelude.{◌≡◌, ◌<◌, ◌||◌, ◌==◌, if◌then◌else◌, ℕ, pos, Option, Some, None}
use Rattle.std.specs.Process.{exit_code}
use Rattle.std.specs.declared.process.status.ExitStatus.{ExitStatus}
use Rattle.rc_model.specs.declared.Outcome.{Outcome}
use Rattle.rc_model.specs.declared.Outcome.TheVariants as outcome
use Rattle.rc_runner.specs.declared.start.Waited.{Waited}
use Rattle.rc_runner.specs.declared.start.Waited.TheVariants.{Ended, Running, Lost}

-- how an exit code counts under a limit in seconds, 0 for none: under a limit some codes tell
-- something else than a failure
abbrev pub outcome_of : (seconds code : ℕ) → Outcome
outcome_of seconds code =
    if code == 0 then outcome.Ok
    else (if seconds == 0 then outcome.Failed code
    else (if code == 124 then outcome.TimedOut
    else (if code == 126 || code == 127 then outcome.NotStarted
    else outcome.Failed code)))

-- a status counts so: by its exit code, or as 255 where a signal ended the program
abbrev pub CountsAs : ℕ → ExitStatus → Outcome → Type 0
CountsAs seconds status o =
    ((code : ℕ) → exit_code status ≡ Some (pos code) → code < 256 → o ≡ outcome_of seconds code)
    × (exit_code status ≡ None → o ≡ outcome.Failed 255)

-- the status that a program left counts so
abbrev pub IsToldBy : ℕ → Option ExitStatus → Outcome → Type 0
IsToldBy seconds None o = ⊥
IsToldBy seconds (Some status) o = CountsAs seconds status o

-- a program that left this status, if any, ended so under a limit in seconds, 0 for none: what is
-- told as done, or as failed, is what its status tells
abbrev pub IsEndOf : ℕ → Option ExitStatus → Outcome → Type 0
IsEndOf seconds status outcome.Ok = IsToldBy seconds status outcome.Ok
IsEndOf seconds status (outcome.Failed n) = IsToldBy seconds status (outcome.Failed n)
IsEndOf seconds status outcome.TimedOut = 0 < seconds
IsEndOf seconds status outcome.NotStarted = Unit {0}

-- what is known of a program that left this status, if any
abbrev pub IsWaited : Option ExitStatus → Waited → Type 0
IsWaited status (Ended told) = status ≡ Some told
IsWaited status Running = Unit {0}
IsWaited status Lost = Unit {0}

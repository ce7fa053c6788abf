-- What the program decides of the files and of the messages of a session.
use Rattle.std.specs.Prelude.{◌≡◌, ℕ, List, Option, None, Some}
use Rattle.log.specs.declared.level.LevelFilter.{LevelFilter}
use Rattle.log.specs.declared.level.LevelFilter.TheVariants.{Info, Off, Warn}
use Rattle.rc_script.specs.Says.{SaysStep}
use Rattle.rc_args.specs.OnceAsked.{OnceSaying, Said}
use Rattle.rc_args.specs.declared.verbosity.Verbosity.{Verbosity}
use Rattle.rc_args.specs.declared.verbosity.Verbosity.TheVariants.{Failures, Quiet, Transitions}
use Rattle.rc_cli.specs.declared.sessions.keeping.LiveFile.{LiveFile}
use Rattle.rc_cli.specs.declared.sessions.keeping.LiveFile.TheVariants.{Missing, Text, Unread}

-- a session is to do something: one of many lines, or one whose line says a command
abbrev pub Moves : Option OnceSaying → Type 0
Moves None = Unit {0}
Moves (Some (Said (SaysStep command))) = Unit {0}
Moves (Some other) = ⊥

-- what was read of a file: that there is none, or this text
abbrev pub IsFound : Option (List ℕ) → LiveFile → Type 0
IsFound found (Unread fault) = ⊥
IsFound None Missing = Unit {0}
IsFound None (Text bytes) = ⊥
IsFound (Some held) Missing = ⊥
IsFound (Some held) (Text bytes) = bytes.now ≡ held

-- up to which level messages are written where these transitions are reported
abbrev pub level_by : Verbosity → LevelFilter
level_by Quiet = Off
level_by Failures = Warn
level_by Transitions = Info

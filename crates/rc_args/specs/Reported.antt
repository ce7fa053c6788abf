-- Which transitions a command reports, by its flags.
use Rattle.std.specs.Prelude.{List, codes, if◌then◌else◌}
use Rattle.clap.specs.Words.{Row}
use Rattle.rc_args.specs.Words.{is_on}
use Rattle.rc_args.specs.declared.verbosity.Verbosity.{Verbosity}
use Rattle.rc_args.specs.declared.verbosity.Verbosity.TheVariants.{Failures, Quiet, Transitions}

-- what a session of lines reports: each transition where progress is asked for, those that do not
-- succeed under -v, and else none
abbrev pub lines_verbosity : List Row → Verbosity
lines_verbosity rows = if is_on (codes "progress") rows then Transitions
    else (if is_on (codes "verbose") rows then Failures else Quiet)

-- what one command reports: each transition under -v, none under -q, and else those that do not
-- succeed
abbrev pub command_verbosity : List Row → Verbosity
command_verbosity rows = if is_on (codes "verbose") rows then Transitions
    else (if is_on (codes "quiet") rows then Quiet else Failures)

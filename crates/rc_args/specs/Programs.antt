-- How the transitions of a session are made, by its options.
use Rattle.std.specs.Prelude.{◌≡◌, ℕ, List, Option, None, Some, [], codes, unwrap_or}
use Rattle.clap.specs.Words.{Row, Text, first_of}
use Rattle.rc_script.specs.Words.{words_in as spaced}
use Rattle.rc_args.specs.Listed.{Listed, SpellsList}
use Rattle.rc_args.specs.Limits.{IsLimitIn}

-- by a table of those that fail, with nothing started, or by programs: the text that names a runner
-- for oneshots, if one is named, that of a controller for longruns, and the limit of services that
-- have none, or 0
pub data MakingAsk : Type 0 where
  ByTable : List Listed → MakingAsk
  ByPrograms : (runner controller : Option Text) → ℕ → MakingAsk

-- programs are started
abbrev pub StartsBy : MakingAsk → Type 0
StartsBy (ByTable failing) = ⊥
StartsBy (ByPrograms runner controller limit) = Unit {0}

-- the transitions that are listed as failing
abbrev pub listed_in : MakingAsk → List Listed
listed_in (ByTable failing) = failing
listed_in (ByPrograms first second limit) = []

-- the words of the runner: those of the text that names it, and `/bin/sh -c` where none does
abbrev pub runner_in : Option Text → List Text
runner_in given = spaced (unwrap_or given (codes "/bin/sh -c"))

-- the words of the controller: those of the text that names it, and none where none does
abbrev pub controller_in : Option Text → List Text
controller_in given = spaced (unwrap_or given [])

-- where a list of transitions is given they are those that fail, whatever the
-- programs; else there are programs
abbrev pub MakesBy : (list runner controller limit : Option Text) → MakingAsk → Type 0
MakesBy (Some text) runner controller limit (ByTable failing) = SpellsList text failing
MakesBy (Some text) runner controller limit (ByPrograms first second usual) = ⊥
MakesBy None runner controller limit (ByTable failing) = ⊥
MakesBy None runner controller limit (ByPrograms first second usual) =
    (first ≡ runner) × (second ≡ controller) × IsLimitIn limit usual

-- the matches of `session` ask that transitions are made so
abbrev pub MakesIn : List Row → MakingAsk → Type 0
MakesIn rows making = MakesBy (first_of (codes "failing") rows) (first_of (codes "runner") rows)
    (first_of (codes "controller") rows) (first_of (codes "usual") rows) making

-- What the words ask of `session`.
use Rattle.std.specs.Prelude.{◌≡◌, ◌≤◌, ◌<◌, ◌^◌, ℕ, Bool, List, Option, None, Some, codes}
use Rattle.std.specs.Prelude.{option_map}
use Rattle.std.specs.Str.Parse.{IsNumeral, digits_value, without_leading_plus}
use Rattle.clap.specs.Words.{Row, Text, first_of}
use Rattle.rc_args.specs.Making.{making_ask_of}
use Rattle.rc_args.specs.Programs.{MakesIn, MakingAsk, StartsBy}
use Rattle.rc_args.specs.Reported.{command_verbosity, lines_verbosity}
use Rattle.rc_args.specs.Words.{is_on}
use Rattle.rc_args.specs.declared.session_request.SessionRequest.{SessionRequest}
use Rattle.rc_args.specs.declared.verbosity.Verbosity.{Verbosity}

-- what is asked of a session: how many workers it has, how transitions are made, which of them are
-- reported, how many states a new one has at most, the file that it goes on with and is kept in, if
-- one is named, whether that is waited for where another program holds it, and the directory that
-- keeps what scripts write, if one is named
pub record SessionAsk : Type 0 where
  pub workers : ℕ
  pub making : MakingAsk
  pub verbosity : Verbosity
  pub bound : ℕ
  pub live : Option Text
  pub waits : Bool
  pub output : Option Text

-- the text of a number of workers, from 1 to 64: digits, before which a plus may stand
abbrev pub SpellsCrew : Text → ℕ → Type 0
SpellsCrew text workers = IsNumeral 10 (without_leading_plus text)
    × (workers ≡ digits_value 10 (without_leading_plus text)) × (1 ≤ workers) × (workers ≤ 64)

-- the number of workers that is given, and 4 where none is
abbrev pub IsCrewIn : Option Text → ℕ → Type 0
IsCrewIn None workers = workers ≡ 4
IsCrewIn (Some text) workers = SpellsCrew text workers

-- the text of a bound on how many states there are, at least 3:
-- digits, before which a plus may stand
abbrev pub SpellsBound : Text → ℕ → Type 0
SpellsBound text bound = IsNumeral 10 (without_leading_plus text)
    × (bound ≡ digits_value 10 (without_leading_plus text)) × (3 ≤ bound) × (bound < 2 ^ 32)

-- the bound that is given, and 1,024 where none is
abbrev pub IsBoundIn : Option Text → ℕ → Type 0
IsBoundIn None bound = bound ≡ 1024
IsBoundIn (Some text) bound = SpellsBound text bound

-- the matches are those of this number of workers, of transitions that are made so, of which these
-- are reported, of this bound, of this file, waited for or not, and of this directory
pub record AsksOptionsIn (rows : List Row) (reported : Verbosity) (ask : SessionAsk) : Type 0 where
  pub workers : IsCrewIn (first_of (codes "workers") rows) ask.workers
  pub making : MakesIn rows ask.making
  pub verbosity : ask.verbosity ≡ reported
  pub bound : IsBoundIn (first_of (codes "bound") rows) ask.bound
  pub live : ask.live ≡ first_of (codes "live") rows
  pub waits : ask.waits ≡ is_on (codes "wait") rows
  pub output : ask.output ≡ first_of (codes "output") rows

-- the matches of `session` ask this
abbrev pub AsksLinesIn : List Row → SessionAsk → Type 0
AsksLinesIn rows ask = AsksOptionsIn rows (lines_verbosity rows) ask

-- the matches of another command ask this of its session
abbrev pub AsksSessionIn : List Row → SessionAsk → Type 0
AsksSessionIn rows ask = AsksOptionsIn rows (command_verbosity rows) ask

-- it starts programs
abbrev pub Starts : SessionAsk → Type 0
Starts ask = StartsBy ask.making

-- what a request of the program asks
abbrev pub session_ask_of : SessionRequest → SessionAsk
session_ask_of request = record {
  workers = request.workers;
  making = making_ask_of request.making;
  verbosity = request.verbosity;
  bound = request.bound;
  live = option_map (λ f. f.now) request.live;
  waits = request.waits;
  output = option_map (λ f. f.now) request.output;
}

use Rattle.std.proofs.Common.{ℕ, Option, codes, refl}
use Rattle.clap.specs.Words.{Text}
use Rattle.rc_args.specs.SessionAsked.{IsBoundIn, IsCrewIn}
use Rattle.rc_args.proofs.SessionWordsLemmas.{found_as, found_back}
use Rattle.rc_args.proofs.session_words.options_in.Goals as goal

-- a text that is given says this number of workers, or this bound
abbrev says_crew : ℕ → Option Text → Type 0
says_crew workers given = IsCrewIn given workers

abbrev says_bound : ℕ → Option Text → Type 0
says_bound bound given = IsBoundIn given bound

pub returns-in_default-clause-wrong : goal.returns-in_default-clause-wrong
returns-in_default-clause-wrong c = λ _ ask asks. c.in_default.ensures.none ask.workers
    (found_back (says_crew ask.workers) c.args.matches.now (codes "workers") _
    c.get_str.ensures asks.workers)

pub returns-in_default-bound_of-clause-wrong : goal.returns-in_default-bound_of-clause-wrong
returns-in_default-bound_of-clause-wrong c =
    λ _ ask asks. c.in_default-bound_of.ensures.none ask.bound
    (found_back (says_bound ask.bound) c.args.matches.now (codes "bound") _
    c.get_str-2.ensures asks.bound)

pub returns-in-Ok-clause-asked : goal.returns-in-Ok-clause-asked
returns-in-Ok-clause-asked c = record {
  workers =
      found_as (says_crew c.in-Some.workers) c.args.matches.now (codes "workers") _
      c.get_str.ensures c.in-Some.ensures.some;
  making = c.in-Ok.ensures.asked;
  verbosity = refl;
  bound =
      found_as (says_bound c.in-Some-bound_of.bound) c.args.matches.now (codes "bound") _
      c.get_str-2.ensures c.in-Some-bound_of.ensures.some;
  live = c.text_in.ensures;
  waits = c.is_on.ensures;
  output = c.text_in-in-Ok.ensures;
}

pub returns-in-Err-clause-wrong : goal.returns-in-Err-clause-wrong
returns-in-Err-clause-wrong c =
    λ other ask asks. c.in-Err.ensures.wrong other ask.making asks.making

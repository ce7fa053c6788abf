-- What workers make, as events that a gate may say.
use Rattle.std.proofs.Common.{◌≤◌, ℕ, Bool, List, [], Option, Result, Ok, Err, IfOk, get_or, arith}
use Rattle.std.proofs.lemmas.List.Elements.{All-nil}
use Rattle.rc_graph.specs.declared.Way.{Way}
use Rattle.rc_model.specs.declared.Outcome.{Outcome}
use Rattle.rc_model.specs.declared.Event.{Event}
use Rattle.rc_model.specs.declared.Event.TheVariants.{Take, Done, Stop}
use Rattle.rc_core.specs.Settled.{RunSoFar}
use Rattle.rc_board.specs.Made.{worker_of, IsSaid, IsTimely, IsSaidInTime, AreMade, AreMadeInTime}
use Rattle.rc_board.specs.Made.{AreTimely}

module _ (Answers : ℕ → Way → Outcome → Type 0) (Gives : ℕ → Type 0) (deadline : Option ℕ)
    (up : List Bool) where
  -- at first
  pub made_none : (n : ℕ) → AreMadeInTime n Answers Gives deadline up []
  made_none n = record {
    numbers = All-nil (λ (event : Event). worker_of event ≤ n);
    said = All-nil (IsSaidInTime Answers Gives deadline up);
  }

  -- where there are more workers
  pub made_by_more : (n m : ℕ) (events : List Event) → n ≤ m
      → AreMadeInTime n Answers Gives deadline up events
      → AreMadeInTime m Answers Gives deadline up events
  made_by_more n m events more made = record {
    numbers = λ k d low.
        let number : worker_of (get_or events k d) ≤ n = made.numbers k d low in
        omega (arith, number, more);
    said = made.said;
  }

  pub ok_by_more : {E : Type 0} (n m : ℕ) (r : Result RunSoFar E) → n ≤ m
      → IfOk r (λ ended. AreMadeInTime n Answers Gives deadline up ended.events)
      → IfOk r (λ ended. AreMadeInTime m Answers Gives deadline up ended.events)
  ok_by_more n m (Ok ended) more made = made_by_more n m ended.events more made
  ok_by_more n m (Err e) more made = tt

-- what tells of a gate what it may say, and in time, does both
said_of : (Answers : ℕ → Way → Outcome → Type 0) (Gives : ℕ → Type 0) (deadline : Option ℕ)
    (up : List Bool) (e : Event) → IsSaidInTime Answers Gives deadline up e
    → IsSaid Answers Gives up e
said_of Answers Gives deadline up (Take w s) said = tt
said_of Answers Gives deadline up (Done w s o) said = said
said_of Answers Gives deadline up (Stop w m) said = said

timely_of : (Answers : ℕ → Way → Outcome → Type 0) (Gives : ℕ → Type 0) (deadline : Option ℕ)
    (up : List Bool) (e : Event) → IsSaidInTime Answers Gives deadline up e
    → IsTimely Gives deadline e
timely_of Answers Gives deadline up (Take w s) said = said
timely_of Answers Gives deadline up (Done w s o) said = tt
timely_of Answers Gives deadline up (Stop w m) said = tt

module _ (workers : ℕ) (Answers : ℕ → Way → Outcome → Type 0) (Gives : ℕ → Type 0)
    (deadline : Option ℕ) (up : List Bool) (events : List Event)
    (made : AreMadeInTime workers Answers Gives deadline up events) where
  pub made_at_all : AreMade workers Answers Gives up events
  made_at_all = record {
    numbers = made.numbers;
    said = λ k d low. said_of Answers Gives deadline up (get_or events k d) (made.said k d low);
  }

  pub made_timely : AreTimely Gives deadline events
  made_timely =
      λ k d low. timely_of Answers Gives deadline up (get_or events k d) (made.said k d low)

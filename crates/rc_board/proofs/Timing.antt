-- What the time of a gate tells of a take, and of a stop.
use Rattle.std.proofs.Common.{ℕ, Option, Some, None}
use Rattle.rc_board.specs.Made.{IsInTime}
use Rattle.rc_board.specs.Timing.{IsBefore, IsReached}

module _ (Gives : ℕ → Type 0) where
  -- what is before the deadline is in time
  pub in_time : (deadline moment : Option ℕ) → IsBefore Gives deadline moment
      → IsInTime Gives deadline
  in_time None moment before = tt
  in_time (Some deadline) None before = absurd before
  in_time (Some deadline) (Some moment) before = (moment, before.0, before.1)

  -- a moment that has reached the deadline is one that the gate may give
  pub given_late : (deadline : Option ℕ) (moment : ℕ) → IsReached Gives deadline moment
      → Gives moment
  given_late None moment reached = absurd reached
  given_late (Some deadline) moment reached = reached.0

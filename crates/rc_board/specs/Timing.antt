-- What the time of a gate is to a deadline.
use Rattle.std.specs.Prelude.{◌≤◌, ◌<◌, ℕ, Option, Some, None}
use Rattle.rc_board.specs.declared.time.Time.{Time}
use Rattle.rc_board.specs.declared.time.Time.TheVariants.{Late, Early}

-- a moment that the gate may give has reached the deadline
abbrev pub IsReached : (ℕ → Type 0) → Option ℕ → ℕ → Type 0
IsReached Gives None moment = ⊥
IsReached Gives (Some deadline) moment = Gives moment × (deadline ≤ moment)

-- the moment that was asked for is one that the gate may give, and before the deadline; where there
-- is no deadline, none is asked for
abbrev pub IsBefore : (ℕ → Type 0) → Option ℕ → Option ℕ → Type 0
IsBefore Gives None moment = Unit {0}
IsBefore Gives (Some deadline) None = ⊥
IsBefore Gives (Some deadline) (Some moment) = Gives moment × (moment < deadline)

-- the time is told by the gate and this deadline
abbrev pub IsTimeOf : (ℕ → Type 0) → Option ℕ → Time → Type 0
IsTimeOf Gives deadline (Late moment) = IsReached Gives deadline moment
IsTimeOf Gives deadline (Early leave) = IsBefore Gives deadline leave.moment

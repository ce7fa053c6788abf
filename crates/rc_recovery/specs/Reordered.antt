-- The order in which several workers log their events.
use Rattle.std.specs.Prelude.{◌≡◌, ◌≢◌, ◌++◌, ◌∷◌, [], List}
use Rattle.rc_model.specs.declared.Event.{Event}
use Rattle.rc_model.specs.declared.Event.TheVariants.{Take, Done, Stop}

-- two events, one after the other in a run, may be logged the other way round, since two workers
-- log them: a worker logs a take after it was made, and an end before it counts, so an end and a
-- take after it are logged in their order
abbrev pub MayTurn : (first second : Event) → Type 0
MayTurn (Take w s) (Take v t) = w ≢ v
MayTurn (Take w s) (Done v t o) = w ≢ v
MayTurn (Done w s o) (Done v t p) = w ≢ v
MayTurn first second = ⊥

-- two such events change places, whatever stands before and behind them
pub record IsTurned (old new : List Event) : Type 0 where
  pub before : List Event
  pub first : Event
  pub second : Event
  pub behind : List Event
  pub may : MayTurn first second
  pub old_is : old ≡ before ++ first ∷ second ∷ behind
  pub new_is : new ≡ before ++ second ∷ first ∷ behind

-- events are reordered by a number of such changes, with these lists in between
abbrev pub AreReordered : List (List Event) → (old new : List Event) → Type 0
AreReordered [] old new = new ≡ old
AreReordered (next ∷ steps) old new = IsTurned old next × AreReordered steps next new

-- the events of a run that are logged: that it is stopped is not
abbrev pub without_stops : List Event → List Event
without_stops [] = []
without_stops (Take w s ∷ events) = Take w s ∷ without_stops events
without_stops (Done w s o ∷ events) = Done w s o ∷ without_stops events
without_stops (Stop w m ∷ events) = without_stops events

-- What is made of the events of a run that was cut short.
use Rattle.std.specs.Prelude.{◌≡◌, ◌==◌, ◌&&◌, ◌++◌, ◌∷◌, [], ℕ, List, Bool, false, if◌then◌else◌}
use Rattle.std.specs.List.{fold, list_any}
use Rattle.rc_model.specs.declared.Event.{Event}
use Rattle.rc_model.specs.declared.Event.TheVariants.{Take, Done, Stop}
use Rattle.rc_model.specs.declared.Outcome.TheVariants as outcome
use Rattle.rc_model.specs.Run.{IsHeldBy}

-- whether an event ends the transition that this worker makes of this service
abbrev pub ends : ℕ → ℕ → Event → Bool
ends w s (Take v t) = false
ends w s (Done v t o) = (v == w) && (t == s)
ends w s (Stop v m) = false

-- the events, and the end of a transition that one of them begins, where it has none: nobody saw it
-- end, so it counts as one that failed
abbrev pub with_end : List Event → Event → List Event
with_end events (Take w s) =
    if list_any (ends w s) events then events else events ++ Done w s outcome.NotStarted ∷ []
with_end events (Done w s o) = events
with_end events (Stop w m) = events

-- the events, and an end of each transition that was under way
abbrev pub with_ends : List Event → List Event
with_ends logged = fold with_end logged logged

-- worker 1 stops the run at the last moment that there is
abbrev pub last_stop : Event
last_stop = Stop 1 18446744073709551615

-- an event that ends, as failed, what was under way after these
abbrev pub IsEndOf : List Event → Event → Type 0
IsEndOf logged event =
    (w : ℕ) × (s : ℕ) × IsHeldBy logged w s × (event ≡ Done w s outcome.NotStarted)

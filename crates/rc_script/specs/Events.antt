-- Event lines.
use Rattle.std.specs.Prelude.{ℕ, List, [], ◌∷◌, Option, None, Some, codes, option_and_then}
use Rattle.std.specs.Prelude.{option_map, suc, if◌then◌else◌}
use Rattle.std.specs.Str.{bytes_eq}
use Rattle.rc_model.specs.declared.Outcome.{Outcome}
use Rattle.rc_model.specs.declared.Outcome.TheVariants as outcome
use Rattle.rc_model.specs.declared.Event.{Event}
use Rattle.rc_model.specs.declared.Event.TheVariants.{Take, Done, Stop}
use Rattle.rc_script.specs.Numbers.{number_in, status_in}

-- the place of a name
abbrev pub place_of : List (List ℕ) → List ℕ → Option ℕ
place_of [] name = None
place_of (first ∷ names) name =
    if bytes_eq first name then Some 0 else option_map (λ place. suc place) (place_of names name)

-- how a transition ended, by the one word that says so
abbrev pub plain_outcome : List ℕ → Option Outcome
plain_outcome word =
    if bytes_eq word (codes "ok") then Some outcome.Ok
    else if bytes_eq word (codes "timeout") then Some outcome.TimedOut
    else if bytes_eq word (codes "nostart") then Some outcome.NotStarted
    else None

-- how a transition ended, by the words that say so
abbrev pub outcome_in : List (List ℕ) → Option Outcome
outcome_in [] = None
outcome_in (word ∷ []) = plain_outcome word
outcome_in (word ∷ number ∷ []) =
    if bytes_eq word (codes "failed") then option_map outcome.Failed (status_in number) else None
outcome_in (word ∷ number ∷ more ∷ words) = None

-- a worker takes a service
abbrev pub take_in : List (List ℕ) → (worker name : List ℕ) → (words : List (List ℕ)) → Option Event
take_in names worker name [] =
    option_and_then (λ w. option_map (λ s. Take w s) (place_of names name)) (number_in 8 worker)
take_in names worker name (word ∷ words) = None

-- a worker has done with a service
abbrev pub done_in : List (List ℕ) → (worker name : List ℕ) → (words : List (List ℕ)) → Option Event
done_in names worker name words =
    option_and_then (λ w. option_and_then (λ s. option_map (λ o. Done w s o) (outcome_in words))
    (place_of names name)) (number_in 8 worker)

-- a worker stops the run at a moment
abbrev pub stop_in : (worker moment : List ℕ) → (words : List (List ℕ)) → Option Event
stop_in worker moment [] =
    option_and_then (λ w. option_map (λ m. Stop w m) (number_in 64 moment)) (number_in 8 worker)
stop_in worker moment (word ∷ words) = None

-- the event that a verb gives with the words after it
abbrev pub event_by : List (List ℕ) → (verb worker object : List ℕ) → (words : List (List ℕ)) →
    Option Event
event_by names verb worker object words =
    if bytes_eq verb (codes "take") then take_in names worker object words
    else if bytes_eq verb (codes "done") then done_in names worker object words
    else if bytes_eq verb (codes "stop") then stop_in worker object words
    else None

-- the event that words give, of the services of these names
abbrev pub event_in : List (List ℕ) → List (List ℕ) → Option Event
event_in names [] = None
event_in names (verb ∷ []) = None
event_in names (verb ∷ worker ∷ []) = None
event_in names (verb ∷ worker ∷ object ∷ words) = event_by names verb worker object words

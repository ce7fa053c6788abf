-- What events contain after one more of them.
use Rattle.std.proofs.Common.{◌≡◌, ℕ, Bool, false, List, [], ◌∷◌, ◌++◌, ◌⊎◌, inl, inr, Contains, ap}
use Rattle.std.proofs.Common.{sym}
use Rattle.std.proofs.lemmas.List.Elements.{Contains-append_left, Contains-push_cases}
use Rattle.rc_model.specs.declared.Outcome.{Outcome}
use Rattle.rc_model.specs.declared.Event.{Event}
use Rattle.rc_model.specs.declared.Event.TheVariants.{Take, Done, Stop}
use Rattle.rc_model.specs.Run.{is_success}

-- the parts of an event
abbrev worker_of : Event → ℕ
worker_of (Take w s) = w
worker_of (Done w s o) = w
worker_of (Stop w m) = w

abbrev service_of : Event → ℕ
service_of (Take w s) = s
service_of (Done w s o) = s
service_of (Stop w m) = 0

abbrev fails : Event → Bool
fails (Take w s) = false
fails (Done w s o) = is_success o
fails (Stop w m) = false

-- what was there is there after one more event
pub still_there : (events : List Event) (e x : Event) → Contains events x
    → Contains (events ++ e ∷ []) x
still_there events e x h = Contains-append_left events (e ∷ []) x h

-- a take that is there after a take
pub take_then_take : (events : List Event) (w s v t : ℕ)
    → Contains (events ++ Take w s ∷ []) (Take v t)
    → Contains events (Take v t) ⊎ ((v ≡ w) × (t ≡ s))
take_then_take events w s v t h = elim (Contains-push_cases events (Take w s) (Take v t) h) [
  | inl before ↦ inl before
  | inr now ↦ inr (sym (ap worker_of now), sym (ap service_of now))
]

pub take_then_done : (events : List Event) (w s : ℕ) (o : Outcome) (v t : ℕ)
    → Contains (events ++ Done w s o ∷ []) (Take v t) → Contains events (Take v t)
take_then_done events w s o v t h = elim (Contains-push_cases events (Done w s o) (Take v t) h) [
  | inl before ↦ before
  | inr now ↦ absurd (let bad : Done w s o ≡ Take v t = now in cc)
]

pub take_then_stop : (events : List Event) (w m v t : ℕ)
    → Contains (events ++ Stop w m ∷ []) (Take v t) → Contains events (Take v t)
take_then_stop events w m v t h = elim (Contains-push_cases events (Stop w m) (Take v t) h) [
  | inl before ↦ before
  | inr now ↦ absurd (let bad : Stop w m ≡ Take v t = now in cc)
]

pub done_then_take : (events : List Event) (w s v t : ℕ) (o : Outcome)
    → Contains (events ++ Take w s ∷ []) (Done v t o) → Contains events (Done v t o)
done_then_take events w s v t o h = elim (Contains-push_cases events (Take w s) (Done v t o) h) [
  | inl before ↦ before
  | inr now ↦ absurd (let bad : Take w s ≡ Done v t o = now in cc)
]

pub done_then_done : (events : List Event) (w s : ℕ) (o : Outcome) (v t : ℕ) (p : Outcome)
    → Contains (events ++ Done w s o ∷ []) (Done v t p)
    → Contains events (Done v t p) ⊎ ((v ≡ w) × (t ≡ s) × (is_success p ≡ is_success o))
done_then_done events w s o v t p h =
    elim (Contains-push_cases events (Done w s o) (Done v t p) h) [
      | inl before ↦ inl before
      | inr now ↦ inr (sym (ap worker_of now), sym (ap service_of now), sym (ap fails now))
    ]

pub done_then_stop : (events : List Event) (w m v t : ℕ) (o : Outcome)
    → Contains (events ++ Stop w m ∷ []) (Done v t o) → Contains events (Done v t o)
done_then_stop events w m v t o h = elim (Contains-push_cases events (Stop w m) (Done v t o) h) [
  | inl before ↦ before
  | inr now ↦ absurd (let bad : Stop w m ≡ Done v t o = now in cc)
]

pub stop_then_take : (events : List Event) (w s v m : ℕ)
    → Contains (events ++ Take w s ∷ []) (Stop v m) → Contains events (Stop v m)
stop_then_take events w s v m h = elim (Contains-push_cases events (Take w s) (Stop v m) h) [
  | inl before ↦ before
  | inr now ↦ absurd (let bad : Take w s ≡ Stop v m = now in cc)
]

pub stop_then_done : (events : List Event) (w s : ℕ) (o : Outcome) (v m : ℕ)
    → Contains (events ++ Done w s o ∷ []) (Stop v m) → Contains events (Stop v m)
stop_then_done events w s o v m h = elim (Contains-push_cases events (Done w s o) (Stop v m) h) [
  | inl before ↦ before
  | inr now ↦ absurd (let bad : Done w s o ≡ Stop v m = now in cc)
]

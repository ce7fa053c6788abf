-- The closures of fewer members are smaller.
use Rattle.std.proofs.Common.{ℕ, List, inl, inr}
use Rattle.rc_model.specs.Graph.{UpFrom, DownFrom}

pub up_more : (needs : List (List ℕ)) (In Also : ℕ → Type 0) → ((s : ℕ) → In s → Also s) → (t : ℕ)
    → UpFrom needs In t → UpFrom needs Also t
up_more needs In Also there t up =
    elim up [ inl here ↦ inl (there t here) | inr from ↦ inr (from.0, there from.0 from.1, from.2) ]

pub down_more : (needs : List (List ℕ)) (In Also : ℕ → Type 0) → ((s : ℕ) → In s → Also s)
    → (t : ℕ) → DownFrom needs In t → DownFrom needs Also t
down_more needs In Also there t down = elim down [
  | inl here ↦ inl (there t here)
  | inr from ↦ inr (from.0, there from.0 from.1, from.2)
]

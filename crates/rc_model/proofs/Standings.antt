-- Where services stand before the first event.
use Rattle.std.proofs.Common.{◌≡◌, ℕ, List, Bool, true, false}
use Rattle.std.proofs.Common.{if◌then◌else◌, slice_index_or, ap, refl}
use Rattle.rc_model.specs.Names.{Has}
use Rattle.rc_model.specs.declared.Standing.{Standing}
use Rattle.rc_model.specs.declared.Standing.TheVariants.{Down, Up}

-- how a service stands at first: up if the set has it
abbrev pub first_of : List Bool → ℕ → Standing
first_of up s = if slice_index_or up s false then Up else Down

-- a flag that is not set is false
pub false_unless : (flag : Bool) → (flag ≡ true → ⊥) → flag ≡ false
false_unless true not_set = absurd (not_set refl)
false_unless false not_set = refl

-- a service of the set is up at first
pub first_up : (up : List Bool) (s : ℕ) → Has up s → first_of up s ≡ Up
first_up up s has = ap (λ (flag : Bool). if flag then Up else Down) has

-- any other service is down at first
pub first_down : (up : List Bool) (s : ℕ) → (Has up s → ⊥) → first_of up s ≡ Down
first_down up s lacks =
    ap (λ (flag : Bool). if flag then Up else Down) (false_unless (slice_index_or up s false) lacks)

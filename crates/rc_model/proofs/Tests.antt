-- A test passes or it fails.
use Rattle.std.proofs.Common.{◌≡◌, Bool, true, false, refl}

pub told : (b : Bool) (P : Type 0) → (b ≡ true → P) → (b ≡ false → P) → P
told true P first second = first refl
told false P first second = second refl

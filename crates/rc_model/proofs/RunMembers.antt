-- A set that loses a member has fewer.
use Rattle.std.proofs.Common.{◌≡◌, ℕ, ◌+◌, ◌<◌, List, [], ◌∷◌, Bool, true, false, not, cond, length}
use Rattle.std.proofs.Common.{count_by, refl, sym, arith}
use Rattle.std.proofs.lemmas.List.Sums.{sum_by-cons}
use Rattle.rc_model.specs.Names.{Has}
use Rattle.rc_model.proofs.Counting.{fewer_left}

-- each place is in or out
in_and_out : (set : List Bool) → count_by (λ flag. flag) set + count_by not set ≡ length set
in_and_out [] = refl
in_and_out (true ∷ set) =
    omega (
      arith,
      in_and_out set,
      sum_by-cons (λ (flag : Bool). cond flag 1 0) true set,
      sum_by-cons (λ (flag : Bool). cond (not flag) 1 0) true set,
    )
in_and_out (false ∷ set) =
    omega (
      arith,
      in_and_out set,
      sum_by-cons (λ (flag : Bool). cond flag 1 0) false set,
      sum_by-cons (λ (flag : Bool). cond (not flag) 1 0) false set,
    )

-- a set within another that lost a member has fewer members
pub fewer_in : (old new : List Bool) (id : ℕ) → length new ≡ length old
    → ((s : ℕ) → Has new s → Has old s) → Has old id → (Has new id → ⊥)
    → count_by (λ flag. flag) new < count_by (λ flag. flag) old
fewer_in old new id bound within in_old out_new =
    let more : count_by not old < count_by not new =
    fewer_left new old id (sym bound) within in_old out_new in
    omega (arith, in_and_out old, in_and_out new)

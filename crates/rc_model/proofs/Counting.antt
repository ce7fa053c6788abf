-- A set that gains members leaves fewer out.
use Rattle.std.proofs.Common.{◌≡◌, ◌∙◌, ℕ, ◌+◌, ◌<◌, ◌≤◌, List, [], ◌∷◌, Bool, true, false, not}
use Rattle.std.proofs.Common.{length, count_by, zero, suc, refl, arith}
use Rattle.std.proofs.lemmas.List.Sums.{sum_by-cons, count_by-le-length}
use Rattle.rc_model.specs.Names.{Has}

in_cons : (xs : List Bool) → count_by not (true ∷ xs) ≡ count_by not xs
in_cons xs = sum_by-cons _ true xs ∙ omega arith

out_cons : (xs : List Bool) → count_by not (false ∷ xs) ≡ count_by not xs + 1
out_cons xs = sum_by-cons _ false xs ∙ omega arith

-- a set that keeps its members leaves no more out than before
pub no_more_left : (old new : List Bool) → length new ≡ length old
    → ((s : ℕ) → Has old s → Has new s) → count_by not new ≤ count_by not old
no_more_left [] new bound grows =
    let none : count_by not new ≤ length new = count_by-le-length not new in omega arith
no_more_left (x ∷ old) [] bound grows = absurd (omega arith)
no_more_left (true ∷ old) (true ∷ new) bound grows =
    let rest : count_by not new ≤ count_by not old = no_more_left old new (omega arith)
    (λ s. grows (suc s)) in omega (arith, in_cons old, in_cons new)
no_more_left (true ∷ old) (false ∷ new) bound grows = let bad : false ≡ true = grows 0 refl in cc
no_more_left (false ∷ old) (true ∷ new) bound grows =
    let rest : count_by not new ≤ count_by not old = no_more_left old new (omega arith)
    (λ s. grows (suc s)) in omega (arith, out_cons old, in_cons new)
no_more_left (false ∷ old) (false ∷ new) bound grows =
    let rest : count_by not new ≤ count_by not old = no_more_left old new (omega arith)
    (λ s. grows (suc s)) in omega (arith, out_cons old, out_cons new)

-- a set that gains a member leaves fewer out
pub fewer_left : (old new : List Bool) (id : ℕ) → length new ≡ length old
    → ((s : ℕ) → Has old s → Has new s) → Has new id → (Has old id → ⊥)
    → count_by not new < count_by not old
fewer_left old [] id bound grows in_new out_old = let bad : false ≡ true = in_new in cc
fewer_left [] (y ∷ new) id bound grows in_new out_old = absurd (omega arith)
fewer_left (true ∷ old) (y ∷ new) zero bound grows in_new out_old = absurd (out_old refl)
fewer_left (false ∷ old) (false ∷ new) zero bound grows in_new out_old =
    let bad : false ≡ true = in_new in cc
fewer_left (false ∷ old) (true ∷ new) zero bound grows in_new out_old =
    let rest : count_by not new ≤ count_by not old = no_more_left old new (omega arith)
    (λ s. grows (suc s)) in omega (arith, out_cons old, in_cons new)
fewer_left (true ∷ old) (true ∷ new) (suc id) bound grows in_new out_old =
    let rest : count_by not new < count_by not old = fewer_left old new id (omega arith)
    (λ s. grows (suc s)) in_new out_old in omega (arith, in_cons old, in_cons new)
fewer_left (true ∷ old) (false ∷ new) (suc id) bound grows in_new out_old =
    let bad : false ≡ true = grows 0 refl in cc
fewer_left (false ∷ old) (true ∷ new) (suc id) bound grows in_new out_old =
    let rest : count_by not new < count_by not old = fewer_left old new id (omega arith)
    (λ s. grows (suc s)) in_new out_old in omega (arith, out_cons old, in_cons new)
fewer_left (false ∷ old) (false ∷ new) (suc id) bound grows in_new out_old =
    let rest : count_by not new < count_by not old = fewer_left old new id (omega arith)
    (λ s. grows (suc s)) in_new out_old in omega (arith, out_cons old, out_cons new)

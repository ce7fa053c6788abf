-- A text that begins an input, and what is after it.
use Rattle.std.proofs.Common.{◌≡◌, ◌∙◌, ◌≤◌, ◌-◌, ◌++◌, ℕ, List, ap, arith, drop, length}
use Rattle.std.proofs.Common.{length-append, subst, sym, take}
use Rattle.std.proofs.Math.Seq.{drop-append_seam}
use Rattle.std.proofs.lemmas.List.{take_rest}

-- it ends within the input
pub front_within : (front rest input : List ℕ) (taken : ℕ) → input ≡ front ++ rest
    → taken ≡ length front → taken ≤ length input
front_within front rest input taken is at =
    let sum = length-append front rest in
    let same : length input ≡ length (front ++ rest) = ap length is in
    omega (arith, sum, same, at)

-- and all after its end is the rest
pub after_front : (front rest input : List ℕ) (taken : ℕ) → input ≡ front ++ rest
    → taken ≡ length front → input ≡ front ++ take (length input - taken) (drop taken input)
after_front front rest input taken is at =
    let left : drop taken input ≡ rest = subst (λ (n : ℕ). drop n input ≡ rest) (sym at)
    (subst (λ (x : List ℕ). drop (length front) x ≡ rest) (sym is) (drop-append_seam front rest)) in
    is ∙ ap (λ (x : List ℕ). front ++ x) (sym (take_rest input taken ∙ left))

pub rest_after : (front rest input : List ℕ) (taken : ℕ) → input ≡ front ++ rest
    → taken ≡ length front → input ≡ front ++ drop taken input
rest_after front rest input taken is at =
    let left : drop taken input ≡ rest = subst (λ (n : ℕ). drop n input ≡ rest) (sym at)
    (subst (λ (x : List ℕ). drop (length front) x ≡ rest) (sym is) (drop-append_seam front rest)) in
    is ∙ ap (λ (x : List ℕ). front ++ x) (sym left)

use Rattle.std.proofs.Common.{◌≡◌, ◌∙◌, sym, arith}
use Rattle.std.proofs.lemmas.Fmt.{decimal_injective}
use Rattle.rc_livetext.proofs.lines.bound_of.Goals as goal

pub returns-else-is_enough : goal.returns-else-is_enough
returns-else-is_enough c = λ n is same.
    let eq : c.in_ok-bound.bound ≡ n = decimal_injective c.in_ok-bound.bound n
    (omega (arith, c.in_ok-bound.ensures.0)) (omega (arith, is.1))
    (sym c.in_ok-bound.ensures.1 ∙ same) in
    omega (arith, is.0, eq)

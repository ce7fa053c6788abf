use Rattle.std.proofs.Common.{◌≡◌, ◌∙◌, sym, arith}
use Rattle.std.proofs.lemmas.Fmt.{decimal_injective}
use Rattle.rc_historytext.proofs.lines.below.Goals as goal

pub returns-else-is_there : goal.returns-else-is_there
returns-else-is_there c = λ n m low few first second.
    let present : c.in-Some-number_of.present ≡ n =
    decimal_injective c.in-Some-number_of.present n
    (omega (arith, c.in-Some-number_of.ensures.0)) (omega arith)
    (sym c.in-Some-number_of.ensures.1 ∙ first) in
    let count : c.in-Some.count ≡ m = decimal_injective c.in-Some.count m
    (omega (arith, c.in-Some.ensures.0)) (omega arith) (sym c.in-Some.ensures.1 ∙ second) in
    omega arith

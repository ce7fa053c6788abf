use Rattle.std.proofs.Common.{◌≡◌, ◌∙◌, ◌∷◌, ◌++◌, [], List, ℕ, arith, ap, sym}
use Rattle.std.specs.Fmt.{decimal}
use Rattle.rc_dbtext.specs.Text.{line_of_words}
use Rattle.rc_dbtext.proofs.Numbers.{decimal-number}
use Rattle.rc_dbtext.proofs.syntax.lines.count_line.Goals as goal

pub returns-in-Some-clause-ok : goal.returns-in-Some-clause-ok
returns-in-Some-clause-ok c =
    let read = c.in_ok-number.ensures.ok in
    let value = c.in-Some.ensures in
    let same : decimal c.in-Some.count ≡ c.in_ok-number.number.now = ap decimal value.1
    ∙ decimal-number c.in_ok-number.number.now read.0 (omega (arith, value.0, value.1)) in (
      value.0,
      read.1
          ∙ ap (λ (n : List ℕ). line_of_words (c.args.word.now ∷ n ∷ []) ++ c.in_ok-number.rest.now)
          (sym same),
    )

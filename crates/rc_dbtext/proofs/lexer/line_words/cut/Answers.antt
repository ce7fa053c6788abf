use Rattle.std.proofs.Common.{◌≡◌, ◌∙◌, ◌-◌, ℕ, List, length, take, get_or, arith, sym, ap}
use Rattle.std.proofs.lemmas.Bool.{eq-eqb, eqb-true}
use Rattle.std.proofs.lemmas.Str.{IsCharBoundary-after_ascii}
use Rattle.rc_dbtext.proofs.Taking.{cut_at}
use Rattle.rc_dbtext.proofs.lexer.line_words.cut.Goals as goal

pub range_from-requires : goal.range_from-requires
range_from-requires c = λ some.
    let found = c.in_ok-end.ensures in
    let same = c.as_bytes.ensures.value in
    let space : get_or c.args.line.now c.in_ok-end.end 0 ≡ 32 =
    ap (λ (l : List ℕ). get_or l c.in_ok-end.end 0) (sym same) ∙ eqb-true _ 32 found.1 in
    IsCharBoundary-after_ascii c.args.line.now c.in_ok-end.end c.utf8.line
    (omega (arith, found.0.high, ap length same)) (omega (arith, space))

pub returns-clause-some : goal.returns-clause-some
returns-clause-some c =
    let found = c.in_ok-end.ensures in
    let same = c.as_bytes.ensures.value in
    let space : get_or c.args.line.now c.in_ok-end.end 0 ≡ 32 =
    ap (λ (l : List ℕ). get_or l c.in_ok-end.end 0) (sym same) ∙ eqb-true _ 32 found.1 in
    let whole : c.in_ok-end.end - 0 ≡ c.in_ok-end.end = omega arith in
    cut_at c.args.line.now c.range.result.now c.range_from.result.now c.in_ok-end.end
    (omega (arith, found.0.high, ap length same)) space
    (λ k below is. found.0.before k (omega arith) below
    (eq-eqb _ 32 (ap (λ (l : List ℕ). get_or l k 0) same ∙ is)))
    (c.range.ensures.value ∙ ap (λ (n : ℕ). take n c.args.line.now) whole)
    c.range_from.ensures.value

use Rattle.std.proofs.Common.{◌∙◌, ◌≡◌, ◌≤◌, ℕ, List, get_or, [], ap, sym, subst}
use Rattle.std.specs.Fmt.{decimal}
use Rattle.rc_historytext.specs.Due.{AtCount}
use Rattle.rc_historytext.proofs.Missing.{no_text_here, other_here, no_count}
use Rattle.rc_historytext.proofs.lines.count_line.Goals as goal

pub returns-in_default : goal.returns-in_default
returns-in_default c = λ more.
    no_text_here (AtCount c.args.is_oldest more) c.args.bytes.now c.in_default.ensures

pub returns-in_default-argument : goal.returns-in_default-argument
returns-in_default-argument c = λ more.
    other_here (AtCount c.args.is_oldest more) c.args.bytes.now c.in-Some.rest.now c.in-Some.words
    c.in-Some.ensures
    (λ l. no_count c.in-Some.words c.args.is_oldest more
    (λ n few. c.in_default-argument.ensures (decimal n)) l c.in-Some.rest.now)

pub returns-in_default-number_of : goal.returns-in_default-number_of
returns-in_default-number_of c = λ more.
    other_here (AtCount c.args.is_oldest more) c.args.bytes.now c.in-Some.rest.now c.in-Some.words
    c.in-Some.ensures
    (λ l. no_count c.in-Some.words c.args.is_oldest more
    (λ n few same.
    let at : get_or c.in-Some.words 1 [] ≡ decimal n =
    ap (λ (ws : List (List ℕ)). get_or ws 1 []) same in
    let given : get_or c.in-Some.words 1 [] ≡ c.in-Some-argument.count.now =
    ap (λ (ws : List (List ℕ)). get_or ws 1 []) c.in-Some-argument.ensures in
    c.in_default-number_of.ensures n
    (subst (λ (k : ℕ). n ≤ k) (sym c.most_renames.ensures) few) (sym given ∙ at)) l
    c.in-Some.rest.now)

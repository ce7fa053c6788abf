use Rattle.std.proofs.Common.{◌∙◌, ℕ, List, get_or, [], ap, sym}
use Rattle.rc_historytext.specs.Due.{AtRename}
use Rattle.rc_historytext.proofs.Missing.{no_text_here, other_here, no_rename}
use Rattle.rc_historytext.proofs.lines.rename_line.Goals as goal

pub returns-in_default : goal.returns-in_default
returns-in_default c = λ left more.
    no_text_here (AtRename left more) c.args.bytes.now c.in_default.ensures

pub returns-in_default-two_arguments : goal.returns-in_default-two_arguments
returns-in_default-two_arguments c = λ left more.
    other_here (AtRename left more) c.args.bytes.now c.in-Some.rest.now c.in-Some.words
    c.in-Some.ensures
    (λ l. no_rename c.in-Some.words left more
    (λ r is. c.in_default-two_arguments.ensures r.old r.new) l c.in-Some.rest.now)

pub returns-in_default-rename_of : goal.returns-in_default-rename_of
returns-in_default-rename_of c = λ left more.
    other_here (AtRename left more) c.args.bytes.now c.in-Some.rest.now c.in-Some.words
    c.in-Some.ensures
    (λ l. no_rename c.in-Some.words left more
    (λ r is same.
    c.in_default-rename_of.ensures r is
    (ap (λ (ws : List (List ℕ)). get_or ws 1 []) (sym c.in-Some-two_arguments.ensures ∙ same))
    (ap (λ (ws : List (List ℕ)). get_or ws 2 []) (sym c.in-Some-two_arguments.ensures ∙ same))) l
    c.in-Some.rest.now)

use Rattle.std.proofs.Common.{◌∙◌, [], ◌∷◌, ◌++◌, All, sym, ap, subst, reverse}
use Rattle.std.proofs.lemmas.List.{append-nil}
use Rattle.std.proofs.lemmas.List.Elements.{All-cons, All-nil}
use Rattle.rc_model.specs.Names.{IsName}
use Rattle.rc_source.specs.Texts.{trimmed_line, without_blanks}
use Rattle.rc_source.specs.declared.fault.Flaw.TheVariants.{Memory}
use Rattle.rc_source.proofs.Exits.{exit, exit_memory, no_success}
use Rattle.rc_source.proofs.Lines.{none_of_line, one_name, one_of_line}
use Rattle.rc_source.proofs.text.add_line.Goals as goal

pub returns-in_err-name-clause-fault : goal.returns-in_err-name-clause-fault
returns-in_err-name-clause-fault c =
    let told = c.in_err-name.ensures.fault in
    let line = c.without_end-line.ensures ∙ ap (λ l. reverse (without_blanks (reverse l)))
    c.without_front.ensures in
    exit c.from_residual.result c.in_err-name.field-0.0 _ c.from_residual.ensures.1
    (λ no_memory. (
      (told no_memory).0,
      λ all. (told no_memory).1
          (one_name IsName c.without_end-line.result.now (trimmed_line c.args.line.now) line
          (sym c.is_counted.ensures ∙ c.if-not-is_counted.false) all),
    ))

pub returns-in_err-name-clause-names : goal.returns-in_err-name-clause-names
returns-in_err-name-clause-names c =
    no_success c.from_residual.result c.in_err-name.field-0.0 _ c.from_residual.ensures.1

pub returns-in_err-name-clause-each : goal.returns-in_err-name-clause-each
returns-in_err-name-clause-each c =
    no_success c.from_residual.result c.in_err-name.field-0.0 _ c.from_residual.ensures.1

pub returns-in_err-push-clause-names : goal.returns-in_err-push-clause-names
returns-in_err-push-clause-names c =
    no_success c.from_residual-in_err-push.result Memory _ c.from_residual-in_err-push.ensures.1

pub returns-in_err-push-clause-each : goal.returns-in_err-push-clause-each
returns-in_err-push-clause-each c =
    no_success c.from_residual-in_err-push.result Memory _ c.from_residual-in_err-push.ensures.1

pub returns-in_err-push-clause-fault : goal.returns-in_err-push-clause-fault
returns-in_err-push-clause-fault c =
    exit_memory c.from_residual-in_err-push.result _ c.from_residual-in_err-push.ensures.1

pub returns-then-not-is_counted-clause-names : goal.returns-then-not-is_counted-clause-names
returns-then-not-is_counted-clause-names c =
    let line = c.without_end-line.ensures ∙ ap (λ l. reverse (without_blanks (reverse l)))
    c.without_front.ensures in
    let none = none_of_line c.without_end-line.result.now (trimmed_line c.args.line.now) line
    (sym c.is_counted.ensures ∙ c.if-not-is_counted.true) in
    sym (ap (λ t. c.args.names.now.items ++ t) none ∙ append-nil c.args.names.now.items)

pub returns-then-not-is_counted-clause-each : goal.returns-then-not-is_counted-clause-each
returns-then-not-is_counted-clause-each c =
    let line = c.without_end-line.ensures ∙ ap (λ l. reverse (without_blanks (reverse l)))
    c.without_front.ensures in
    let none = none_of_line c.without_end-line.result.now (trimmed_line c.args.line.now) line
    (sym c.is_counted.ensures ∙ c.if-not-is_counted.true) in
    subst (All IsName) (sym none) (All-nil IsName)

pub returns-clause-names : goal.returns-clause-names
returns-clause-names c =
    let line = c.without_end-line.ensures ∙ ap (λ l. reverse (without_blanks (reverse l)))
    c.without_front.ensures in
    let one = one_of_line c.without_end-line.result.now (trimmed_line c.args.line.now) line
    (sym c.is_counted.ensures ∙ c.if-not-is_counted.false) in
    c.in_ok-push.ensures.items
    ∙ ap (λ t. c.args.names.now.items ++ t) (ap (λ n. n ∷ []) c.in_ok-name.ensures.name.0 ∙ sym one)

pub returns-clause-each : goal.returns-clause-each
returns-clause-each c =
    let line = c.without_end-line.ensures ∙ ap (λ l. reverse (without_blanks (reverse l)))
    c.without_front.ensures in
    let one = one_of_line c.without_end-line.result.now (trimmed_line c.args.line.now) line
    (sym c.is_counted.ensures ∙ c.if-not-is_counted.false) in
    subst (All IsName) (sym one)
    (All-cons IsName c.without_end-line.result.now [] c.in_ok-name.ensures.name.1 (All-nil IsName))

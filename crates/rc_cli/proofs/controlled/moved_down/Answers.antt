use Rattle.std.proofs.Common.{◌∙◌, ap, false, IfNone, IfOk, IfSome, List, ℕ, string_bytes, subst}
use Rattle.rc_args.specs.OnceAsked.{OnceSaying, Said}
use Rattle.rc_cli.specs.Controlled.{MovesBySaying}
use Rattle.rc_cli.specs.Steps.{lowering}
use Rattle.rc_cli.proofs.controlled.moved_down.Goals as goal

pub returns-clause-some : goal.returns-clause-some
returns-clause-some c =
    subst (λ (w : OnceSaying). IfOk c.moved_by-found.result (λ found. IfSome found (λ name.
    MovesBySaying c.args.session.now.database c.args.session.now.line w (string_bytes name))))
    (ap Said c.step_line-line.ensures.says ∙ ap (lowering false) c.in_ok-names.ensures)
    c.moved_by-found.ensures.some

pub returns-clause-none : goal.returns-clause-none
returns-clause-none c =
    subst (λ (w : OnceSaying). IfOk c.moved_by-found.result (λ found. IfNone found
    ((name : List ℕ) →
    MovesBySaying c.args.session.now.database c.args.session.now.line w name → ⊥)))
    (ap Said c.step_line-line.ensures.says ∙ ap (lowering false) c.in_ok-names.ensures)
    c.moved_by-found.ensures.none

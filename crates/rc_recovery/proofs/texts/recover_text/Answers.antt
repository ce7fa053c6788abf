use Rattle.std.proofs.Common.{ℕ, List, inr, map, subst, sym}
use Rattle.rc_session.specs.Commands.{command_of}
use Rattle.rc_session.specs.declared.step.Step.{Step}
use Rattle.rc_script.specs.Script.{IsScript}
use Rattle.rc_recovery.proofs.texts.recover_text.Goals as goal

pub returns-in-Ok-clause-unfit : goal.returns-in-Ok-clause-unfit
returns-in-Ok-clause-unfit c = λ unfit.
    let script = c.whole_lines-script.result.now in
    let says : List Step → Type 0 =
    λ steps. IsScript c.args.db.names script (map command_of steps) in
    inr (
      map command_of c.deref.result.now,
      (
        script,
        (c.in-Some.rest.now, c.in-Some.ensures, c.whole_lines-script.ensures),
        subst says (sym c.deref.ensures.value) (subst (λ (ns : List (List ℕ)). IsScript ns script
            (map command_of c.in-Ok.steps.items)) c.names.ensures.names c.in-Ok.ensures.steps),
      ),
      c.enter.ensures.unfit unfit,
    )

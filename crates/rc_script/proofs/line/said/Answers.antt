use Rattle.std.proofs.Common.{map, sym, subst}
use Rattle.std.specs.Prelude.{IfOk}
use Rattle.rc_script.specs.declared.verb.Verb.{Verb}
use Rattle.rc_script.specs.Says.{IsSaid, said, saying_of}
use Rattle.rc_script.proofs.line.said.Goals as goal

pub returns-in-Add : goal.returns-in-Add
returns-in-Add c =
    subst (λ (v : Verb). IfOk c.add.result
    (λ line. IsSaid (said v c.args.choices.now (map (λ word. word.now) c.args.words.now))
    (saying_of line))) (sym c.in-Add.is) c.add.ensures

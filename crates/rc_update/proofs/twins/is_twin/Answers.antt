use Rattle.std.proofs.Common.{subst}
use Rattle.std.proofs.lemmas.Bool.{false≢true}
use Rattle.std.proofs.lemmas.Bool.Decides.{Decides-eqb}
use Rattle.rc_update.specs.Carrying.{IsTwin}
use Rattle.rc_update.specs.Conversions.{conversions_of}
use Rattle.rc_update.proofs.CarryingLemmas.{one_twin}
use Rattle.rc_update.proofs.twins.is_twin.Goals as goal

pub returns-in-Some : goal.returns-in-Some
returns-in-Some c =
    let old = c.args.old.now in
    let new = c.args.new.now in
    let list = conversions_of c.args.list.now in
    let same = Decides-eqb c.in-Some.found c.args.other in (
      λ yes. subst (IsTwin old new list c.args.id) (same.0 yes) c.in-Some.ensures.found,
      λ twin. same.1 (one_twin old new list c.args.id c.in-Some.found c.args.other
          c.twin.ensures.database c.in-Some.ensures.found twin),
    )

pub returns-in-None : goal.returns-in-None
returns-in-None c = (
  λ bad. absurd (false≢true bad),
  λ twin. absurd (c.in-None.ensures.missing c.args.other twin),
)

use Rattle.std.proofs.lemmas.Bool.{false≢true}
use Rattle.rc_update.specs.Conversions.{conversions_of}
use Rattle.rc_update.proofs.DifferenceLemmas.{differs}
use Rattle.rc_update.proofs.difference.is_unaltered.Goals as goal

pub returns-in-Some : goal.returns-in-Some
returns-in-Some c =
    let is = rw c.in-Some.is at c.in_ok-difference_of.ensures.some in (
      λ bad. absurd (false≢true bad),
      λ whole. absurd (differs c.args.old.now c.args.new.now (conversions_of c.args.list.now)
          c.args.id c.in-Some.field-0 c.names-names.ensures.database is whole),
    )

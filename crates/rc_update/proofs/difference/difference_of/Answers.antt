use Rattle.rc_update.specs.Conversions.{conversions_of}
use Rattle.rc_update.proofs.CarryingLemmas.{twin_within}
use Rattle.rc_update.proofs.DifferenceLemmas.{reader_within}
use Rattle.rc_update.proofs.difference.difference_of.Goals as goal

pub write_to_twins-requires : goal.write_to_twins-requires
write_to_twins-requires c =
    reader_within c.args.old.now c.args.id c.service-a.result.now c.twin.ensures.old_database
    c.service-a.ensures

pub need_twins-requires-clause-other : goal.need_twins-requires-clause-other
need_twins-requires-clause-other c =
    twin_within c.args.old.now c.args.new.now (conversions_of c.args.list.now) c.args.id
    c.in-Some.other c.in-Some.ensures.found

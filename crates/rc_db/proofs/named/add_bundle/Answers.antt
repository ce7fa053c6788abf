use Rattle.std.proofs.Common.{length, sym}
use Rattle.rc_db.proofs.Words.{bound_of_value}
use Rattle.rc_db.proofs.named.add_bundle.Goals as goal

pub join-requires : goal.join-requires
join-requires c =
    bound_of_value (length c.args.set.now) c.args.table.now c.args.text.now c.in-Some.bundle.now
    c.requires (sym c.in-Some.ensures)

use Rattle.rc_compile.proofs.Listing.{puts_one}
use Rattle.rc_compile.proofs.members.rows.add_one.Goals as goal

pub returns-in-Some : goal.returns-in-Some
returns-in-Some c =
    puts_one c.add_place.result c.args.to.now c.args.ids.now.items _ c.args.name.now _ c.in-Some.is
    c.add_place.ensures

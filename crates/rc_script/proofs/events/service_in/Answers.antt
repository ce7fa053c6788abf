use Rattle.rc_script.proofs.Places.{place_is}
use Rattle.rc_script.proofs.events.service_in.Goals as goal

pub returns : goal.returns
returns c =
    place_is c.args.names.now c.args.name.now c.find.result c.len-known.ensures.names.order
    c.find.ensures.found c.find.ensures.missing

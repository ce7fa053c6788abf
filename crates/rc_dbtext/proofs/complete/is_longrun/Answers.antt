use Rattle.rc_dbtext.proofs.Completing.{longrun_iff}
use Rattle.rc_dbtext.proofs.complete.is_longrun.Goals as goal
use Rattle.std.proofs.Common.{◌∙◌, ap, Some}

pub returns-in-Some : goal.returns-in-Some
returns-in-Some c =
    longrun_iff c.args.names.now c.args.services.now c.args.name.now c.in-Some.id
    c.index-services-id.result c.is_of_longrun.result c.requires c.len-count.ensures.names.order
    (c.in-Some.ensures.found ∙ ap Some c.text.ensures.bytes)
    c.index-services-id.is c.is_of_longrun.ensures

use Rattle.rc_cli.proofs.UpdateLemmas.{stranger_of}
use Rattle.rc_cli.proofs.updating.stranger.Goals as goal

pub returns : goal.returns
returns c =
    stranger_of c.first_unknown.result c.as_slice.result.now
    c.args.request.now.conversions.items c.names.result.now c.names-2.result.now
    c.args.old.now.names c.args.new.now.names c.as_slice.ensures.value c.names.ensures.names
    c.names-2.ensures.names c.first_unknown.ensures

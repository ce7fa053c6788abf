use Rattle.std.proofs.Common.{List, subst, ℕ}
use Rattle.rc_args.specs.UpdateAsked.{update_ask_of}
use Rattle.rc_cli.specs.Storing.{store_of}
use Rattle.rc_cli.specs.UpdateEnds.{Leads}
use Rattle.rc_launch.proofs.serving.serve_update.Goals as goal

pub returns : goal.returns
returns g c ending same =
    subst (λ (new : List ℕ). Leads g.S.Store.put g.S.Store.entered c.args.base.now new
    (update_ask_of c.args.request.now) c.args.live ending
    (store_of c.args.devices.now.outputs.keeper)
    (store_of c.update_as_asked.new.devices.outputs.keeper)) c.bytes_of-new.ensures
    (c.update_as_asked.ensures.led ending same)

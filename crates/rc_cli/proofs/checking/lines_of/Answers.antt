use Rattle.rc_cli.proofs.CheckingLemmas.{lines_more}
use Rattle.rc_cli.proofs.checking.lines_of.Goals as goal

pub loop-id-preserved : goal.loop-id-preserved
loop-id-preserved c =
    lines_more c.args.names.now c.args.asked.now.all c.args.asked.now.longruns c.args.live.now
    c.args.answers.now c.loop-id.id c.loop-id.text.items c.add_service.new.text.items
    c.loop-id.invariant c.in_ok-add_service.ensures

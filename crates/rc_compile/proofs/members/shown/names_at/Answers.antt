use Rattle.rc_compile.proofs.Listing.{shown_more}
use Rattle.rc_compile.proofs.members.shown.names_at.Goals as goal

pub loop-id-preserved : goal.loop-id-preserved
loop-id-preserved c =
    shown_more c.args.names.now c.args.ids.now c.loop-id.id-index c.loop-id.shown.items
    c.push.new.self.items c.in_ok-copy_of.field-0 c.name_of.result.now c.loop-id-test.true
    c.loop-id.invariant
    c.name_of.ensures c.in_ok-copy_of.ensures c.in_ok-push.ensures.items

use Rattle.std.proofs.Common.{◌∙◌, take_all, map, arith}
use Rattle.rc_db.proofs.Listing.{one_taken, shown_more}
use Rattle.rc_db.proofs.list.service_names.Goals as goal

pub loop-id-preserved : goal.loop-id-preserved
loop-id-preserved c =
    one_taken (map (λ name. name.now) c.loop-id.all.items)
    (map (λ name. name.now) c.push.new.self.items) c.args.names.now c.loop-id.id
    c.name_of.result.now
    c.name_of.ensures c.loop-id.invariant
    (shown_more (λ name. name.now) c.loop-id.all.items c.push.new.self.items c.name_of.result
    c.in_ok-push.ensures.items)

pub returns : goal.returns
returns c = c.loop-id.invariant ∙ take_all c.loop-id.id c.args.names.now (omega arith)

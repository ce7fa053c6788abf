use Rattle.std.proofs.Common.{map}
use Rattle.std.specs.String.{string_bytes}
use Rattle.rc_cli.proofs.CheckingLemmas.{names_more}
use Rattle.rc_cli.proofs.findings.names_elsewhere.Goals as goal

pub loop-id-preserved : goal.loop-id-preserved
loop-id-preserved c =
    names_more c.args.up c.args.names.now c.args.asked.now c.args.live.now c.args.answers.now
    c.loop-id.id c.is_elsewhere_at-is_one.result (map string_bytes c.loop-id.list.items)
    (map string_bytes c.push_name_if.new.list.items) c.is_elsewhere_at-is_one.ensures
    c.loop-id.invariant
    c.in_ok-push_name_if.ensures

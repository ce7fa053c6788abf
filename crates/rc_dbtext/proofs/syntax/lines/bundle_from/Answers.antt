use Rattle.rc_dbtext.proofs.KindLines.{no_bundle_name, no_bundle_members, is_bundle}
use Rattle.rc_dbtext.proofs.syntax.lines.bundle_from.Goals as goal

pub returns-in_default : goal.returns-in_default
returns-in_default c = no_bundle_name c.args.name.now _ c.in_default.ensures

pub returns-in-Some-2 : goal.returns-in-Some-2
returns-in-Some-2 c =
    let name = c.in-Some.ensures in
    let members = rw c.in-Some-2.is at c.in_ok-members.ensures in
    is_bundle c.args.name.now c.in-Some.name _ c.in-Some-2.members.items name.0 name.1
    members.0 members.1

pub returns-in-None : goal.returns-in-None
returns-in-None c = no_bundle_members c.args.name.now _ (rw c.in-None.is at c.in_ok-members.ensures)

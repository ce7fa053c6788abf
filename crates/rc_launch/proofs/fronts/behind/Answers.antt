use Rattle.std.specs.Cmp.{unsigned_Decides}
use Rattle.std.proofs.lemmas.Slice.Eq.{strip_prefix_is}
use Rattle.rc_launch.proofs.fronts.behind.Goals as goal

pub returns : goal.returns
returns c =
    strip_prefix_is unsigned_Decides c.args.bytes.now c.args.front.now c.strip_prefix.result
    c.strip_prefix.ensures.cases

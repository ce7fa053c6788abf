use Rattle.std.proofs.Common.{Some, None, sym, lit<}
use Rattle.std.proofs.Math.Seq.{take-length}
use Rattle.std.proofs.lemmas.Str.Pattern.{split_once_first}
use Rattle.rc_source.proofs.tree.first_part.Goals as goal

pub returns-in-Some : goal.returns-in-Some
returns-in-Some c =
    (split_once_first 47 c.args.path.now (Some (c.in-Some.part, c.in-Some.field-0-1))
    c.in-Some.ensures.cases (lit< tt)).1

pub returns-in-None : goal.returns-in-None
returns-in-None c =
    let at_end = split_once_first 47 c.args.path.now None c.in-None.ensures.cases (lit< tt) in
    rw at_end (sym (take-length c.args.path.now))

use Rattle.std.proofs.Common.{string_bytes}
use Rattle.rc_source.proofs.TextSets.{IsInByteOrder-from_keys}
use Rattle.rc_source.proofs.sets.texts.Goals as goal

pub returns-in_err-from_str-clause-order : goal.returns-in_err-from_str-clause-order
returns-in_err-from_str-clause-order c =
    IsInByteOrder-from_keys string_bytes c.args.set.now.keys c.len-count.ensures.ordered

pub returns-in_err-push-clause-order : goal.returns-in_err-push-clause-order
returns-in_err-push-clause-order c =
    IsInByteOrder-from_keys string_bytes c.args.set.now.keys c.len-count.ensures.ordered

pub returns-clause-order : goal.returns-clause-order
returns-clause-order c =
    IsInByteOrder-from_keys string_bytes c.args.set.now.keys c.len-count.ensures.ordered

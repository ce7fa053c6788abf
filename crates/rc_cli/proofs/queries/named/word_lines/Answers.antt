use Rattle.std.proofs.Common.{rules, nat_lt, length, ◌==◌}
use borrow.Author.Tests.{tests}
use Rattle.std.proofs.lemmas.Iterator.Consumers.{YieldsList-at, YieldsList-from_filter}
use Rattle.std.proofs.lemmas.Iterator.Consumers.{map_from_collect}
use Rattle.std.proofs.lemmas.Iterator.Splits.{YieldsList-from_slice_split}
use Rattle.rc_cli.proofs.queries.named.word_lines.Goals as goal

pub returns : goal.returns
returns c =
    map_from_collect _ c.collect.ensures.ran
    (YieldsList-from_filter _ (λ line. nat_lt 0 (length line))
    (YieldsList-at c.filter.ensures.source
    (YieldsList-from_slice_split _ (λ byte. byte == 10) c.args.bytes.now c.split.ensures.rest
    c.split.ensures.done c.split.ensures.closure (λ x b q k. search (rules, tests))))
    c.filter.ensures.closure (λ x q k. search (rules, tests)))

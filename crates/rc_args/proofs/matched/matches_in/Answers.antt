use Rattle.std.proofs.Common.{◌≡◌, true}
use Rattle.rc_args.proofs.WordsLemmas.{rows_right, rows_wrong}
use Rattle.rc_args.proofs.matched.matches_in.Goals as goal

pub returns-in-Ok-clause-rows : goal.returns-in-Ok-clause-rows
returns-in-Ok-clause-rows c = λ name. rows_right name _ _ c.in-Ok.ensures.right c.in-Ok.ensures.rows

pub returns-else-is_memory-clause-wrong : goal.returns-else-is_memory-clause-wrong
returns-else-is_memory-clause-wrong c =
    λ _ name. rows_wrong name _ (c.in-Err.ensures.wrong (λ memory.
    let yes : c.is_memory.result ≡ true = c.is_memory.ensures.1 memory in
    let no = c.if-is_memory.false in
    cc))

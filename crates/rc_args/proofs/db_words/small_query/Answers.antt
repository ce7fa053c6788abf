use Rattle.std.proofs.Common.{arith, codes, rules}
use Rattle.rc_args.proofs.DbAskedLemmas.{alone}
use Rattle.rc_args.proofs.db_words.small_query.Goals as goal

pub returns-then-eq-clause-some : goal.returns-then-eq-clause-some
returns-then-eq-clause-some c =
    alone c.args.word.now (codes "check") c.args.words.now (omega arith) (search rules)

pub returns-then-eq-2-clause-some : goal.returns-then-eq-2-clause-some
returns-then-eq-2-clause-some c =
    alone c.args.word.now (codes "dot") c.args.words.now (omega arith) (search rules)

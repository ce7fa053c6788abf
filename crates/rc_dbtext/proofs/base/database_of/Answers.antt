use Rattle.std.proofs.Common.{◌-◌, drop, length, subst, sym, take}
use Rattle.rc_dbtext.specs.Spelling.{spelling}
use Rattle.rc_dbtext.specs.Base.{bytes_of, Spells}
use Rattle.rc_dbtext.proofs.FrontLemmas.{after_front, front_within}
use Rattle.rc_dbtext.proofs.base.database_of.Goals as goal

pub slice_bounds-result-start : goal.slice_bounds-result-start
slice_bounds-result-start c =
    let read = c.in_ok-db-in-None.ensures.ok in
    front_within (spelling c.in_ok-db-in-None.db) read.2.0 _ _ read.2.1 read.1

pub slice_bounds-result-count : goal.slice_bounds-result-count
slice_bounds-result-count c =
    let read = c.in_ok-db-in-None.ensures.ok in
    front_within (spelling c.in_ok-db-in-None.db) read.2.0 _ _ read.2.1 read.1

pub returns-in_ok-db-in-None-clause-spelled : goal.returns-in_ok-db-in-None-clause-spelled
returns-in_ok-db-in-None-clause-spelled c =
    let read = c.in_ok-db-in-None.ensures.ok in
    subst (λ base. Spells (bytes_of base) c.args.input.now c.in_ok-db-in-None.db
    (take (length c.args.input.now - c.in_ok-db-in-None.taken)
    (drop c.in_ok-db-in-None.taken c.args.input.now))) (sym c.in-None.is) (
      c.names-names-in-None.ensures.database,
      read.0,
      after_front (spelling c.in_ok-db-in-None.db) read.2.0 _ _ read.2.1 read.1,
    )

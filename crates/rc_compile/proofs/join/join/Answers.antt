use Rattle.std.proofs.Common.{map, sym, subst}
use Rattle.rc_db.specs.Database.{IsWritable}
use Rattle.rc_source.specs.Said.{meaning_of}
use Rattle.rc_compile.specs.Compiled.{IsDatabaseOf}
use Rattle.rc_compile.proofs.Fitting.{fits, is_database, is_writable}
use Rattle.rc_compile.proofs.join.join.Goals as goal

pub unreachable-requires : goal.unreachable-requires
unreachable-requires c =
    c.in-Err.ensures.unfit
    (fits (map meaning_of c.args.definitions.now) c.args.names c.args.services.items c.args.graph
    c.args.table c.requires.meanings c.requires.names c.requires.services c.requires.graph
    c.requires.table c.requires.types c.requires.bounds c.requires.taken)

pub returns-clause-db : goal.returns-clause-db
returns-clause-db c =
    subst (IsDatabaseOf (map meaning_of c.args.definitions.now)) (sym c.in-Ok.ensures.database)
    (is_database (map meaning_of c.args.definitions.now) c.args.names c.args.services.items
    c.args.graph c.args.table c.requires.meanings c.requires.names c.requires.services
    c.requires.graph
    c.requires.table c.requires.types c.len-count.ensures.names.order
    c.len-bundles.ensures.table.order c.requires.sets)

pub returns-clause-writable : goal.returns-clause-writable
returns-clause-writable c =
    subst IsWritable (sym c.in-Ok.ensures.database)
    (is_writable (map meaning_of c.args.definitions.now) c.args.names c.args.services.items
    c.args.graph c.args.table c.requires.meanings c.requires.names c.requires.services
    c.requires.graph
    c.requires.table c.requires.types)

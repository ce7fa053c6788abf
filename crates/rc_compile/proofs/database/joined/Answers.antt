use Rattle.std.proofs.Common.{length, map}
use Rattle.rc_source.specs.Said.{meaning_of}
use Rattle.rc_compile.specs.Standing.{IsBundle, StandsFor}
use Rattle.rc_compile.proofs.Tabled.{tabled_names, tabled_sets}
use Rattle.rc_compile.proofs.database.joined.Goals as goal

pub described-requires-clause-names : goal.described-requires-clause-names
described-requires-clause-names c = c.requires.book.service

pub join-requires-clause-names : goal.join-requires-clause-names
join-requires-clause-names c = c.requires.book.service

pub join-requires-clause-table : goal.join-requires-clause-table
join-requires-clause-table c =
    tabled_names c.args.book.bundles c.in-Ok.table
    (IsBundle (map meaning_of c.args.definitions.now)) c.requires.book.bundle c.in-Ok.ensures.names

pub join-requires-clause-bounds : goal.join-requires-clause-bounds
join-requires-clause-bounds c =
    c.in-Ok.ensures.bounds (length c.args.book.services) c.requires.bounds

pub join-requires-clause-sets : goal.join-requires-clause-sets
join-requires-clause-sets c =
    tabled_sets c.args.book.bundles c.args.book.services c.args.sets.now c.in-Ok.table
    (StandsFor (map meaning_of c.args.definitions.now)) c.requires.sets c.in-Ok.ensures.names
    c.in-Ok.ensures.sets

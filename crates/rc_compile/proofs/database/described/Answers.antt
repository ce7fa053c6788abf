use Rattle.std.proofs.Common.{map}
use Rattle.rc_source.specs.Said.{meaning_of}
use Rattle.rc_compile.proofs.Fitting.{targets_known, service_defined}
use Rattle.rc_compile.proofs.database.described.Goals as goal

pub places_of-requires-clause-known : goal.places_of-requires-clause-known
places_of-requires-clause-known c =
    service_defined (map meaning_of c.args.definitions.now) c.args.names.now c.requires.names

pub services_of-requires-clause-known : goal.services_of-requires-clause-known
services_of-requires-clause-known c =
    targets_known (map meaning_of c.args.definitions.now) c.args.names.now c.requires.names
    c.requires.types

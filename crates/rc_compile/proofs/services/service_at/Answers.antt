use Rattle.std.proofs.lemmas.Result.{IfOk-weaker}
use Rattle.rc_source.specs.Said.{meaning_of}
use Rattle.rc_compile.proofs.Placing.{known_at, meaning_at}
use Rattle.rc_compile.proofs.services.service_at.Goals as goal

pub service_of-requires : goal.service_of-requires
service_of-requires c =
    known_at c.args.definitions.now c.args.names.now c.args.place c.index-definitions-place.result
    c.requires.place c.index-definitions-place.is c.requires.known

pub returns : goal.returns
returns c =
    IfOk-weaker c.service_of.result _ _
    (λ service is. (
      meaning_of c.index-definitions-place.result,
      meaning_at c.args.definitions.now c.args.place c.index-definitions-place.result
          c.requires.place c.index-definitions-place.is,
      is,
    )) c.service_of.ensures

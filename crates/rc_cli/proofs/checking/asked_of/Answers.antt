use Rattle.std.proofs.Common.{map, subst}
use Rattle.std.specs.String.{string_bytes}
use Rattle.rc_model.specs.Names.{Has, Holds}
use Rattle.rc_model.specs.Database.{Database, IsKind}
use Rattle.rc_model.specs.declared.Kind.TheVariants.{Longrun}
use Rattle.rc_cli.specs.Checking.{IsMeant}
use Rattle.rc_cli.proofs.CheckingLemmas.{asked_among}
use Rattle.rc_cli.proofs.checking.asked_of.Goals as goal

pub returns-in-Ok-longruns_of-clause-members : goal.returns-in-Ok-longruns_of-clause-members
returns-in-Ok-longruns_of-clause-members c =
    let d = c.args.session.now.database in record {
      meant = c.in-Ok.ensures.members;
      among =
          asked_among c.in-Ok-longruns_of.longruns c.in-Ok.all
          (IsMeant d c.args.session.now.line.current.table (map string_bytes c.args.names.now))
          (λ s. IsKind d s Longrun) c.in-Ok.ensures.members
          (subst (λ (x : Database). Holds c.in-Ok-longruns_of.longruns
          (λ s. Has c.in-Ok.all s × IsKind x s Longrun)) c.db.ensures.db
          c.in-Ok-longruns_of.ensures.members);
    }

use Rattle.std.proofs.Common.{◌∙◌, ap, sym, subst, length}
use Rattle.rc_model.specs.Database.{HaveBound, Bundles, AreApart}
use Rattle.rc_model.specs.Session.{IsStateOf}
use Rattle.rc_cli.proofs.UpdateLemmas.{one_state}
use Rattle.rc_cli.proofs.updating.session_of.Goals as goal

pub resume-requires-clause-states : goal.resume-requires-clause-states
resume-requires-clause-states c =
    one_state (IsStateOf c.args.db) c.with_bound.result.line
    (record { live = c.args.live; table = c.in-Ok.table }) c.args.bound
    (ap (λ j. j.line) c.with_bound.ensures) (record {
      bound = c.requires.length;
      closed = c.requires.closed;
      sets =
          subst (λ (t : Bundles). HaveBound (length c.args.db.names) t)
          (sym (c.in-Ok.ensures ∙ c.table.ensures.table)) c.table.ensures.database.fit.bounds;
      apart =
          subst (λ (t : Bundles). AreApart c.args.db.names t)
          (sym (c.in-Ok.ensures ∙ c.table.ensures.table)) c.table.ensures.database.fit.apart;
    })

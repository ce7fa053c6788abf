use Rattle.std.proofs.Common.{◌≡◌, true, inl, inr, map, refl}
use Rattle.rc_model.specs.Names.{Has}
use Rattle.rc_select.proofs.TargetLemmas.{same_closed}
use Rattle.rc_cli.specs.Named.{IsNamed}
use Rattle.rc_cli.proofs.queries.plan.up_set.Goals as goal

pub returns-then-closed-clause-up : goal.returns-then-closed-clause-up
returns-then-closed-clause-up c =
    let closed = c.closed.ensures.0 c.if-closed.true in
    record {
      are_up = record {
        known = c.in-Ok.ensures.known;
        closed =
            same_closed c.args.graph.now (Has c.in-Ok.up)
            (IsNamed c.args.names.now (map (λ w. w.now) c.args.ups.now))
            (λ s. (c.in-Ok.ensures.members s).0) (λ s. (c.in-Ok.ensures.members s).1) closed;
      };
      bound = c.in-Ok.ensures.bound;
      members = c.in-Ok.ensures.members;
      closed = closed;
    }

pub returns-in-Err-clause-fault : goal.returns-in-Err-clause-fault
returns-in-Err-clause-fault c = inl c.in-Err.ensures.fault

pub returns-else-closed-clause-fault : goal.returns-else-closed-clause-fault
returns-else-closed-clause-fault c = inr (
  refl,
  c.in-Ok.ensures.known,
  λ closed. let yes : c.closed.result ≡ true =
      c.closed.ensures.1
      (same_closed c.args.graph.now (IsNamed c.args.names.now (map (λ w. w.now) c.args.ups.now))
      (Has c.in-Ok.up)
      (λ s. (c.in-Ok.ensures.members s).1) (λ s. (c.in-Ok.ensures.members s).0) closed) in cc,
)

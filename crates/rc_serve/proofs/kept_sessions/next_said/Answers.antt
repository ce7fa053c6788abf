use Rattle.std.proofs.Common.{subst, sym}
use Rattle.rc_streams.specs.Noting.{HasFailed, inner_of}
use Rattle.rc_serve.specs.declared.fault.ServeFault.{ServeFault}
use Rattle.rc_serve.specs.Faults.{IsServeFault}
use Rattle.rc_serve.specs.Serving.{StandsUnread}
use Rattle.rc_serve.proofs.Turns.{of_failed, unread_by}
use Rattle.rc_serve.proofs.kept_sessions.next_said.Goals as goal

pub returns-clause-fault : goal.returns-clause-fault
returns-clause-fault g c =
    subst (λ (f : ServeFault). StandsUnread f (g.R.Read.remaining (inner_of c.args.reader.now))
    (g.R.Read.remaining (inner_of c.next.new.reader)) c.args.lines.now c.next.new.self)
    (sym c.from.ensures)
    (unread_by _ c.in-Err.failure _ _ _ _ c.in-Err.ensures.fault)

pub returns-clause-device : goal.returns-clause-device
returns-clause-device g c =
    subst (λ (f : ServeFault). IsServeFault (HasFailed c.next.new.reader) ⊥ ⊥ f)
    (sym c.from.ensures)
    (of_failed _ c.in-Err.failure _ _ _ _ c.in-Err.ensures.fault)

use Rattle.std.proofs.Common.{inr, refl, subst, sym}
use Rattle.rc_cli.specs.SessionFaults.{IsRefusal, IsTold}
use Rattle.rc_cli.specs.declared.sessions.session_fault.SessionFault.{SessionFault}
use Rattle.rc_cli.proofs.sessions.session_fault.tell_session_fault.Goals as goal

pub returns-in-Failed : goal.returns-in-Failed
returns-in-Failed g c =
    subst (λ (f : SessionFault). IsTold f c.fail_serving.result
    (g.F.Write.contents c.args.faults.now) (g.F.Write.contents c.fail_serving.new.faults))
    (sym c.in-Failed.is)
    (inr (c.fail_serving.ensures.status, c.in-Failed.failing, refl, c.fail_serving.ensures.told))

pub tell_refusal-requires : goal.tell_refusal-requires
tell_refusal-requires g c = subst IsRefusal (sym c.in-OfText.is) tt

pub tell_refusal-requires-in-Unknown : goal.tell_refusal-requires-in-Unknown
tell_refusal-requires-in-Unknown g c = subst IsRefusal (sym c.in-Unknown.is) tt

pub tell_refusal-requires-in-OfLive : goal.tell_refusal-requires-in-OfLive
tell_refusal-requires-in-OfLive g c = subst IsRefusal (sym c.in-OfLive.is) tt

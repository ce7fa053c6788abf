use Rattle.std.proofs.Common.{inr, refl}
use Rattle.rc_serve.specs.declared.fault.ServeFault.TheVariants.{Memory}
use Rattle.rc_cli.specs.SessionFaults.{IsRefusal, IsToldAs}
use Rattle.rc_cli.specs.declared.sessions.session_fault.SessionFault.{SessionFault}
use Rattle.rc_cli.specs.declared.sessions.session_fault.SessionFault.TheVariants.{OfText, Unknown}
use Rattle.rc_cli.specs.declared.sessions.session_fault.SessionFault.TheVariants.{OfLive, Failed}
use Rattle.rc_cli.specs.declared.sessions.session_fault.SessionFault.TheVariants.{NoController}
use Rattle.rc_cli.proofs.sessions.session_fault.tell_refusal.Goals as goal

-- a refusal that can't be told is told as out of memory
told_memory : (fault : SessionFault) → IsRefusal fault → IsToldAs fault Memory
told_memory (OfText fault) is = refl
told_memory (Unknown word) is = refl
told_memory (OfLive fault) is = refl
told_memory (NoController name) is = refl
told_memory (Failed fault) is = absurd is

pub returns-in-Err : goal.returns-in-Err
returns-in-Err g c = inr (
  c.fail_serving.ensures.status,
  Memory,
  told_memory c.args.fault c.requires,
  c.fail_serving.ensures.told,
)

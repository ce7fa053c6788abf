use Rattle.rc_historytext.specs.Framing.{FramedText}
use Rattle.rc_launch.specs.Putting.{IsPutIn, manner_of}
use Rattle.rc_launch.proofs.PuttingLemmas.{put_framed}
use Rattle.rc_launch.proofs.ReadLemmas.{made_so}
use Rattle.rc_launch.proofs.live_store.LiveStore.put_session.Goals as goal

pub returns-in-Some-Ok-clause-put : goal.returns-in-Some-Ok-clause-put
returns-in-Some-Ok-clause-put c =
    let was = c.args.self.now in
    put_framed c.put_first.result was.frame (manner_of was) c.args.text.now c.in-Some-Ok.framed
    c.put_first.new.self.frame (manner_of c.put_first.new.self)
    (made_so c.in-Some-Ok.field-0 c.in-Some-Ok.framed
    (λ (f : FramedText). IsPutIn was.frame (manner_of was) c.args.text.now f.whole)
    c.in-Some-Ok.field-0-is c.in-Some-Ok.ensures.put) c.put_first.ensures.ok
    c.put_first.ensures.manner

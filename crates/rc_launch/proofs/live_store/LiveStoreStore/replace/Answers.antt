use Rattle.std.proofs.Common.{◌≡◌, ◌⊎◌, IfSome, IsSome, List, OnErr, OnOk, inl, subst, sym, ℕ}
use Rattle.std.proofs.lemmas.Result.{on_err_weaker}
use Rattle.rc_launch.specs.HeldHistory.{session_in, session_kept}
use Rattle.rc_launch.specs.Putting.{IsPutBy, Manner, Puts, manner_of}
use Rattle.rc_launch.specs.declared.live_store.Frame.{Frame}
use Rattle.rc_launch.proofs.Noting.{noted_err, noted_ok}
use Rattle.rc_launch.proofs.live_store.LiveStoreStore.replace.Goals as goal

pub returns-clause-put : goal.returns-clause-put
returns-clause-put c =
    noted_ok c.noted.result c.put_session-put.result _ c.noted.ensures.ok
    (subst (λ frame. OnOk c.put_session-put.result
    (IfSome (session_in frame) (λ held. held ≡ c.args.text.bytes.now)))
    (sym c.noted.ensures.frame)
    (subst (λ (bytes : List ℕ). OnOk c.put_session-put.result
    (IfSome (session_kept c.put_session-put.new.self) (λ held. held ≡ bytes)))
    c.bytes.ensures c.put_session-put.ensures.ok))

pub returns-clause-known : goal.returns-clause-known
returns-clause-known c some =
    subst (λ frame. IsSome (session_in frame)) (sym c.noted.ensures.frame)
    (c.put_session-put.ensures.known some)

pub returns-clause-left : goal.returns-clause-left
returns-clause-left c =
    noted_err c.noted.result c.put_session-put.result _ c.noted.ensures.err
    (subst (λ frame. OnErr c.put_session-put.result
    ((session_in frame ≡ session_kept c.args.self.now)
    ⊎ IfSome (session_in frame) (λ held. held ≡ c.args.text.bytes.now)))
    (sym c.noted.ensures.frame)
    (on_err_weaker c.put_session-put.result (λ same. inl same) c.put_session-put.ensures.left))

pub returns-clause-led : goal.returns-clause-led
returns-clause-led c =
    let old = c.args.self.now in
    let put = c.put_session-put.new.self in
    noted_ok c.noted.result c.put_session-put.result _ c.noted.ensures.ok
    (subst (λ (frame : Frame). OnOk c.put_session-put.result
    (IsPutBy old.frame (manner_of old) c.args.text.bytes.now frame (manner_of c.noted.new.self)))
    (sym c.noted.ensures.frame)
    (subst (λ (manner : Manner). OnOk c.put_session-put.result
    (IsPutBy old.frame (manner_of old) c.args.text.bytes.now put.frame manner))
    (sym c.noted.ensures.manner)
    (subst (λ (bytes : List ℕ). OnOk c.put_session-put.result (Puts old bytes put))
    c.bytes.ensures c.put_session-put.ensures.put)))

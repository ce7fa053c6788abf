use Rattle.std.proofs.Common.{◌≡◌, Err, inl, inr, refl}
use Rattle.rc_args.specs.UpdateAsked.{update_ask_of}
use Rattle.rc_cli.specs.Storing.{store_of}
use Rattle.rc_cli.specs.UpdateEnds.{LeadsOn}
use Rattle.rc_cli.proofs.PuttingLemmas.{told_ended, told_refused}
use Rattle.rc_cli.proofs.update.update_as_asked.Goals as goal

pub returns-in-Err-clause-ended : goal.returns-in-Err-clause-ended
returns-in-Err-clause-ended g c = (
  Err c.in-Err.fault,
  inl (c.in-Err.fault, refl, inl c.in-Err.ensures.fault, refl, refl),
  c.tell_ended.ensures,
)

pub returns-in-Err-clause-led : goal.returns-in-Err-clause-led
returns-in-Err-clause-led g c ending same =
    inl ((told_refused c.in-Err.fault _ _ _ ending c.tell_ended.ensures same).0, refl)

pub returns-in-Err-spelled-clause-ended : goal.returns-in-Err-spelled-clause-ended
returns-in-Err-spelled-clause-ended g c =
    let old = c.in-Ok.ensures.spelled in (
      Err c.in-Err-spelled.fault,
      inl (
        c.in-Err-spelled.fault,
        refl,
        inr (c.in-Ok.from, (old.0, old.1, old.2, refl), c.in-Err-spelled.ensures.fault),
        refl,
        refl,
      ),
      c.tell_ended-in-Err-spelled.ensures,
    )

pub returns-in-Err-spelled-clause-led : goal.returns-in-Err-spelled-clause-led
returns-in-Err-spelled-clause-led g c ending same = inl (
  (told_refused c.in-Err-spelled.fault _ _ _ ending c.tell_ended-in-Err-spelled.ensures same).0,
  refl,
)

pub returns-clause-ended : goal.returns-clause-ended
returns-clause-ended g c =
    let old = c.in-Ok.ensures.spelled in
    let new = c.in-Ok-spelled.ensures.spelled in (
      c.update_on-ended.result,
      inr (
        c.in-Ok.from,
        c.in-Ok-spelled.to,
        (old.0, old.1, old.2, refl),
        (new.0, new.1, new.2, refl),
        c.update_on-ended.ensures.ended,
      ),
      c.tell_ended-2.ensures,
    )

pub returns-clause-led : goal.returns-clause-led
returns-clause-led g c ending same =
    let was = store_of c.args.devices.now.outputs.keeper in
    let is = store_of c.update_on-ended.new.outputs.keeper in
    let old = c.in-Ok.ensures.spelled in
    let new = c.in-Ok-spelled.ensures.spelled in
    elim (told_ended c.update_on-ended.result _ _ _ ending
    (λ e. LeadsOn g.S.Store.put g.S.Store.entered (update_ask_of c.args.request.now) c.args.live e
    c.in-Ok.from c.in-Ok-spelled.to was is)
    (is ≡ was) c.tell_ended-2.ensures same c.update_on-ended.ensures.led
    c.update_on-ended.ensures.alone) [
      | inl refused ↦ inl refused
      | inr leads ↦
          inr (
            c.in-Ok.from,
            c.in-Ok-spelled.to,
            (old.0, old.1, old.2, refl),
            (new.0, new.1, new.2, refl),
            leads,
          )
    ]

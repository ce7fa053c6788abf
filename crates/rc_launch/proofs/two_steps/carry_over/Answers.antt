use Rattle.std.proofs.Common.{◌∙◌, ℕ, List, ap, subst, sym}
use Rattle.rc_cli.specs.Storing.{store_of}
use Rattle.rc_update.specs.Conversions.{conversions_of}
use Rattle.rc_update.specs.declared.conversion.Conversion.{Conversion}
use Rattle.rc_args.specs.UpdateAsked.{update_ask_of}
use Rattle.rc_cli.specs.UpdateEnds.{Leads as LeadsUpdate}
use Rattle.rc_launch.specs.Putting.{Announces, Puts}
use Rattle.rc_launch.specs.HeldHistory.{history_in}
use Rattle.rc_launch.specs.Loading.{bytes_of}
use Rattle.rc_launch.specs.TwoSteps.{IsToUpdate}
use Rattle.rc_launch.specs.Anew.{CarriesFirst, IsBegunBy, LeadsAnew}
use Rattle.rc_launch.specs.Frames.{IsToBegin}
use Rattle.rc_launch.specs.declared.live_store.Frame.{Frame}
use Rattle.rc_launch.specs.declared.two_steps.Texts.{Texts}
use Rattle.rc_launch.proofs.StepLemmas.{begins_bare, is_to_update, present_as, texts_stand}
use Rattle.rc_launch.proofs.StepLemmas.{settles_by, updates_first}
use Rattle.rc_launch.proofs.two_steps.carry_over.Goals as goal

pub returns-in-Some-Ok-clause-ended : goal.returns-in-Some-Ok-clause-ended
returns-in-Some-Ok-clause-ended g c ending same kept was held =
    let there = ap history_in c.begin_update.ensures.held ∙ held in
    let new = c.args.execution.now.opened.now.loaded.new in
    let store = c.begin_update.new.self in
    c.carry_texts-code.ensures.ended ending same kept
    (subst (λ (list : List Conversion). IsToUpdate (bytes_of new) (conversions_of list) store)
    c.deref.ensures.value
    (is_to_update c.new_base.result c.in-Some.new new store.next c.deref.result.now store
    c.in-Some.is c.new_base.ensures c.begin_update.ensures.some c.begin_update.ensures.manner))
    was there
    (present_as was c.deref-in-Some-Ok.result.now c.deref-in-Some-Ok-2.result.now
    c.in-Some-Ok.texts.database.items c.in-Some-Ok.texts.session.items
    (texts_stand c.in-Some-Ok.field-0 c.in-Some-Ok.texts store was c.in-Some-Ok.field-0-is
    c.in-Some-Ok.ensures.present there)
    (c.deref-in-Some-Ok.ensures.value
    ∙ ap (λ (t : Texts). t.database.items) c.in-Some-Ok.texts-is)
    (c.deref-in-Some-Ok-2.ensures.value
    ∙ ap (λ (t : Texts). t.session.items) c.in-Some-Ok.texts-is))

pub returns-in-Some-Ok-clause-begins : goal.returns-in-Some-Ok-clause-begins
returns-in-Some-Ok-clause-begins g c ending same kept begins =
    let held = ap history_in c.begin_update.ensures.held in
    let none = c.texts_in.ensures.bare (held ∙ begins_bare _ _ begins) in
    let some = c.in-Some-Ok.is in cc

pub returns-in-None-clause-begins : goal.returns-in-None-clause-begins
returns-in-None-clause-begins g c ending same kept begins =
    let loaded = c.args.execution.now.opened.now.loaded in
    let store = c.begin_update.new.self in
    let held = c.begin_update.ensures.held in (
      c.read_of.result,
      c.read_of.ensures,
      subst
          (λ (f : Frame). LeadsAnew ending (IsBegunBy (bytes_of loaded.base)
          c.args.request.now.session.bound c.read_of.result) (CarriesFirst ending
          (bytes_of loaded.new) (conversions_of c.args.request.now.conversions.items)) f
          (store_of c.settled.new.devices.outputs.keeper))
          held
          (updates_first c.args.request.now (bytes_of loaded.new) (bytes_of loaded.base)
          c.read_of.result store (store_of c.serve_update-code.new.devices.outputs.keeper)
          (store_of c.settled.new.devices.outputs.keeper) kept
          (subst (λ (list : List Conversion). IsToUpdate (bytes_of loaded.new)
          (conversions_of list) store) c.deref.ensures.value
          (is_to_update c.new_base.result c.in-Some.new loaded.new store.next c.deref.result.now
          store c.in-Some.is c.new_base.ensures c.begin_update.ensures.some
          c.begin_update.ensures.manner))
          (subst (λ (f : Frame). IsToBegin (bytes_of loaded.base) f) (sym held) begins)
          c.bounds_fit.ensures ending
          (subst (λ (b : List ℕ). LeadsUpdate Puts Announces b (bytes_of loaded.new)
          (update_ask_of c.args.request.now) c.read_of.result ending store
          (store_of c.serve_update-code.new.devices.outputs.keeper)) c.bytes_of-base.ensures
          (c.serve_update-code.ensures ending (c.settled.ensures.code ending same)))
          (settles_by ending _ _ _ same c.settled.ensures.done c.settled.ensures.halted)),
    )

use Rattle.std.proofs.Common.{◌≡◌, Bool, ap, false, subst, sym}
use Rattle.rc_cli.specs.Storing.{store_of}
use Rattle.rc_historytext.specs.Travelling.{GoesOn}
use Rattle.rc_serve.specs.declared.ending.Ending.{Ending}
use Rattle.rc_update.specs.Conversions.{conversions_of}
use Rattle.rc_launch.specs.Anew.{UpdatesAnew}
use Rattle.rc_launch.specs.Frames.{IsToBegin}
use Rattle.rc_launch.specs.Loading.{NamesFile, bytes_of}
use Rattle.rc_launch.specs.TwoSteps.{CarriesBy, StopsTakingBack, TakesBack, ending_after}
use Rattle.rc_launch.proofs.StepLemmas.{begins_bare, behind_code, ends_behind, leads_stopped}
use Rattle.rc_launch.proofs.StepLemmas.{not_stopped, not_taken}
use Rattle.rc_launch.specs.declared.live_store.LiveStore.{LiveStore}
use Rattle.rc_launch.proofs.two_steps.update.Goals as goal

pub returns-in-Ok-true-clause-ended : goal.returns-in-Ok-true-clause-ended
returns-in-Ok-true-clause-ended g c ending same named kept =
    let loaded = c.args.execution.now.opened.now.loaded in
    let last = behind_code _ _ ending c.hindered.ensures same in
    ends_behind _ (NamesFile loaded) TakesBack
    (λ (e : Ending). CarriesBy e (bytes_of loaded.new)
    (conversions_of c.args.request.now.conversions.items))
    (StopsTakingBack ending (GoesOn false)) ending last.0
    (store_of c.args.devices.now.outputs.keeper)
    (store_of c.all_taken_back.new.devices.outputs.keeper)
    (store_of c.carry_over.new.devices.outputs.keeper) c.in-Ok-true.ensures.taken named
    (subst (λ (b : Bool). ending ≡ ending_after b last.0) (sym c.in-Ok-true.field-0-test) last.2)
    (c.carry_over.ensures.ended last.0 last.1 kept)

pub returns-in-Ok-false-clause-ended : goal.returns-in-Ok-false-clause-ended
returns-in-Ok-false-clause-ended g c ending same named kept =
    let loaded = c.args.execution.now.opened.now.loaded in
    ends_behind _ (NamesFile loaded) TakesBack
    (λ (e : Ending). CarriesBy e (bytes_of loaded.new)
    (conversions_of c.args.request.now.conversions.items))
    (StopsTakingBack ending (GoesOn false)) ending ending
    (store_of c.args.devices.now.outputs.keeper)
    (store_of c.all_taken_back.new.devices.outputs.keeper)
    (store_of c.carry_over-in-Ok-false.new.devices.outputs.keeper) c.in-Ok-false.ensures.taken
    named
    (ap (λ (b : Bool). ending_after b ending) (sym c.in-Ok-false.field-0-test))
    (c.carry_over-in-Ok-false.ensures.ended ending same kept)

pub returns-in-Err-clause-ended : goal.returns-in-Err-clause-ended
returns-in-Err-clause-ended g c ending same named kept =
    leads_stopped _ _ (store_of c.args.devices.now.outputs.keeper)
    (store_of c.all_taken_back.new.devices.outputs.keeper)
    (c.in-Err.ensures.stops ending same named)

pub returns-in-Ok-true-clause-begins : goal.returns-in-Ok-true-clause-begins
returns-in-Ok-true-clause-begins g c ending same kept begins =
    absurd (not_taken c.all_taken_back.result c.in-Ok-true.field-0
    (c.all_taken_back.ensures.bare (begins_bare _ _ begins)) c.in-Ok-true.is
    c.in-Ok-true.field-0-test)

pub returns-in-Ok-false-clause-begins : goal.returns-in-Ok-false-clause-begins
returns-in-Ok-false-clause-begins g c ending same kept begins =
    let opened = c.args.execution.now.opened.now in
    let still = c.all_taken_back.ensures.still (begins_bare _ _ begins) in
    subst (λ (s : LiveStore). UpdatesAnew opened c.args.request.now ending s.frame
    (store_of c.carry_over-in-Ok-false.new.devices.outputs.keeper)) still
    (c.carry_over-in-Ok-false.ensures.begins ending same kept
    (subst (λ (s : LiveStore). IsToBegin (bytes_of opened.loaded.base) s.frame) (sym still) begins))

pub returns-in-Err-clause-begins : goal.returns-in-Err-clause-begins
returns-in-Err-clause-begins g c ending same kept begins =
    absurd (not_stopped c.all_taken_back.result c.in-Err.code
    (c.all_taken_back.ensures.bare (begins_bare _ _ begins)) c.in-Err.is)

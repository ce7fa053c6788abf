use Rattle.rc_livetext.specs.Text.{StateText}
use Rattle.rc_livetext.proofs.Whole.{stops_before, stops_behind, whole}
use Rattle.rc_livetext.proofs.forms.read_form.Goals as goal

pub returns-in-Err-clause-fault : goal.returns-in-Err-clause-fault
returns-in-Err-clause-fault c =
    let head = c.in_ok-services.ensures.ok in
    stops_before c.in_ok-services.services.items c.in_ok-services.bound c.args.bytes.now
    c.in_ok-services.rest.now head.0 head.1 head.2 c.in-Err.fault
    c.in-Err.ensures.fault

pub returns-in-Err-states_to_last-clause-fault : goal.returns-in-Err-states_to_last-clause-fault
returns-in-Err-states_to_last-clause-fault c =
    let head = c.in_ok-services.ensures.ok in
    let before = c.in-Ok.ensures.ok in
    let bundles = c.in-Ok-bundles_at.ensures.ok in
    let current : StateText = record {
      live = c.in-Ok.read.1.items;
      bundles = c.in-Ok-bundles_at.read.0.items;
    } in
    stops_behind c.in_ok-services.services.items c.in_ok-services.bound c.args.bytes.now
    c.in_ok-services.rest.now head.0 head.1 head.2 c.in-Ok.read.0.items current
    c.in-Ok.read.2.now c.in-Ok-bundles_at.read.1.now before.1 before.0 bundles.0
    c.in-Err-states_to_last.fault
    (c.in-Err-states_to_last.ensures.fault c.in-Ok-bundles_at.read.0.items bundles.1)

pub returns-clause-ok : goal.returns-clause-ok
returns-clause-ok c =
    let head = c.in_ok-services.ensures.ok in
    let before = c.in-Ok.ensures.ok in
    let bundles = c.in-Ok-bundles_at.ensures.ok in
    let current : StateText = record {
      live = c.in-Ok.read.1.items;
      bundles = c.in-Ok-bundles_at.read.0.items;
    } in
    whole c.in_ok-services.services.items c.in_ok-services.bound c.args.bytes.now
    c.in_ok-services.rest.now head.0 head.1 head.2 c.in-Ok.read.0.items current
    c.in-Ok.read.2.now c.in-Ok-bundles_at.read.1.now before.1 before.0 bundles.0
    c.in-Ok-states_to_last.read.0.items c.in-Ok-states_to_last.read.1.now
    c.in-Ok-states_to_last.ensures.ok

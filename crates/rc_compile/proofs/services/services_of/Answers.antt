use Rattle.std.proofs.Common.{map, arith}
use Rattle.rc_source.specs.Said.{meaning_of}
use Rattle.rc_compile.proofs.Placing.{place_within, defined_none, defined_more, defined_all}
use Rattle.rc_compile.proofs.services.services_of.Goals as goal

pub loop-place-init : goal.loop-place-init
loop-place-init c =
    defined_none (map meaning_of c.args.definitions.now) c.args.names.now
    c.new-services.result.items c.new-services.ensures.items

pub service_at-requires-clause-place : goal.service_at-requires-clause-place
service_at-requires-clause-place c =
    place_within c.args.definitions.now c.args.names.now c.args.places.now c.loop-place.place-index
    c.requires.places c.loop-place-test.true

pub loop-place-preserved : goal.loop-place-preserved
loop-place-preserved c =
    let as_defined = c.in_ok-service_at.ensures in
    defined_more (map meaning_of c.args.definitions.now) c.args.names.now c.args.places.now
    c.loop-place.place-index c.loop-place.services.items c.push.new.self.items as_defined.0
    c.in_ok-service_at.field-0
    c.requires.places c.loop-place.invariant c.loop-place-test.true as_defined.1 as_defined.2
    c.in_ok-push.ensures.items

pub returns : goal.returns
returns c =
    defined_all (map meaning_of c.args.definitions.now) c.args.names.now c.args.places.now
    c.loop-place.place-index c.loop-place.services.items c.requires.places c.loop-place.invariant
    (omega (arith, c.loop-place.auto.place-index-end)) c.loop-place-test.false

use Rattle.std.proofs.Common.{◌≡◌, ◌∙◌, ◌<◌, ℕ, List, Some, Contains, length, map, slice_get, sym}
use Rattle.std.proofs.Common.{ap, subst, arith}
use Rattle.std.proofs.lemmas.List.{length-map}
use Rattle.std.proofs.lemmas.Option.{slice_get_within}
use Rattle.rc_source.specs.Said.{meaning_of}
use Rattle.rc_source.specs.declared.definition.Definition.{Definition}
use Rattle.rc_compile.proofs.Placing.{meaning_at, placed_none, placed_more, placed_passed}
use Rattle.rc_compile.proofs.Placing.{placed_all}
use Rattle.rc_compile.proofs.services.places_of.Goals as goal
use Rattle.rc_compile.proofs.services.places_of.Goals.{in-Some, in_default}

pub loop-place-init : goal.loop-place-init
loop-place-init c =
    placed_none (map meaning_of c.args.definitions.now) c.args.names.now c.in_ok-places.places.items
    (omega (arith, c.in_ok-places.ensures.len, c.in_ok-places.places.ok.0, c.len.ensures.len))

pub index_mut-requires : goal.index_mut-requires
index_mut-requires c =
    let low : c.in-Some.id < length c.args.names.now =
    slice_get_within c.args.names.now c.in-Some.id c.text.result.now c.in-Some.ensures.found in
    omega (arith, low, c.loop-place.invariant.long, c.loop-place.places.ok.0)

pub loop-place-preserved : goal.loop-place-preserved
loop-place-preserved c =
    let ms = map meaning_of c.args.definitions.now in
    let one = meaning_of c.index-definitions-place.result in
    let at_i : slice_get ms c.loop-place.place ≡ Some one = meaning_at c.args.definitions.now
    c.loop-place.place c.index-definitions-place.result c.loop-place-test.true
    c.index-definitions-place.is in
    let called : c.text.result.now ≡ one.name =
    c.text.ensures.bytes ∙ ap (λ (d : Definition). d.name) (sym c.index-definitions-place.is) in
    elim c.match-find.branch [
      | in-Some w ↦
          rw w.places-is
          (placed_more ms c.args.names.now c.loop-place.place w.in-Some.id c.loop-place.places.items
          one c.len.ensures.names.order c.loop-place.invariant at_i
          (w.in-Some.ensures.found ∙ ap (λ (x : List ℕ). Some x) called))
      | in_default w ↦
          rw w.places-is
          (placed_passed ms c.args.names.now c.loop-place.place c.loop-place.places.items one
          c.loop-place.invariant at_i
          (λ there. w.in_default.ensures.missing
          (subst (Contains c.args.names.now) (sym called) there)))
    ]

pub returns : goal.returns
returns c =
    placed_all (map meaning_of c.args.definitions.now) c.args.names.now c.loop-place.place
    c.loop-place.places.items c.loop-place.invariant
    (omega (arith, length-map c.args.definitions.now meaning_of, c.loop-place-test.false))
    c.requires.known

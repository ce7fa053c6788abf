use Rattle.std.proofs.Common.{◌≡◌, Contains, map, arith}
use Rattle.std.proofs.lemmas.List.{length-map}
use Rattle.rc_model.proofs.Places.{contains_at}
use Rattle.rc_db.proofs.Words.{mapped_at}
use Rattle.rc_source.specs.Said.{meaning_of}
use Rattle.rc_compile.specs.Book.{HasSought}
use Rattle.rc_compile.proofs.Givens.{seen_next, seen_whole}
use Rattle.rc_compile.proofs.scan.with_sought.Goals as goal

pub add_sought-requires-clause-within : goal.add_sought-requires-clause-within
add_sought-requires-clause-within c =
    let here = mapped_at meaning_of c.args.definitions.now c.loop-definition.definition-index
    c.definition-item.result (omega arith) c.definition-item.is in
    contains_at (map meaning_of c.args.definitions.now) c.loop-definition.definition-index
    (meaning_of c.definition-item.result) here

pub loop-definition-preserved : goal.loop-definition-preserved
loop-definition-preserved c =
    let ms = map meaning_of c.args.definitions.now in
    let here = mapped_at meaning_of c.args.definitions.now c.loop-definition.definition-index
    c.definition-item.result (omega arith) c.definition-item.is in
    seen_next (λ m s. (m.name ≡ s) × HasSought ms c.args.sought m.name) ms
    (Contains c.loop-definition.names.items) (Contains c.add_sought.new.names.items)
    c.loop-definition.definition-index (meaning_of c.definition-item.result) here
    c.loop-definition.invariant c.in_ok-add_sought.ensures

pub returns : goal.returns
returns c s =
    let ms = map meaning_of c.args.definitions.now in
    let seen = seen_whole (λ m x. (m.name ≡ x) × HasSought ms c.args.sought m.name) ms
    (Contains c.loop-definition.names.items) c.loop-definition.definition-index
    (omega (arith, length-map c.args.definitions.now meaning_of)) c.loop-definition.invariant s in (
      λ there. let (m, within, (named, has)) = seen.0 there in
          (m, within, named, has),
      λ (m, within, named, has). seen.1 (m, within, (named, has)),
    )

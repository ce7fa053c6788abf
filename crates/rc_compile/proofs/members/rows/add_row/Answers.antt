use Rattle.std.proofs.Common.{◌∙◌, ◌≡◌, ◌<◌, ℕ, slice_index_or, List, Some, Contains, slice_get}
use Rattle.std.proofs.Common.{length, sym, ap, subst, arith}
use Rattle.std.proofs.lemmas.List.{get_or_default}
use Rattle.std.proofs.lemmas.Option.{slice_get_within}
use Rattle.rc_compile.specs.Rows.{rows}
use Rattle.rc_source.specs.Said.{meaning_of}
use Rattle.rc_compile.specs.Mirror.{listed_of}
use Rattle.rc_compile.proofs.Listing.{row_put, row_passed}
use Rattle.rc_compile.proofs.members.rows.add_row.Goals as goal

pub returns-in_ok-add_listed-clause-rows : goal.returns-in_ok-add_listed-clause-rows
returns-in_ok-add_listed-clause-rows c =
    let at : slice_get c.args.from.now c.in-Some.id ≡ Some c.args.definition.now.name =
    c.in-Some.ensures.found ∙ ap (λ (x : List ℕ). Some x) c.text.ensures.bytes in
    let low : c.in-Some.id < length c.args.lists.now =
    omega (
      arith,
      slice_get_within c.args.from.now c.in-Some.id c.args.definition.now.name at,
      c.requires.few,
    ) in
    row_put c.args.lists.now c.in-Some.id
    (slice_index_or c.args.lists.now c.in-Some.id c.index-lists-id.result) c.add_listed.new.ids
    c.args.from.now c.args.definition.now.name
    (λ t. (b : List ℕ) × (slice_get c.args.to.now t ≡ Some b)
    × Contains (listed_of c.args.which (meaning_of c.args.definition.now)) b)
    low (get_or_default c.args.lists.now c.in-Some.id _ _ low) c.requires.order at
    c.in_ok-add_listed.ensures

pub returns-in_default-clause-rows : goal.returns-in_default-clause-rows
returns-in_default-clause-rows c =
    row_passed (rows c.args.lists.now) c.args.from.now c.args.definition.now.name
    (λ t. (b : List ℕ) × (slice_get c.args.to.now t ≡ Some b)
    × Contains (listed_of c.args.which (meaning_of c.args.definition.now)) b)
    (λ has. c.in_default.ensures.missing
    (subst (Contains c.args.from.now) (sym c.text.ensures.bytes) has))

use Rattle.std.proofs.Common.{◌≡◌, ◌≤◌, ◌∙◌, ℕ, List, length, map, zero-le, sym, arith}
use denote.Ref.{Bor}
use Rattle.std.proofs.lemmas.List.{length-map}
use Rattle.rc_script.proofs.Fronts.{options_begin, option_nears, option_more, option_fails}
use Rattle.rc_script.proofs.Fronts.{options_end}
use Rattle.rc_script.proofs.Texts.{images_from}
use Rattle.rc_script.proofs.options.front_of.Goals as goal

abbrev text : Bor (List ℕ) → List ℕ
text b = b.now

pub loop-alloc-init : goal.loop-alloc-init
loop-alloc-init c =
    (zero-le, options_begin (map text c.args.words.now) _ c.new-choices.ensures.items)

pub slice_bounds-has_option-start : goal.slice_bounds-has_option-start
slice_bounds-has_option-start c = c.loop-alloc.invariant.0

pub slice_bounds-add_option-start : goal.slice_bounds-add_option-start
slice_bounds-add_option-start c = c.loop-alloc.invariant.0

pub slice_bounds-result-start : goal.slice_bounds-result-start
slice_bounds-result-start c = c.loop-alloc.invariant.0

pub add_option-requires : goal.add_option-requires
add_option-requires c = sym c.has_option.ensures ∙ c.loop-alloc-test.true

pub loop-alloc-smaller : goal.loop-alloc-smaller
loop-alloc-smaller c =
    option_nears (map text c.args.words.now) _ c.loop-alloc.start c.in-Some.count
    (length c.args.words.now) c.loop-alloc.choices.items c.add_option.new.choices.items
    (length-map c.args.words.now text)
    (images_from text c.args.words.now c.loop-alloc.start) c.loop-alloc.invariant.0
    (rw c.in-Some.is at c.in_ok-count.ensures)

pub loop-alloc-preserved : goal.loop-alloc-preserved
loop-alloc-preserved c =
    let start = c.loop-alloc.start in
    let long : length (map text c.args.words.now) ≡ length c.args.words.now =
    length-map c.args.words.now text in
    let within : start ≤ length (map text c.args.words.now) =
    omega (arith, long, c.loop-alloc.invariant.0) in
    let more = option_more (map text c.args.words.now) _ start c.in-Some.count
    c.loop-alloc.choices.items c.add_option.new.choices.items c.loop-alloc.invariant.1
    (images_from text c.args.words.now start) within (rw c.in-Some.is at c.in_ok-count.ensures) in
    (omega (arith, long, more.0), more.1)

pub returns-in-None : goal.returns-in-None
returns-in-None c =
    option_fails _ _ c.loop-alloc.start c.loop-alloc.choices.items c.loop-alloc.invariant.1
    (images_from text c.args.words.now c.loop-alloc.start)
    (rw c.in-None.is at c.in_ok-count.ensures)

pub returns : goal.returns
returns c =
    options_end _ _ c.loop-alloc.start c.loop-alloc.choices.items c.loop-alloc.invariant.1
    (images_from text c.args.words.now c.loop-alloc.start)
    (sym c.has_option.ensures ∙ c.loop-alloc-test.false)

use Rattle.std.proofs.Common.{◌∙◌, ◌++◌, ℕ, List, sym, ap}
use denote.Ref.{Bor}
use Rattle.rc_select.specs.declared.request.Choice.{Choice}
use Rattle.rc_script.proofs.Fronts.{words_some, first_filled, limit_option, limit_fails}
use Rattle.rc_script.proofs.Fronts.{letters_option}
use Rattle.rc_script.proofs.Texts.{images_from}
use Rattle.rc_script.proofs.options.add_option.Goals as goal

abbrev text : Bor (List ℕ) → List ℕ
text b = b.now

pub bounds-words-0 : goal.bounds-words-0
bounds-words-0 c = words_some text c.args.words.now c.requires

pub bounds-words-0-2 : goal.bounds-words-0-2
bounds-words-0-2 c = words_some text c.args.words.now c.requires

pub slice_bounds-add_limit-start : goal.slice_bounds-add_limit-start
slice_bounds-add_limit-start c = words_some text c.args.words.now c.requires

pub letters_of-requires : goal.letters_of-requires
letters_of-requires c = first_filled text c.args.words.now _ c.requires

pub returns-in-Ok-true : goal.returns-in-Ok-true
returns-in-Ok-true c =
    limit_option text c.args.words.now _ _ c.args.choices.now.items c.add_limit.new.choices.items
    c.requires (sym c.eq.ensures ∙ c.if-eq.true)
    (images_from text c.args.words.now 1) (rw c.in-Ok-true.field-0-test at c.in-Ok-true.ensures)

pub returns-in-Ok-false : goal.returns-in-Ok-false
returns-in-Ok-false c =
    limit_fails text c.args.words.now _ _ c.requires (sym c.eq.ensures ∙ c.if-eq.true)
    (images_from text c.args.words.now 1) (rw c.in-Ok-false.field-0-test at c.in-Ok-false.ensures)

pub returns-in-Ok : goal.returns-in-Ok
returns-in-Ok c =
    letters_option text c.args.words.now _ c.in-Some.letters.items c.args.choices.now.items
    c.extend_from_slice-added.new.self.items c.requires (sym c.eq.ensures ∙ c.if-eq.false)
    (rw c.in-Some.is at c.in_ok-letters.ensures)
    (c.in-Ok.ensures.items ∙ ap (λ (l : List Choice). c.args.choices.now.items ++ l)
    c.deref.ensures.value)

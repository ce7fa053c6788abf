use Rattle.std.proofs.Common.{◌≡◌, drop}
use Rattle.rc_select.specs.Ask.{none_chosen, with_choices}
use Rattle.rc_select.proofs.request.Chosen.by.Given as goal

abbrev pub invariant-loop-choice : goal.invariant-loop-choice
invariant-loop-choice l =
    with_choices l.chosen (drop l.choice-index l.choices) ≡ with_choices none_chosen l.choices

use Rattle.std.proofs.Common.{rules, ◌∙◌}
use Rattle.rc_session.specs.Commands.{command_of}
use Rattle.rc_session.specs.Report.{answer_of}
use Rattle.rc_cli.proofs.Telling.{told_more, told_each}
use Rattle.rc_cli.proofs.queries.played.answers_text.Goals as goal

pub loop-place-preserved : goal.loop-place-preserved
loop-place-preserved c =
    told_more command_of answer_of c.args.names.now c.args.steps.now c.args.answers.now
    c.loop-place.place c.index-steps-place.result c.index-answers-place.result _
    c.loop-place.text.items _ c.deref.result.now
    c.loop-place-test.true c.if-place-answers.false (search rules) (search rules)
    c.loop-place.invariant (c.deref.ensures.value ∙ c.in_ok-line.ensures)
    c.in_ok-extend_from_slice.ensures.items

pub returns : goal.returns
returns c =
    told_each command_of answer_of c.args.names.now c.args.steps.now c.args.answers.now
    c.loop-place.place _ c.loop-place.text.items c.loop-place-test.false c.loop-place.invariant

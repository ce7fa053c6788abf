use Rattle.std.proofs.Common.{◌≡◌, ◌++◌, map, drop}
use Rattle.rc_session.specs.Commands.{command_of}
use Rattle.rc_session.specs.Report.{answer_of}
use Rattle.rc_render.specs.AnswerText.{answers_text}
use Rattle.rc_cli.proofs.queries.played.answers_text.Given as goal

abbrev pub invariant-loop-place : goal.invariant-loop-place
invariant-loop-place l =
    l.text.items ++ answers_text l.names (map command_of (drop l.place l.steps))
    (map answer_of (drop l.place l.answers)) ≡ answers_text l.names (map command_of l.steps)
    (map answer_of l.answers)

use Rattle.std.proofs.Common.{[], inl, inr}
use Rattle.rc_model.specs.Session.{Redo, Undo}
use Rattle.rc_session.specs.Commands.{plain_of}
use Rattle.rc_cli.proofs.BegunLemmas.{no_way, none_said, way_said}
use Rattle.rc_script.specs.Says.{saying_of}
use Rattle.rc_serve.proofs.Steps.{not_step}
use Rattle.rc_cli.proofs.begun.says_way.Goals as goal

pub returns-in_default : goal.returns-in_default
returns-in_default c = (
  λ no. let wrong = no in cc,
  λ says. absurd (elim says [
    | inl undo ↦ none_said c.args.bytes.now (Undo 1 []) c.in_default.ensures.none undo
    | inr redo ↦ none_said c.args.bytes.now (Redo 1 []) c.in_default.ensures.none redo
  ]),
)

pub returns-in-Command : goal.returns-in-Command
returns-in-Command c =
    way_said c.args.bytes.now c.in-Some.line.now c.in-Some._rest.now
    (plain_of c.in-Command.command) c.is_way-is.result c.lines_say_one_thing.ensures
    c.in-Some.ensures.line
    (rw c.in-Command.is at c.in_ok-command.ensures.said) c.is_way-is.ensures

pub returns : goal.returns
returns c = (
  λ no. let wrong = no in cc,
  λ says. absurd
      (no_way c.args.bytes.now c.in-Some.line.now c.in-Some._rest.now
      (saying_of c.in_ok-command.field-0) c.lines_say_one_thing.ensures c.in-Some.ensures.line
      c.in_ok-command.ensures.said
      (λ command. not_step c.in_ok-command.field-0 command c.in_default-2.not-Command) says),
)

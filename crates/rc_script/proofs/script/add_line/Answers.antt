use Rattle.std.proofs.Common.{◌≡◌, ◌∙◌, ◌∷◌, ◌++◌, [], ℕ, List, Some, map, refl, sym, ap}
use Rattle.std.proofs.lemmas.List.{map-append}
use Rattle.rc_model.specs.Session.{Command}
use Rattle.rc_session.specs.Commands.{command_of, plain_of}
use Rattle.rc_session.specs.declared.step.Command.{Command as Plain}
use Rattle.rc_script.specs.declared.line.SessionLine.{SessionLine}
use Rattle.rc_script.specs.declared.line.SessionLine.TheVariants as variants
use Rattle.rc_script.specs.Says.{Says, SaysNothing, SaysWrong, SaysStep, SaysLive, SaysBundles}
use Rattle.rc_script.specs.Says.{SaysJournal, saying_of}
use Rattle.rc_script.specs.Script.{CannotAdd, Skipped, Starts, OtherForm}
use Rattle.rc_script.proofs.Reading.{event_adds}
use Rattle.rc_script.proofs.script.add_line.Goals as goal

-- a line that is no command and has a form may not stand in a script
no_command : (names : List (List ℕ)) (line : List ℕ) (old : List Command) (read : SessionLine)
    → Says line (saying_of read) → (read ≡ variants.Nothing → ⊥) → (read ≡ variants.Wrong → ⊥)
    → ((command : Plain) → read ≡ variants.Command command → ⊥) → CannotAdd names line old
no_command names line old variants.Nothing says nothing wrong step = absurd (nothing refl)
no_command names line old variants.Wrong says nothing wrong step = absurd (wrong refl)
no_command names line old (variants.Command it) says nothing wrong step = absurd (step it refl)
no_command names line old (variants.Dry request) says nothing wrong step =
    (OtherForm, (saying_of (variants.Dry request), says, refl), refl)
no_command names line old variants.Live says nothing wrong step =
    (OtherForm, (SaysLive, says, refl), refl)
no_command names line old variants.Bundles says nothing wrong step =
    (OtherForm, (SaysBundles, says, refl), refl)
no_command names line old variants.Journal says nothing wrong step =
    (OtherForm, (SaysJournal, says, refl), refl)

pub returns-in-Nothing : goal.returns-in-Nothing
returns-in-Nothing c =
    (Skipped, (SaysNothing, rw c.in-Nothing.is at c.in_ok-read_line.ensures.said, refl), refl)

pub returns-in-Wrong : goal.returns-in-Wrong
returns-in-Wrong c = (
  OtherForm,
  (
    SaysWrong,
    rw c.in-Wrong.is at c.in_ok-read_line.ensures.said,
    rw c.in-None.is at c.in_ok-event-in-Wrong.ensures,
  ),
  refl,
)

pub returns : goal.returns
returns c =
    no_command c.args.names.now c.args.line.now (map command_of c.args.steps.now.items)
    c.in_ok-read_line.field-0 c.in_ok-read_line.ensures.said c.in_default.not-Nothing
    c.in_default.not-Wrong c.in_default.not-Command

pub returns-in-Command : goal.returns-in-Command
returns-in-Command c =
    let command = plain_of c.in-Command.command in
    let pushed : map command_of c.push.new.self.items ≡ map command_of c.args.steps.now.items
    ++ command ∷ [] =
    ap (map command_of) c.in_ok-push-in-Command.ensures.items
    ∙ map-append command_of c.args.steps.now.items (c.into_step.result ∷ [])
    ∙ ap (λ (one : Command). map command_of c.args.steps.now.items ++ one ∷ [])
    c.into_step.ensures in (
      Starts command,
      (SaysStep command, rw c.in-Command.is at c.in_ok-read_line.ensures.said, refl),
      ap Some (sym pushed),
    )

pub returns-in-Some : goal.returns-in-Some
returns-in-Some c =
    event_adds c.args.names.now c.args.line.now _ _ c.in-Some.event c.add_event.result
    (rw c.in-Wrong.is at c.in_ok-read_line.ensures.said)
    (rw c.in-Some.is at c.in_ok-event-in-Wrong.ensures) c.add_event.ensures

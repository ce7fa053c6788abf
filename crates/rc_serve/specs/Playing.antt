-- What is served is a play: of the commands among the lines.
use Rattle.std.specs.Prelude.{◌≡◌, ℕ, List, [], ◌∷◌, Option, Result}
use Rattle.std.specs.Io.KnownBytes.{Consumes}
use Rattle.rc_model.specs.Database.{Database}
use Rattle.rc_model.specs.declared.Event.{Event}
use Rattle.rc_model.specs.Line.{Line}
use Rattle.rc_model.specs.declared.Refusal.{Refusal}
use Rattle.rc_model.specs.Session.{Command, Reported, Does, Plays}
use Rattle.rc_session.specs.Commands.{with_events}
use Rattle.rc_session.specs.Holding.{Holding}
use Rattle.rc_model.specs.Headline.{IsPromisedAllAlong}
use Rattle.rc_render.specs.ReportText.{report_text}
use Rattle.rc_script.specs.Says.{Saying, SaysStep, Says}
use Rattle.rc_serve.specs.Meeting.{Doing}
use Rattle.rc_serve.specs.Serving.{AreLines}

-- a command is done, with some events, and the answer is its report
abbrev pub IsDone : Doing
IsDone d here command text new = (events : List Event) × (told : Reported)
    × Does d here (with_events command events) told new × (text ≡ report_text d.names told)

-- a command that is said is the first of all, with events of its own; what is no command adds none
abbrev pub SaysFirst : Saying → (more commands : List Command) → Type 0
SaysFirst (SaysStep command) more commands =
    (events : List Event) × (commands ≡ with_events command events ∷ more)
SaysFirst other more commands = commands ≡ more

-- the commands among lines, in their order, each with events of its own
abbrev pub AreSaid : List (List ℕ) → List Command → Type 0
AreSaid [] commands = commands ≡ []
AreSaid (bytes ∷ lines) commands = (saying : Saying) × (more : List Command)
    × Says bytes saying × SaysFirst saying more commands × AreSaid lines more

-- the commands among lines are played from where the line of states stands, and what the
-- headline promises holds all along
pub record ArePlayed (d : Database) (here : Line) (lines : List (List ℕ))
    (new : Line) : Type 0 where
  pub commands : List Command
  pub answers : List (Result Reported Refusal)
  pub said : AreSaid lines commands
  pub plays : Plays d here commands answers new
  pub promised : IsPromisedAllAlong d here commands answers new

-- the lines at the beginning of what was read of an input are played
abbrev pub PlaysInput : (input left : Option (List ℕ)) → (old new : Holding) → Type 0
PlaysInput input left old new = (bytes : List ℕ) × (rest : List ℕ) × (lines : List (List ℕ))
    × Consumes input left bytes × AreLines lines bytes rest
    × ArePlayed old.database old.line lines new.line

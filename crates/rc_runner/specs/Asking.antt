-- How a controller is asked where a service stands, and what its end says.
use Rattle.std.specs.Prelude.{◌≡◌, ◌≢◌, ◌==◌, ◌∷◌, ℕ, List, [], Option, None, Some, codes}
use Rattle.std.specs.Prelude.{if◌then◌else◌}
use Rattle.std.specs.Process.{command_var}
use Rattle.std.specs.declared.process.command.Command.{Command}
use Rattle.rc_model.specs.declared.Kind.{Kind}
use Rattle.rc_model.specs.declared.Kind.TheVariants as kind
use Rattle.rc_model.specs.declared.Outcome.{Outcome}
use Rattle.rc_model.specs.declared.Outcome.TheVariants as outcome
use Rattle.rc_runner.specs.Orders.{led}
use Rattle.rc_runner.specs.Shell.{Runs}
use Rattle.rc_runner.specs.declared.asking.Found.{Found}
use Rattle.rc_runner.specs.declared.asking.Found.TheVariants as found
use Rattle.rc_runner.specs.declared.asking.Question.{Question}
use Rattle.rc_runner.specs.declared.asking.Question.TheVariants as question

-- how long a controller may take for an answer, in milliseconds and in seconds
abbrev pub asking_limit : ℕ
asking_limit = 5000

abbrev pub asking_seconds : ℕ
asking_seconds = 5

-- what the end of a controller says: status 0 is up and 3 is down, and no other end says anything
abbrev pub found_of : Outcome → Found
found_of outcome.Ok = found.Up
found_of (outcome.Failed status) = if status == 3 then found.Down else found.Unknown
found_of outcome.TimedOut = found.Unknown
found_of outcome.NotStarted = found.Unknown

-- the question about a service of a kind: about a longrun, about a oneshot, and none about a bundle
abbrev pub question_for : Kind → Option Question
question_for kind.Longrun = Some question.State
question_for kind.Oneshot = Some question.Check
question_for kind.Bundle = None

-- the word of a question
abbrev pub question_word : Question → List ℕ
question_word question.State = codes "state"
question_word question.Check = codes "check"

-- what a controller is told in its environment that is asked with this word about a service
abbrev pub IsQuestion : {A : Type 0} → (word name : List ℕ) → Command A → Type 0
IsQuestion word name command =
    (command_var command (codes "UNDORC_NAME") ≡ Some (Some name))
    × (command_var command (codes "UNDORC_WAY") ≡ Some (Some word))
    × (command_var command (codes "UNDORC_LIMIT") ≡ Some (Some (codes "5000")))

-- a controller of these words is called with the word of a question and the name of a service
pub record IsAsking {A : Type 0} (asks : Question) (words : List (List ℕ)) (name : List ℕ)
    (command : Command A) : Type 0 where
  pub some : words ≢ []
  pub runs : Runs (led asking_limit words) (question_word asks ∷ name ∷ []) command
  pub told : IsQuestion (question_word asks) name command

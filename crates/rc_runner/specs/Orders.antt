-- What is to be done for a transition, before anything is started.
use Rattle.std.specs.Prelude.{◌≡◌, ◌≢◌, ◌==◌, ◌∷◌, ℕ, List, [], Option, Some, None, codes}
use Rattle.std.specs.Prelude.{if◌then◌else◌, slice_get}
use Rattle.std.specs.declared.process.command.Command.{Command}
use Rattle.rc_model.specs.declared.Kind.{Kind}
use Rattle.rc_model.specs.declared.Kind.TheVariants.{Oneshot, Longrun, Bundle}
use Rattle.rc_graph.specs.declared.Way.{Way}
use Rattle.rc_model.specs.declared.Outcome.{Outcome}
use Rattle.rc_model.specs.declared.Outcome.TheVariants as outcome
use Rattle.rc_model.specs.Database.{Service}
use Rattle.rc_runner.specs.declared.order.Order.{Order}
use Rattle.rc_runner.specs.declared.order.Move.{Move}
use Rattle.rc_runner.specs.declared.order.Move.TheVariants.{Known, Start}
use Rattle.rc_runner.specs.Shell.{Scripts, Runs, IsTold, MayEnd, text_of, limit_for, seconds_of}
use Rattle.rc_runner.specs.Shell.{word_of}

-- the words by which a program is started under a limit: with one it leads a session of its own, so
-- that all that it starts can be ended
abbrev pub led : (limit : ℕ) → List (List ℕ) → List (List ℕ)
led limit words = if limit == 0 then words else codes "setsid" ∷ words

-- a command of these words, of which there are some, under a limit
abbrev pub IsCommandOf : {A : Type 0} → (limit : ℕ) → List (List ℕ) → Command A → Type 0
IsCommandOf limit words command = (words ≢ []) × Runs (led limit words) [] command

-- a program that is to be started: these words and further ones after them, told of this service,
-- way and limit, and to be waited for under this limit
pub record IsOrder (words more : List (List ℕ)) (name : List ℕ) (way : Way) (limit : ℕ)
    (order : Order) : Type 0 where
  pub runs : Runs (led limit words) more order.command
  pub told : IsTold name way limit order.command
  pub name_is : order.task.name.now ≡ name
  pub way_is : order.task.way ≡ way
  pub limit_is : order.task.limit ≡ limit

-- a call of these words, where there is one; without a word nothing is started
abbrev pub IsCall : List (List ℕ) → List (List ℕ) → List ℕ → Way → ℕ → Move → Type 0
IsCall words more name way limit (Known o) = (words ≡ []) × (o ≡ outcome.NotStarted)
IsCall words more name way limit (Start order) =
    (words ≢ []) × IsOrder words more name way limit order

-- the runner is called with the text of a oneshot; without a text there is nothing to do
abbrev pub IsTextRun : List (List ℕ) → Option (List ℕ) → Option (List ℕ) → Way → ℕ → Move → Type 0
IsTextRun runner None name way limit move = move ≡ Known outcome.Ok
IsTextRun runner (Some text) None way limit move = move ≡ Known outcome.NotStarted
IsTextRun runner (Some text) (Some name) way limit move =
    IsCall runner (text ∷ []) name way limit move

-- the controller is called with the way and the name of a longrun
abbrev pub IsControl : List (List ℕ) → Option (List ℕ) → Way → ℕ → Move → Type 0
IsControl controller None way limit move = move ≡ Known outcome.NotStarted
IsControl controller (Some name) way limit move =
    IsCall controller (word_of way ∷ name ∷ []) name way limit move

-- what is to be done for a service of this name and kind
abbrev pub IsMoveOf : Scripts → Option (List ℕ) → Kind → Service → Way → Move → Type 0
IsMoveOf g name Oneshot s way move =
    IsTextRun g.runner (text_of s way) name way (limit_for g s way) move
IsMoveOf g name Longrun s way move =
    IsControl g.controller name way (limit_for g s way) move
IsMoveOf g name Bundle s way move = move ≡ Known outcome.NotStarted

-- and for what stands at a place: where there is no service, nothing is started
abbrev pub IsMoveAt : Scripts → Option (List ℕ) → Option Service → Way → Move → Type 0
IsMoveAt g name None way move = move ≡ Known outcome.NotStarted
IsMoveAt g name (Some s) way move = IsMoveOf g name s.kind s way move

-- what is to be done for a service and the way that it is to go
abbrev pub IsMoveFor : Scripts → ℕ → Way → Move → Type 0
IsMoveFor g s way move = IsMoveAt g (slice_get g.names s) (slice_get g.services s) way move

-- how it may end: as is known, or as the program may
abbrev pub MayEndSo : Move → Outcome → Type 0
MayEndSo (Known known) o = o ≡ known
MayEndSo (Start order) o = MayEnd (seconds_of order.task.limit) o

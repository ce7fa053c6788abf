-- What is served is a play of the commands among the lines.
use Rattle.std.proofs.Common.{◌≡◌, inl, inr, ℕ, List, [], ◌∷◌, ◌++◌, Option, Result, Ok, Err, IfErr}
use Rattle.std.proofs.Common.{OnOk, ap, refl, subst}
use Rattle.rc_graph.specs.declared.Way.{Way}
use Rattle.rc_model.specs.Database.{Database, IsDatabase}
use Rattle.rc_model.specs.declared.Outcome.{Outcome}
use Rattle.rc_model.specs.Line.{Line}
use Rattle.rc_model.specs.declared.Refusal.{Refusal}
use Rattle.rc_model.specs.Session.{Command, Change, Undo, Redo, Add, Delete, events_of, IsLineOf}
use Rattle.rc_model.specs.Session.{Reported, Plays}
use Rattle.rc_session.specs.Commands.{with_events}
use Rattle.rc_session.specs.Holding.{Holding}
use Rattle.rc_session.proofs.Promising.{all_along}
use Rattle.rc_script.specs.Says.{Saying, SaysNothing, SaysWrong, SaysStep, SaysDry, SaysLive}
use Rattle.rc_script.specs.Says.{SaysBundles, SaysJournal, Says}
use Rattle.rc_streams.specs.Exchange.{Exchange}
use Rattle.rc_serve.specs.declared.fault.ServeFault.{ServeFault}
use Rattle.rc_serve.specs.declared.keeper.KeepFault.{KeepFault}
use Rattle.rc_serve.specs.declared.fault.ServeFault.TheVariants.{Workers}
use Rattle.rc_serve.specs.Meeting.{Doing, IsDoneBy, Meets}
use Rattle.rc_serve.specs.Playing.{ArePlayed, AreSaid, IsDone, PlaysInput, SaysFirst}
use Rattle.rc_serve.specs.Serving.{Serves, ServesAll, ServesFront}
use Rattle.rc_serve.specs.Keeping.{Keeping, ServesFrontKept}
use Rattle.rc_serve.proofs.Lines.{over, serves_both, serves_none}

-- a command stands with its own events
own_events : (command : Command) → command ≡ with_events command (events_of command)
own_events (Change ask events) = refl
own_events (Undo limit events) = refl
own_events (Redo limit events) = refl
own_events (Add name contents force) = refl
own_events (Delete words force) = refl

-- some commands among lines are played
record IsPlay (d : Database) (here : Line) (lines : List (List ℕ)) (new : Line) : Type 0 where
  commands : List Command
  answers : List (Result Reported Refusal)
  said : AreSaid lines commands
  plays : Plays d here commands answers new

-- a line that leaves the line of states adds no command
still : (d : Database) (here next new : Line) (bytes : List ℕ) (lines : List (List ℕ))
    (saying : Saying) → Says bytes saying → ((more : List Command) → SaysFirst saying more more)
    → next ≡ here → IsPlay d next lines new → IsPlay d here (bytes ∷ lines) new
still d here next new bytes lines saying says none same play = record {
  commands = play.commands;
  answers = play.answers;
  said = (saying, play.commands, says, none play.commands, play.said);
  plays = subst (λ (l : Line). Plays d l play.commands play.answers new) same play.plays;
}

module _ (Done : Doing)
    (as_done : (d : Database) (here : Line) (command : Command) (text : List ℕ) (new : Line)
    → Done d here command text new → IsDone d here command text new) where
  met : (d : Database) (here : Line) (bytes : List ℕ) (lines : List (List ℕ)) (saying : Saying)
      (text : List ℕ) (next new : Line) → Says bytes saying
      → Meets Done d here saying text next → IsPlay d next lines new
      → IsPlay d here (bytes ∷ lines) new
  met d here bytes lines SaysNothing text next new says meets play =
      still d here next new bytes lines SaysNothing says (λ more. refl) meets.1 play
  met d here bytes lines SaysWrong text next new says meets play =
      still d here next new bytes lines SaysWrong says (λ more. refl) meets.1 play
  met d here bytes lines (SaysStep command) text next new says (inl done) play =
      let (events, told, does, is) = as_done d here command text next done in
      record {
        commands = with_events command events ∷ play.commands;
        answers = Ok told ∷ play.answers;
        said = (SaysStep command, play.commands, says, (events, refl), play.said);
        plays = (next, does, play.plays);
      }
  met d here bytes lines (SaysStep command) text next new says (inr refused) play =
      let (refusal, own, is, same) = refused in
      record {
        commands = command ∷ play.commands;
        answers = Err refusal ∷ play.answers;
        said = (
          SaysStep command,
          play.commands,
          says,
          (events_of command, ap (λ (c : Command). c ∷ play.commands) (own_events command)),
          play.said,
        );
        plays = (next, (inl own, same), play.plays);
      }
  met d here bytes lines (SaysDry ask) text next new says meets play =
      still d here next new bytes lines (SaysDry ask) says (λ more. refl) meets.1 play
  met d here bytes lines SaysLive text next new says meets play =
      still d here next new bytes lines SaysLive says (λ more. refl) meets.1 play
  met d here bytes lines SaysBundles text next new says meets play =
      still d here next new bytes lines SaysBundles says (λ more. refl) meets.1 play
  met d here bytes lines SaysJournal text next new says meets play =
      still d here next new bytes lines SaysJournal says (λ more. refl) meets.1 play

  is_play : (d : Database) (here : Line) (lines : List (List ℕ)) (text : List ℕ) (new : Line)
      → Serves Done d here lines text new → IsPlay d here lines new
  is_play d here [] text new served =
      record { commands = []; answers = []; said = refl; plays = served.1 }
  is_play d here (bytes ∷ lines) text new (first, next, others, meets, rest, whole) =
      let (saying, says, is) = meets in
      met d here bytes lines saying first next new says is (is_play d next lines others new rest)

  -- what is served is a play
  pub played : (d : Database) (here new : Line) (lines : List (List ℕ)) (text : List ℕ)
      → IsDatabase d → IsLineOf d here → Serves Done d here lines text new
      → ArePlayed d here lines new
  played d here new lines text is_db of served =
      let play = is_play d here lines text new served in
      record {
        commands = play.commands;
        answers = play.answers;
        said = play.said;
        plays = play.plays;
        promised = all_along d here new play.commands play.answers is_db of play.plays;
      }

  -- and so is what was served where a fault came
  pub plays_front : (fault : ServeFault) (io : Exchange) (old new : Holding)
      → IsDatabase old.database → IsLineOf old.database old.line
      → ServesFront Done fault io old new → PlaysInput io.input io.left old new
  plays_front fault io old new is_db of served = (
    served.bytes,
    served.rest,
    served.lines ++ served.more,
    served.consumed,
    served.spelled,
    played old.database old.line new.line (served.lines ++ served.more)
        (served.text ++ served.answer) is_db of
        (serves_both Done old.database old.line served.lines served.text served.here served.more
        served.answer new.line served.met served.met_more),
  )

-- whatever came of serving with a gate
module _ (workers : ℕ) (Answers : ℕ → Way → Outcome → Type 0) (Gives : ℕ → Type 0) where
  forget : (d : Database) (here : Line) (command : Command) (text : List ℕ) (new : Line)
      → IsDoneBy workers Answers Gives d here command text new → IsDone d here command text new
  forget d here command text new (events, told, made, does, is) = (events, told, does, is)

  pub plays_input : {A : Type 0} (result : Result A ServeFault) (May : KeepFault → Type 0)
      (was is : Keeping) (io : Exchange) (old new : Holding) → IsDatabase old.database
      → IsLineOf old.database old.line
      → OnOk result (ServesAll (IsDoneBy workers Answers Gives) io old new)
      → IfErr result
      (λ fault. ServesFrontKept (IsDoneBy workers Answers Gives) fault May was is io old new)
      → PlaysInput io.input io.left old new
  plays_input (Ok done) May was is io old new is_db of served front = (
    served.bytes,
    [],
    served.lines,
    served.consumed,
    served.spelled,
    played (IsDoneBy workers Answers Gives) forget old.database old.line new.line served.lines
        served.text is_db of served.met,
  )
  plays_input (Err fault) May was is io old new is_db of served front =
      plays_front (IsDoneBy workers Answers Gives) forget fault io old new is_db of front.0

  pub plays_unread : (input written : Option (List ℕ)) (old : Holding) → IsDatabase old.database
      → IsLineOf old.database old.line → PlaysInput input input old old
  plays_unread input written old is_db of =
      plays_front (IsDoneBy workers Answers Gives) forget Workers (over input input written written)
      old old is_db of (serves_none (IsDoneBy workers Answers Gives) input written old)

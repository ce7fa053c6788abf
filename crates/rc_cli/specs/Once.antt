-- What one line comes to, as a command of its own, and where it has no answer.
use Rattle.std.specs.Prelude.{◌≡◌, ◌⊎◌, ℕ, List, [], Option, Result, MatchResult, take}
use Rattle.std.specs.Io.KnownBytes.{Appends}
use Rattle.clap.specs.Words.{Text as Path}
use Rattle.rc_model.specs.Database.{Database}
use Rattle.rc_model.specs.Line.{Line}
use Rattle.rc_model.specs.Session.{Redo, Undo}
use Rattle.rc_session.specs.Holding.{Holding}
use Rattle.rc_script.specs.Says.{Saying, SaysStep}
use Rattle.rc_serve.specs.declared.ending.Ending.{Ending}
use Rattle.rc_serve.specs.declared.ending.Ending.TheVariants.{Done}
use Rattle.rc_serve.specs.declared.fault.ServeFault.{ServeFault}
use Rattle.rc_serve.specs.Ending.{ArrivesSaying, Ends, EndsIn, EndsWay}
use Rattle.rc_serve.specs.Faults.{IsOfLine, StandsAt}
use Rattle.rc_serve.specs.Keeping.{Keeping}
use Rattle.rc_serve.specs.Meeting.{WantsWork}
use Rattle.rc_args.specs.OnceAsked.{OnceSaying, Said, WantsDown, WantsDryRedo, WantsDryRestart}
use Rattle.rc_args.specs.OnceAsked.{WantsDryUndo}
use Rattle.rc_cli.specs.Filing.{HoldsBy}
use Rattle.rc_cli.specs.Serving.{IsOfFile, KeepsAt}
use Rattle.rc_cli.specs.Showing.{EndsDown, EndsDryRestart}

-- the answer to what one line is to do, how that ends, and the line of states from then on
abbrev pub EndsOnce : EndsIn → Ending → Database → Line → OnceSaying → List ℕ → Line → Type 0
EndsOnce As ending d here (Said saying) text new = Ends As ending d here saying text new
EndsOnce As ending d here WantsDryUndo text new =
    EndsWay ending d here (Undo 0 []) text × (new ≡ here)
EndsOnce As ending d here WantsDryRedo text new =
    EndsWay ending d here (Redo 0 []) text × (new ≡ here)
EndsOnce As ending d here (WantsDryRestart names) text new =
    EndsDryRestart ending d here names text × (new ≡ here)
EndsOnce As ending d here WantsDown text new = EndsDown ending d here text × (new ≡ here)

-- where it moves services, what is live is the target of its plan
abbrev pub ArrivesOnce : Database → Line → OnceSaying → Line → Type 0
ArrivesOnce d here (Said saying) new = ArrivesSaying d here saying new
ArrivesOnce d here other new = Unit {0}

-- what is said is a command
abbrev pub IsCommand : Saying → Type 0
IsCommand (SaysStep command) = Unit {0}
IsCommand other = ⊥

-- what is kept where a file is named: of a command the line of states; where something is shown
-- the store is left alone, and where no file is named always
abbrev pub HoldsOnce : Option Path → (was is : Option (List ℕ)) → Database → OnceSaying → Line
    → Type 0
HoldsOnce path was is d (Said (SaysStep command)) line = HoldsBy path was is d line
HoldsOnce path was is d other line = is ≡ was

-- one line was served on a session: it ended so, what was written is its answer, what is live is
-- the target where all is done, and it is kept
pub record ServesOnce (path : Option Path) (was is : Option (List ℕ)) (As : EndsIn)
    (ending : Ending) (what : OnceSaying) (written gained : Option (List ℕ))
    (old new : Holding) : Type 0 where
  pub text : List ℕ
  pub ends : EndsOnce As ending old.database old.line what text new.line
  pub told : Appends written gained text
  pub arrives : ending ≡ Done → ArrivesOnce old.database old.line what new.line
  pub kept : HoldsOnce path was is old.database what new.line

-- what one line is to do has work for workers
abbrev pub WantsWorkOnce : Database → Line → OnceSaying → Type 0
WantsWorkOnce d here (Said saying) = WantsWork d here saying
WantsWorkOnce d here other = ⊥

-- a fault came where one line was served: with nothing written, and kept is where the line of
-- states stood; or the line was met, a prefix of its answer was written, and kept is what it
-- leaves, or else, with nothing written, where the line of states stood
abbrev pub StopsLine : ServeFault → Keeping → EndsIn → Database → (here : Line) → OnceSaying
    → (written gained : Option (List ℕ)) → Type 0
StopsLine fault kept As d here what written gained =
    ((gained ≡ written) × StandsAt fault ⊥ (WantsWorkOnce d here what) 0 [] × kept d here)
    ⊎ (IsOfLine fault × (ending : Ending) × (text : List ℕ) × (new : Line)
    × EndsOnce As ending d here what text new
    × (n : ℕ) × Appends written gained (take n text)
    × KeepsAt kept fault d here new n)

-- one line was served on a session up to a fault; or it was not begun, with nothing written, and
-- the store is as it was, or the line of states is kept
abbrev pub StopsServing : ServeFault → Option Path → (was is : Option (List ℕ)) → EndsIn
    → OnceSaying → (written gained : Option (List ℕ)) → Holding → Type 0
StopsServing fault path was is As what written gained old =
    (IsOfFile fault × (gained ≡ written)
    × ((is ≡ was) ⊎ HoldsOnce path was is old.database what old.line))
    ⊎ StopsLine fault (λ d line. HoldsOnce path was is d what line) As
    old.database old.line what written gained

-- one line was served on a session, to its end or up to a fault
abbrev pub ServedOnce : Result Ending ServeFault → Option Path → (was is : Option (List ℕ))
    → EndsIn → OnceSaying → (written gained : Option (List ℕ)) → (old new : Holding) → Type 0
ServedOnce result path was is As what written gained old new = MatchResult result
    (λ ending. ServesOnce path was is As ending what written gained old new)
    (λ fault. StopsServing fault path was is As what written gained old)

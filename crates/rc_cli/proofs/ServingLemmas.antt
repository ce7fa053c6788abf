-- How the lines of a session are served, and how that is kept.
use Rattle.std.proofs.Common.{◌≡◌, ◌≢◌, ◌∙◌, ℕ, Bool, List, Option, None, Some, option_map, Result}
use Rattle.std.proofs.Common.{Ok, Err, IfErr, OnOk, inl, inr, ap, refl, sym, subst}
use Rattle.clap.specs.Words.{Text as Path}
use Rattle.rc_graph.specs.declared.Way.{Way}
use Rattle.rc_model.specs.declared.Outcome.{Outcome}
use Rattle.rc_model.specs.Database.{Database}
use Rattle.rc_model.specs.Line.{Line}
use Rattle.rc_session.specs.Holding.{Holding}
use Rattle.rc_streams.specs.Exchange.{Exchange}
use Rattle.rc_serve.specs.declared.ending.Ending.{Ending}
use Rattle.rc_serve.specs.declared.fault.ServeFault.{ServeFault}
use Rattle.rc_serve.specs.declared.fault.ServeFault.TheVariants.{Read, Write, TooLong, Memory}
use Rattle.rc_serve.specs.declared.fault.ServeFault.TheVariants.{NoThread, Strange, Workers, Io}
use Rattle.rc_serve.specs.declared.keeper.KeepFault.{KeepFault}
use Rattle.rc_serve.specs.declared.keeper.KeepFault.TheVariants as keep
use Rattle.rc_serve.specs.Ending.{EndsIn}
use Rattle.rc_serve.specs.Keeping.{IsKeptAt, IsKeptUp, IsOfKeeping, Keeping, ServesFrontFailingKept}
use Rattle.rc_serve.specs.Keeping.{ServesFrontKept, of_keeping}
use Rattle.rc_serve.specs.Meeting.{Doing, IsDoneBy}
use Rattle.rc_serve.specs.Playing.{PlaysInput}
use Rattle.rc_serve.specs.Serving.{ServesAll}
use Rattle.rc_serve.specs.SessionText.{FailsExactly, IsDoneFailing, IsTimeless, ServesFailing}
use Rattle.rc_cli.specs.Filing.{HoldsBy}
use Rattle.rc_cli.specs.Services.{ComesFor, Lets, done_by}
use Rattle.rc_cli.specs.Serving.{IsOfFile, KeepsAt, as_done}
use Rattle.rc_cli.specs.Storing.{HoldsText}
use Rattle.rc_cli.specs.declared.sessions.service.Service.TheVariants.{Lines}

-- a store that holds a text is that of a file that is named, and one that was left alone of none
pub holds_named : (path : Option Path) (was is : Option (List ℕ)) → path ≢ None
    → (d : Database) (line : Line) → HoldsText is d line → HoldsBy path was is d line
holds_named None was is named d line held = absurd (named refl)
holds_named (Some path) was is named d line held = held

pub holds_none : (path : Option Path) (held : Option (List ℕ)) → path ≡ None
    → (d : Database) (line : Line) → HoldsBy path held held d line
holds_none None held none d line = refl
holds_none (Some path) held none d line = let bad : Some path ≡ None = none in cc

-- a file that is named is so as what is asked has it
pub named_some : {A B : Type 0} (f : A → B) (o : Option A) (x : A) → o ≡ Some x
    → option_map f o ≢ None
named_some f o x is none = let bad : Some (f x) ≡ None = sym (ap (option_map f) is) ∙ none in cc

-- what may come of keeping may come of a file
pub of_file : (fault : ServeFault) (May : KeepFault → Type 0) → IsOfKeeping May fault
    → IsOfFile fault
of_file Read May is = absurd is
of_file Write May is = absurd is
of_file TooLong May is = absurd is
of_file Memory May is = tt
of_file NoThread May is = absurd is
of_file Strange May is = absurd is
of_file Workers May is = absurd is
of_file Io May is = tt

pub keep_of_file : (fault : KeepFault) (told : ServeFault) → told ≡ of_keeping fault
    → IsOfFile told
keep_of_file keep.Io told is = subst IsOfFile (sym is) tt
keep_of_file keep.Memory told is = subst IsOfFile (sym is) tt

-- what is kept up where the first line was kept is kept
pub kept_up : (was is : Keeping) (d : Database) (first line : Line) → was d first
    → IsKeptUp was is d first line → is d line
kept_up was is d first line begun (inl now) = now
kept_up was is d first line begun (inr still) =
    subst (is d) (sym still.1) ((still.0 d first).0 begun)

kept_at : (fault : ServeFault) (May : KeepFault → Type 0) (was is kept : Keeping) (d : Database)
    (first here line : Line) (written : ℕ) → was d first
    → ((d : Database) (line : Line) → is d line → kept d line)
    → IsKeptAt fault May was is d first here line written → KeepsAt kept fault d here line written
kept_at fault May was is kept d first here line written begun wider (inl up) =
    inl (wider d line (kept_up was is d first line begun up))
kept_at fault May was is kept d first here line written begun wider (inr fails) = inr (
  of_file fault May fails.0,
  fails.1,
  wider d here (kept_up was is d first here begun fails.2),
)

-- where lines are launched, what was served of them by events, or as certain transitions fail, is
-- what is served
module _ {A : Type 0} (workers : ℕ) (Answers : ℕ → Way → Outcome → Type 0) (Gives : ℕ → Type 0)
    (As : EndsIn) (io : Exchange) (old new : Holding) (May : KeepFault → Type 0)
    (was next : Keeping) (path : Option Path) (held is : Option (List ℕ))
    (begun : was old.database old.line)
    (wider : (d : Database) (line : Line) → next d line → HoldsBy path held is d line)
    (play : PlaysInput io.input io.left old new) where
  by_result : (result : Result A ServeFault) (Does : Doing)
      → OnOk result (ServesAll Does io old new)
      → IfErr result (λ fault. ServesFrontKept Does fault May was next io old new)
      → OnOk result (IsKeptUp was next old.database old.line new.line)
      → ComesFor Lines (as_done result) path held is Does As io old new
  by_result (Ok a) Does all front up = (
    refl,
    (
      all,
      play,
      wider old.database new.line (kept_up was next old.database old.line new.line begun up),
    ),
  )
  by_result (Err fault) Does all front up = inr (
    front.0,
    play,
    kept_at fault May was next (HoldsBy path held is) old.database old.line front.0.here new.line
        front.0.told.0 begun wider front.1,
  )

  pub lines_come : (result : Result A ServeFault) (ended : Result Ending ServeFault)
      (fails : Option (ℕ → Way → Bool)) → ended ≡ as_done result
      → OnOk result (ServesAll (IsDoneBy workers Answers Gives) io old new)
      → ((f : ℕ → Way → Bool) → FailsExactly Answers f → IsTimeless Gives io.input
      → OnOk result (ServesFailing f io old new))
      → IfErr result (λ fault.
      ServesFrontKept (IsDoneBy workers Answers Gives) fault May was next io old new)
      → ((f : ℕ → Way → Bool) → FailsExactly Answers f → IsTimeless Gives io.input
      → IfErr result (λ fault. ServesFrontFailingKept fault May was next f io old new))
      → OnOk result (IsKeptUp was next old.database old.line new.line)
      → Lets Answers Gives io.input fails
      → ComesFor Lines ended path held is (done_by workers Answers Gives fails) As io old new
  lines_come result ended fails told all text begun front up lets =
      subst (λ (r : Result Ending ServeFault). ComesFor Lines r path held is
      (done_by workers Answers Gives fails) As io old new) (sym told) (by fails lets)
    where
      by : (fails : Option (ℕ → Way → Bool)) → Lets Answers Gives io.input fails
          → ComesFor Lines (as_done result) path held is (done_by workers Answers Gives fails) As io
          old new
      by None lets = by_result result (IsDoneBy workers Answers Gives) all begun up
      by (Some f) lets =
          by_result result (IsDoneFailing f) (text f lets.0 lets.1) (front f lets.0 lets.1) up

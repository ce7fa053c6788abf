-- A fault where one line is served.
use Rattle.std.proofs.Common.{◌≡◌, inl, inr, ℕ, List, Option, Result, Ok, Err, IfErr, refl, sym}
use Rattle.std.proofs.Common.{subst}
use Rattle.std.proofs.KnownBytes.{Appends-nil}
use Rattle.rc_session.specs.Holding.{Holding}
use Rattle.rc_streams.specs.Input.{AppendsFront}
use Rattle.rc_streams.specs.declared.input.Failure.{Failure}
use Rattle.rc_streams.specs.declared.input.Failure.TheVariants as failures
use Rattle.rc_script.specs.Says.{Saying}
use Rattle.rc_serve.specs.declared.fault.ServeFault.{ServeFault}
use Rattle.rc_serve.specs.declared.fault.ServeFault.TheVariants.{Read, Write, TooLong, Memory}
use Rattle.rc_serve.specs.declared.fault.ServeFault.TheVariants.{NoThread, Strange, Workers, Io}
use Rattle.rc_serve.specs.declared.keeper.KeepFault.{KeepFault}
use Rattle.rc_serve.specs.Faults.{EndsSession, IsOfAnswer, IsOfLine, of_failure}
use Rattle.rc_serve.specs.Meeting.{Doing, MayMeetSaying, Meets, WantsWork}
use Rattle.rc_serve.specs.Keeping.{Keeping, IsKeptUp}
use Rattle.rc_serve.specs.Ending.{StopsOnce}
use Rattle.rc_serve.proofs.Keeping.{EndsLine, IsKeptOrFails}
use Rattle.rc_serve.proofs.Lines.{still_kept, unwritten_kept}

module _ (By : Doing) (May : KeepFault → Type 0) (was is : Keeping) (saying : Saying)
    (written : Option (List ℕ)) (old new : Holding) where
  -- no answer came of what is said
  ends_once : (fault : ServeFault) → MayMeetSaying By old.database old.line saying new.line
      → IsKeptOrFails fault May was is old.database old.line new.line
      → EndsSession (WantsWork old.database old.line saying) old new fault
      → StopsOnce By fault May was is saying written written old new
  ends_once Read may keeps end = absurd end
  ends_once Write may keeps end = absurd end
  ends_once TooLong may keeps end = absurd end
  ends_once Memory (inl same) keeps end =
      inl (same, refl, tt, still_kept Memory May was is old.database old.line new.line same keeps)
  ends_once Memory (inr met) keeps end =
      inr (
        tt,
        met.0,
        met.1,
        0,
        Appends-nil written,
        unwritten_kept Memory May was is old.database old.line new.line keeps,
      )
  ends_once NoThread may keeps end =
      inl (
        end.1,
        refl,
        end.0,
        still_kept NoThread May was is old.database old.line new.line end.1 keeps,
      )
  ends_once Strange may keeps end =
      inl (
        end.1,
        refl,
        end.0,
        still_kept Strange May was is old.database old.line new.line end.1 keeps,
      )
  ends_once Workers may keeps end = absurd end
  ends_once Io may keeps end = absurd end

  io_once : MayMeetSaying By old.database old.line saying new.line
      → IsKeptOrFails Io May was is old.database old.line new.line
      → StopsOnce By Io May was is saying written written old new
  io_once (inl same) keeps =
      inl (same, refl, tt, still_kept Io May was is old.database old.line new.line same keeps)
  io_once (inr met) keeps =
      inr (
        tt,
        met.0,
        met.1,
        0,
        Appends-nil written,
        unwritten_kept Io May was is old.database old.line new.line keeps,
      )

  pub once_short : (keeper : Type 0) (fault : ServeFault)
      → MayMeetSaying By old.database old.line saying new.line
      → IsKeptOrFails fault May was is old.database old.line new.line
      → EndsLine keeper (WantsWork old.database old.line saying) old new fault
      → StopsOnce By fault May was is saying written written old new
  once_short keeper fault may keeps (inl io) =
      subst (λ (f : ServeFault). StopsOnce By f May was is saying written written old new)
      (sym io.0)
      (io_once may
      (subst (λ (f : ServeFault). IsKeptOrFails f May was is old.database old.line new.line) io.0
      keeps))
  once_short keeper fault may keeps (inr end) = ends_once fault may keeps end

  -- the answer could not be written
  pub once_writing : (failure : Failure) (gained : Option (List ℕ)) (text : List ℕ)
      → IsOfLine (of_failure failure) → Meets By old.database old.line saying text new.line
      → AppendsFront written gained text → IsKeptUp was is old.database old.line new.line
      → StopsOnce By (of_failure failure) May was is saying written gained old new
  once_writing failure gained text of met told kept = inr (of, text, met, told.0, told.1, inl kept)

-- a fault is no ending, and a failed write is a fault of the answer
pub never_ended : {A : Type 0} (a : A) (fault : ServeFault)
    → ◌≡◌ {A = Result A ServeFault} (Err fault) (Ok a) → ⊥
never_ended {A} a fault is =
    let bad : ◌≡◌ {A = Result A ServeFault} (Err fault) (Ok a) = is in cc

pub answer_fault : {A : Type 0} (failure : Failure)
    → ◌≡◌ {A = Result A Failure} (Err failure) (Err failures.Write)
    → IsOfAnswer (of_failure failure)
answer_fault {A} failure is =
    subst (λ (r : Result A Failure). IfErr r (λ f. IsOfAnswer (of_failure f))) (sym is) tt

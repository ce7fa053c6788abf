-- How one line is served.
use Rattle.std.proofs.Common.{◌≡◌, ◌≢◌, ◌∙◌, ◌⊎◌, ℕ, true, false, List, [], Option, None, Some}
use Rattle.std.proofs.Common.{Result, Ok, Err, IfErr, IfOk, OnOk, inl, inr, ap, refl, sym, subst}
use Rattle.std.specs.Io.KnownBytes.{Appends}
use Rattle.clap.specs.Words.{Text as Path}
use Rattle.rc_graph.specs.declared.Way.{Way}
use Rattle.rc_model.specs.Database.{Database}
use Rattle.rc_model.specs.Line.{Line}
use Rattle.rc_model.specs.declared.Outcome.{Outcome}
use Rattle.rc_session.specs.Holding.{Holding}
use Rattle.rc_script.specs.Says.{Saying, SaysNothing, SaysWrong, SaysStep, SaysDry, SaysLive}
use Rattle.rc_script.specs.Says.{SaysBundles, SaysJournal}
use Rattle.rc_serve.specs.declared.ending.Ending.{Ending}
use Rattle.rc_serve.specs.declared.ending.Ending.TheVariants.{Done, Refused}
use Rattle.rc_serve.specs.declared.fault.ServeFault.{ServeFault}
use Rattle.rc_serve.specs.declared.fault.ServeFault.TheVariants.{Read, Write, TooLong, Memory}
use Rattle.rc_serve.specs.declared.fault.ServeFault.TheVariants.{NoThread, Strange, Workers, Io}
use Rattle.rc_serve.specs.declared.keeper.KeepFault.{KeepFault}
use Rattle.rc_serve.specs.Ending.{ArrivesSaying, Ends, EndsIn, IsDoneAs, StopsOnce, ending_of}
use Rattle.rc_serve.specs.Faults.{IsOfLine, IsServeFault, StandsAt}
use Rattle.rc_serve.specs.Meeting.{IsDoneBy, Meets, WantsWork}
use Rattle.rc_serve.specs.Keeping.{IsKeptUp, Keeping}
use Rattle.rc_args.specs.OnceAsked.{OnceSaying, Said}
use Rattle.rc_cli.specs.Once.{ArrivesOnce, EndsOnce, HoldsOnce, IsCommand, ServedOnce}
use Rattle.rc_cli.specs.Once.{StopsLine, WantsWorkOnce}
use Rattle.rc_cli.specs.Showing.{FailsToShow}
use Rattle.rc_cli.specs.Storing.{HoldsText}
use Rattle.rc_cli.proofs.SessionLemmas.{fault_wider}
use Rattle.rc_cli.proofs.ServingLemmas.{kept_up, of_file}

-- a store that is left alone holds what one line that is not kept asks of it
pub holds_alone : (path : Option Path) (held : Option (List ℕ)) (d : Database) (saying : Saying)
    (line : Line) → (path ≡ None) ⊎ (IsCommand saying → ⊥)
    → HoldsOnce path held held d (Said saying) line
holds_alone path held d SaysNothing line alone = refl
holds_alone path held d SaysWrong line alone = refl
holds_alone None held d (SaysStep command) line alone = refl
holds_alone (Some p) held d (SaysStep command) line (inl none) = let bad : Some p ≡ None =
    none in cc
holds_alone (Some p) held d (SaysStep command) line (inr never) = absurd (never tt)
holds_alone path held d (SaysDry ask) line alone = refl
holds_alone path held d SaysLive line alone = refl
holds_alone path held d SaysBundles line alone = refl
holds_alone path held d SaysJournal line alone = refl

-- and a store that holds a text what a command asks
pub holds_text : (path : Option Path) (was is : Option (List ℕ)) (d : Database) (saying : Saying)
    (line : Line) → path ≢ None → IsCommand saying → HoldsText is d line
    → HoldsOnce path was is d (Said saying) line
holds_text None was is d saying line named command held = absurd (named refl)
holds_text (Some p) was is d SaysNothing line named command held = absurd command
holds_text (Some p) was is d SaysWrong line named command held = absurd command
holds_text (Some p) was is d (SaysStep command) line named is_command held = held
holds_text (Some p) was is d (SaysDry ask) line named command held = absurd command
holds_text (Some p) was is d SaysLive line named command held = absurd command
holds_text (Some p) was is d SaysBundles line named command held = absurd command
holds_text (Some p) was is d SaysJournal line named command held = absurd command

-- a line that is met ends in one of its ways
met_ends : (workers : ℕ) (Answers : ℕ → Way → Outcome → Type 0) (Gives : ℕ → Type 0) (d : Database)
    (here : Line) (saying : Saying) (text : List ℕ) (new : Line)
    → Meets (IsDoneBy workers Answers Gives) d here saying text new → (ending : Ending)
    × Ends (IsDoneAs workers Answers Gives) ending d here saying text new
met_ends workers Answers Gives d here SaysNothing text new met = (Done, (refl, met))
met_ends workers Answers Gives d here SaysWrong text new met = (Refused, (refl, met))
met_ends workers Answers Gives d here (SaysStep command) text new
    (inl (events, told, made, does, is)) =
    (ending_of told, inl (events, told, made, does, is, refl))
met_ends workers Answers Gives d here (SaysStep command) text new (inr refused) =
    (Refused, inr (refl, refused))
met_ends workers Answers Gives d here (SaysDry ask) text new (inl planned, same) =
    (Done, (inl (refl, planned), same))
met_ends workers Answers Gives d here (SaysDry ask) text new (inr refused, same) =
    (Refused, (inr (refl, refused), same))
met_ends workers Answers Gives d here SaysLive text new met = (Done, (refl, met))
met_ends workers Answers Gives d here SaysBundles text new met = (Done, (refl, met))
met_ends workers Answers Gives d here SaysJournal text new met = (Done, (refl, met))

-- where a session is not poisoned, a strange fault comes of work alone
stands_whole : (fault : ServeFault) (spoiled work : Type 0) → (spoiled → ⊥)
    → StandsAt fault spoiled work 0 [] → StandsAt fault ⊥ work 0 []
stands_whole Read spoiled work never stands = stands
stands_whole Write spoiled work never stands = tt
stands_whole TooLong spoiled work never stands = stands
stands_whole Memory spoiled work never stands = tt
stands_whole NoThread spoiled work never stands = stands
stands_whole Strange spoiled work never (inl bad) = absurd (never bad)
stands_whole Strange spoiled work never (inr works) = inr works
stands_whole Workers spoiled work never stands = tt
stands_whole Io spoiled work never stands = tt

-- a fault where one line was served
module _ (workers : ℕ) (Answers : ℕ → Way → Outcome → Type 0) (Gives : ℕ → Type 0)
    (May : KeepFault → Type 0) (was next : Keeping) (path : Option Path)
    (held is : Option (List ℕ)) (saying : Saying) (written gained : Option (List ℕ))
    (old new : Holding) where
  stops_line : (fault : ServeFault) → old.spoiled ≡ false → was old.database old.line
      → ((line : Line) → next old.database line
      → HoldsOnce path held is old.database (Said saying) line)
      → StopsOnce (IsDoneBy workers Answers Gives) fault May was next saying written gained old new
      → StopsLine fault (λ d line. HoldsOnce path held is d (Said saying) line)
      (IsDoneAs workers Answers Gives) old.database old.line (Said saying) written gained
  stops_line fault whole begun holds (inl (same, none, stands, up)) = inl (
    none,
    stands_whole fault (old.spoiled ≡ true) (WantsWork old.database old.line saying)
        (λ spoiled. let bad : true ≡ false = sym spoiled ∙ whole in cc) stands,
    holds old.line (subst (next old.database) same
        (kept_up was next old.database old.line new.line begun up)),
  )
  stops_line fault whole begun holds (inr (of, text, met, n, told, at)) =
      let ends = met_ends workers Answers Gives old.database old.line saying text new.line met in
      inr (
        of,
        ends.0,
        text,
        new.line,
        ends.1,
        n,
        told,
        elim at [
          | inl up ↦ inl (holds new.line
              (kept_up was next old.database old.line new.line begun up))
          | inr fails ↦ inr (
            of_file fault May fails.0,
            fails.1,
            holds old.line ((fails.2 old.database old.line).0 begun),
          )
        ],
      )

  -- one line that was answered, or at which a fault came, was served
  pub served_line : (result : Result Ending ServeFault) → old.spoiled ≡ false
      → was old.database old.line
      → ((line : Line) → next old.database line
      → HoldsOnce path held is old.database (Said saying) line)
      → IfOk result (λ ending. (text : List ℕ) × Ends (IsDoneAs workers Answers Gives) ending
      old.database old.line saying text new.line × Appends written gained text)
      → (result ≡ Ok Done → ArrivesSaying old.database old.line saying new.line)
      → OnOk result (IsKeptUp was next old.database old.line new.line)
      → IfErr result (λ fault.
      StopsOnce (IsDoneBy workers Answers Gives) fault May was next saying written gained old new)
      → ServedOnce result path held is (IsDoneAs workers Answers Gives) (Said saying) written gained
      old new
  served_line (Ok ending) whole begun holds ended arrives up stops = record {
    text = ended.0;
    ends = ended.1;
    told = ended.2;
    arrives = λ all. arrives (ap Ok all);
    kept = holds new.line (kept_up was next old.database old.line new.line begun up);
  }
  served_line (Err fault) whole begun holds ended arrives up stops =
      inr (stops_line fault whole begun holds stops)

-- what is shown and no session line shows, or could not be
module _ (what : OnceSaying) (Shows : Ending → List ℕ → Type 0) (path : Option Path)
    (held : Option (List ℕ)) (As : EndsIn) (written gained : Option (List ℕ)) (h : Holding)
    (ends : (ending : Ending) (text : List ℕ) → Shows ending text
    → EndsOnce As ending h.database h.line what text h.line)
    (arrives : ArrivesOnce h.database h.line what h.line)
    (kept : HoldsOnce path held held h.database what h.line) where
  stops_shown : (fault : ServeFault) → FailsToShow fault Shows written gained
      → StopsLine fault (λ d line. HoldsOnce path held held d what line) As h.database h.line what
      written gained
  stops_shown fault (inl (is, none)) = inl (
    none,
    subst (λ (f : ServeFault). StandsAt f ⊥ (WantsWorkOnce h.database h.line what) 0 [])
        (sym is) tt,
    kept,
  )
  stops_shown fault (inr (is, ending, text, way, front)) = inr (
    subst IsOfLine (sym is) tt,
    ending,
    text,
    h.line,
    ends ending text way,
    front.0,
    front.1,
    inl kept,
  )

  pub shown_so : (result : Result Ending ServeFault)
      → IfOk result (λ ending. (text : List ℕ) × Shows ending text × Appends written gained text)
      → IfErr result (λ fault. FailsToShow fault Shows written gained)
      → ServedOnce result path held held As what written gained h h
  shown_so (Ok ending) (text, way, told) fails = record {
    text = text;
    ends = ends ending text way;
    told = told;
    arrives = λ _. arrives;
    kept = kept;
  }
  shown_so (Err fault) shown fails = inr (stops_shown fault fails)

-- a fault stays one where more counts as a failure
pub fault_with : {A : Type 0} (result : Result A ServeFault)
    (reader writer keeper more kept : Type 0) → (reader → more) → (keeper → kept)
    → IfErr result (IsServeFault reader writer keeper)
    → IfErr result (IsServeFault more writer kept)
fault_with (Ok a) reader writer keeper more kept f h fails = tt
fault_with (Err fault) reader writer keeper more kept f h fails =
    fault_wider fault reader writer keeper more writer kept f (λ w. w) h fails

-- One turn of a session: the next line, and what came of it.
use Rattle.std.proofs.Common.{◌≡◌, ◌∙◌, ◌+◌, ◌-◌, ◌<◌, ◌≤◌, inl, inr, ℕ, Bool, true, List, [], ◌++◌}
use Rattle.std.proofs.Common.{Option, Result, Ok, Err, IfErr, IsTrue, false, length, refl, sym}
use Rattle.std.proofs.Common.{subst, ap, arith}
use Rattle.std.proofs.Common.{length-append}
use Rattle.std.specs.Io.KnownBytes.{Appends}
use Rattle.rc_graph.specs.declared.Way.{Way}
use Rattle.rc_model.specs.declared.Outcome.{Outcome}
use Rattle.rc_session.specs.Holding.{Holding}
use Rattle.rc_streams.specs.Exchange.{Exchange}
use Rattle.rc_streams.specs.Taking.{Held, BeginsTooLong, HandsLine, LacksLine}
use Rattle.rc_streams.specs.declared.input.Failure.{Failure}
use Rattle.rc_streams.specs.declared.input.Failure.TheVariants as failures
use Rattle.rc_script.specs.Says.{Saying}
use Rattle.rc_serve.specs.declared.ending.Ending.{Ending}
use Rattle.rc_serve.specs.declared.fault.ServeFault.{ServeFault}
use Rattle.rc_serve.specs.declared.fault.ServeFault.TheVariants.{Read, Write, TooLong, Memory}
use Rattle.rc_serve.specs.declared.fault.ServeFault.TheVariants.{NoThread, Strange, Workers, Io}
use Rattle.rc_serve.specs.declared.keeper.KeepFault.{KeepFault}
use Rattle.rc_serve.specs.Ending.{Ends, IsDoneAs, StopsOnce}
use Rattle.rc_serve.specs.Faults.{IsServeFault, Spoils, StandsAt, of_failure}
use Rattle.rc_serve.specs.Keeping.{Keeping}
use Rattle.rc_serve.specs.Meeting.{Doing, IsDoneBy, WantsWork}
use Rattle.rc_serve.specs.Serving.{HandsSaying, NextWantsWork, StandsUnread}
use Rattle.rc_serve.proofs.Keeping.{kept_none}
use Rattle.rc_serve.proofs.Lines.{ServesNext, StopsAt, left_less, next_line, over, serves_next}
use Rattle.rc_serve.proofs.Lines.{stands_as}
use Rattle.rc_serve.proofs.Steps.{ends_by}

-- no line was handed out, as none was read
pub unread_by : (failed : Type 0) (failure : Failure) (input left : Option (List ℕ))
    (held after : Held) → LacksLine failed input left held after failure
    → StandsUnread (of_failure failure) input left held after
unread_by failed failures.Read input left held after lacks =
    (lacks.takes, (lacks.fault.1, lacks.fault.2))
unread_by failed failures.Write input left held after lacks = absurd lacks.fault
unread_by failed failures.TooLong input left held after lacks = (lacks.takes, lacks.fault)
unread_by failed failures.Memory input left held after lacks = (lacks.takes, tt)

-- and so the session ends
pub unread_stops : (Done : Doing) (fault : ServeFault) (May : KeepFault → Type 0) (k : Keeping)
    (input left : Option (List ℕ)) (held after : Held) (written : Option (List ℕ)) (old : Holding)
    → StandsUnread fault input left held after
    → StopsAt Done fault May k k (over input left written written) held after old old
unread_stops Done fault May k input left held after written old (takes, stands) = inl (
  takes,
  refl,
  refl,
  stands_as fault ⊥ (old.spoiled ≡ true) ⊥
      (NextWantsWork old.database old.line (held.pending ++ takes.bytes)) after.taken after.taken
      (held.pending ++ takes.bytes) (λ none. absurd none) (λ none. absurd none) refl stands,
  kept_none k old.database old.line,
)

-- such a fault poisons no session
pub unread_spoils : (fault : ServeFault) (taken : ℕ) (rest : List ℕ) (h : Holding)
    → StandsAt fault ⊥ ⊥ taken rest → Spoils fault h h
unread_spoils Read taken rest h stands = refl
unread_spoils Write taken rest h stands = refl
unread_spoils TooLong taken rest h stands = refl
unread_spoils Memory taken rest h stands = refl
unread_spoils NoThread taken rest h stands = refl
unread_spoils Strange taken rest h stands =
    elim stands [ inl none ↦ absurd none | inr none ↦ absurd none ]
unread_spoils Workers taken rest h stands = refl
unread_spoils Io taken rest h stands = refl

-- no line that is too long stands at the beginning of nothing
none_too_long : BeginsTooLong [] → ⊥
none_too_long (front, rest, one, long, is) =
    omega (arith, long, ap length is, length-append front rest)

-- where one line was served, a fault stands for the same reason, whatever was read
stands_on : (fault : ServeFault) (P W X writer keeper : Type 0) (taken : ℕ) (rest : List ℕ)
    → IsServeFault ⊥ writer keeper fault → (W → X) → StandsAt fault P W 0 []
    → StandsAt fault P X taken rest
stands_on Read P W X writer keeper taken rest device work stands = absurd device
stands_on Write P W X writer keeper taken rest device work stands = tt
stands_on TooLong P W X writer keeper taken rest device work stands = elim stands [
  | inl within ↦ (let above : 16777216 < 0 = within.1 in absurd (omega (arith, above)))
  | inr long ↦ absurd (none_too_long long)
]
stands_on Memory P W X writer keeper taken rest device work stands = tt
stands_on NoThread P W X writer keeper taken rest device work stands = work stands
stands_on Strange P W X writer keeper taken rest device work stands =
    elim stands [ inl was ↦ inl was | inr wants ↦ inr (work wants) ]
stands_on Workers P W X writer keeper taken rest device work stands = absurd device
stands_on Io P W X writer keeper taken rest device work stands = tt

-- a line was handed out, and a fault came of it
pub said_stops : (Done : Doing) (fault : ServeFault) (May : KeepFault → Type 0) (was is : Keeping)
    (writer keeper : Type 0) (ends : Bool) (io : Exchange) (held after : Held) (saying : Saying)
    (old new : Holding) → HandsSaying ends io.input io.left held after saying
    → IsServeFault ⊥ writer keeper fault
    → StopsOnce Done fault May was is saying io.written io.gained old new
    → StopsAt Done fault May was is io held after old new
said_stops Done fault May was is writer keeper ends io held after saying old new
    (bytes, handed, says) device (inl (same, kept, stands, keeps)) =
    let (takes, rest, spelled) = next_line ends io.input io.left held after bytes handed in
    inl (
      takes,
      same,
      kept,
      stands_on fault (old.spoiled ≡ true) (WantsWork old.database old.line saying)
          (NextWantsWork old.database old.line (held.pending ++ takes.bytes)) writer keeper
          after.taken (held.pending ++ takes.bytes) device
          (λ work. (bytes, rest, spelled, (saying, says, work))) stands,
      keeps,
    )
said_stops Done fault May was is writer keeper ends io held after saying old new
    (bytes, handed, says) device (inr (of, text, met, n, told, keeps)) =
    inr (of, ends, bytes, text, handed, (saying, says, met), n, told, keeps)

-- it was met, and its answer written
pub said_served : (workers : ℕ) (Answers : ℕ → Way → Outcome → Type 0) (Gives : ℕ → Type 0)
    (ending : Ending) (ends test : Bool) (io : Exchange) (held after : Held) (saying : Saying)
    (old new : Holding) → ends ≡ test → HandsSaying ends io.input io.left held after saying
    → ((text : List ℕ) × Ends (IsDoneAs workers Answers Gives) ending old.database old.line saying
    text new.line × Appends io.written io.gained text)
    → ServesNext (IsDoneBy workers Answers Gives) test io held after old new
said_served workers Answers Gives ending ends test io held after saying old new is
    (bytes, handed, says) (text, met, told) =
    subst (λ (b : Bool). ServesNext (IsDoneBy workers Answers Gives) b io held after old new) is
    (serves_next (IsDoneBy workers Answers Gives) ends io held after old new bytes text handed (
      saying,
      says,
      ends_by workers Answers Gives ending old.database old.line saying text new.line met,
    ) told)

-- of what is held and what is not read yet, a line with a newline takes some
pub said_less : (ends : Bool) (input left : Option (List ℕ)) (held after : Held) (saying : Saying)
    → HandsSaying ends input left held after saying → ends ≡ true → after.taken ≤ 16777217
    → length after.pending + (16777217 - after.taken) < length held.pending
    + (16777217 - held.taken)
said_less ends input left held after saying (bytes, handed, says) is within =
    left_less input left held after bytes
    (subst (λ (b : Bool). HandsLine b input left held after bytes) is handed) within

-- a fault that some devices give is one that others give, where these have failed as well
pub device_as : {reader writer keeper first second third : Type 0} (fault : ServeFault)
    → (reader → first) → (writer → second) → (keeper → third)
    → IsServeFault reader writer keeper fault → IsServeFault first second third fault
device_as Read read write keep device = read device
device_as Write read write keep device = write device
device_as TooLong read write keep device = tt
device_as Memory read write keep device = tt
device_as NoThread read write keep device = tt
device_as Strange read write keep device = tt
device_as Workers read write keep device = absurd device
device_as Io read write keep device = keep device

-- a failure of a reader is one of its faults
pub of_failed : (failed : Type 0) (failure : Failure) (input left : Option (List ℕ))
    (held after : Held) → LacksLine failed input left held after failure
    → IsServeFault failed ⊥ ⊥ (of_failure failure)
of_failed failed failures.Read input left held after lacks = lacks.fault.0
of_failed failed failures.Write input left held after lacks = absurd lacks.fault
of_failed failed failures.TooLong input left held after lacks = tt
of_failed failed failures.Memory input left held after lacks = tt

-- what holds of the fault that a result has holds of each fault that it is
pub fault_is : {A : Type 0} (P : ServeFault → Type 0) (result : Result A ServeFault)
    (fault : ServeFault) → IfErr result P → result ≡ Err fault → P fault
fault_is {A} P result fault holds is =
    subst (λ (r : Result A ServeFault). IfErr r P) is holds

-- a wrong number of workers is no other fault
pub workers_alone : {A : Type 0} (fault : ServeFault)
    → IsServeFault (Unit {0}) (Unit {0}) (Unit {0}) fault
    → ◌≡◌ {A = Result A ServeFault} (Err Workers) (Err fault) → ⊥
workers_alone {A} fault may is = subst
    (λ (r : Result A ServeFault). IfErr r (IsServeFault (Unit {0}) (Unit {0}) (Unit {0}))) (sym is)
    may

-- a read that failed is the fault that it was found by
pub told_on : {A B : Type 0} (result : Result A ServeFault) (fault : ServeFault)
    → result ≡ Err fault → result ≡ Err Read
    → ◌≡◌ {A = Result B ServeFault} (Err fault) (Err Read)
told_on {A} {B} result fault is told = subst
    (λ (r : Result A ServeFault). IfErr r
    (λ f. ◌≡◌ {A = Result B ServeFault} (Err f) (Err Read))) (sym told ∙ is) refl

-- what was done is no fault
pub no_fault : {A : Type 0} (a : A) (fault : ServeFault)
    → ◌≡◌ {A = Result A ServeFault} (Ok a) (Err fault) → ⊥
no_fault {A} a fault is = let bad : ◌≡◌ {A = Result A ServeFault} (Ok a) (Err fault) = is in cc

-- a test that failed does not hold
pub not_so : (test : Bool) → test ≡ false → IsTrue test → ⊥
not_so test other holds = let bad : true ≡ false = sym holds ∙ other in cc

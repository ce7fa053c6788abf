-- How a session that is launched ends.
use Rattle.std.proofs.Common.{◌≡◌, ◌≢◌, ◌⊎◌, ℕ, Bool, List, [], Option, None, Some, Result, Ok, Err}
use Rattle.std.proofs.Common.{IfErr, inl, inr, refl, sym, subst}
use Rattle.rc_graph.specs.declared.Way.{Way}
use Rattle.rc_model.specs.Database.{Database}
use Rattle.rc_model.specs.Line.{Line}
use Rattle.rc_session.specs.Holding.{Holding}
use Rattle.rc_runner.specs.Failing.{fails_in, outcome_in}
use Rattle.rc_runner.specs.Gates.{gate_answers, gate_gives}
use Rattle.rc_runner.specs.Moments.{IsMomentOf}
use Rattle.rc_runner.specs.Shell.{MayAnswer, Scripts}
use Rattle.rc_runner.specs.declared.session_gate.SessionGate.{SessionGate}
use Rattle.rc_runner.specs.declared.session_gate.SessionGate.TheVariants as made
use Rattle.rc_streams.specs.Exchange.{Exchange}
use Rattle.rc_streams.specs.Input.{AppendsFront, ConsumesAtMost, IsCause, fault_line}
use Rattle.rc_streams.specs.declared.input.Failure.{Failure}
use Rattle.rc_streams.specs.declared.input.Failure.TheVariants as failure
use Rattle.rc_serve.specs.declared.ending.Ending.{Ending}
use Rattle.rc_serve.specs.declared.fault.ServeFault.{ServeFault}
use Rattle.rc_serve.specs.declared.fault.ServeFault.TheVariants.{Read, Write, TooLong, Memory}
use Rattle.rc_serve.specs.declared.fault.ServeFault.TheVariants.{NoThread, Strange, Workers, Io}
use Rattle.rc_serve.specs.Ending.{EndsIn, IsDoneAs}
use Rattle.rc_serve.specs.Faults.{IsServeFault}
use Rattle.rc_serve.specs.Meeting.{Doing, IsDoneBy}
use Rattle.rc_serve.specs.SessionText.{IsDoneFailing}
use Rattle.rc_args.specs.Programs.{ByPrograms, ByTable, MakingAsk, listed_in}
use Rattle.rc_args.specs.SessionAsked.{SessionAsk}
use Rattle.rc_dbtext.specs.Base.{Spells}
use Rattle.rc_dbtext.specs.Opening.{Reads}
use Rattle.rc_cli.specs.Filing.{BeginsWith, CannotKeep, FailsToBegin, file_named}
use Rattle.rc_cli.specs.Gating.{IsGateFor, IsGateless}
use Rattle.rc_cli.specs.Services.{ComesFor, IsDoneFor, Lets, RunsGated, Served}
use Rattle.rc_cli.specs.Services.{done_by}
use Rattle.rc_cli.specs.Serving.{IsOfFile, session_on}
use Rattle.rc_cli.specs.Session.{Asked, Dealing, Opens, RunsOn, filing_by}
use Rattle.rc_cli.specs.SessionFaults.{AreAllFound, ComesBy, IsControlled, IsEndTold, IsUnbegun}
use Rattle.rc_cli.specs.SessionFaults.{IsTold, IsUnready, IsUnserved, IsUnspelled, RunsControlled}
use Rattle.rc_cli.specs.SessionFaults.{reading_fault, serve_word, session_end}
use Rattle.rc_cli.specs.declared.sessions.keeping.LiveFile.{LiveFile}
use Rattle.rc_cli.specs.declared.sessions.service.Service.{Service}
use Rattle.rc_cli.specs.declared.sessions.session_fault.SessionFault.{SessionFault}
use Rattle.rc_cli.specs.declared.sessions.session_fault.SessionFault.TheVariants.{OfText, Unknown}
use Rattle.rc_cli.specs.declared.sessions.session_fault.SessionFault.TheVariants.{OfLive, Failed}
use Rattle.rc_cli.specs.declared.sessions.session_fault.SessionFault.TheVariants.{NoController}
use Rattle.rc_cli.proofs.SessionLemmas.{begin_fault, clock_timeless, table_exact}

-- a failed read is told as that
pub told_read : (served : Result Ending ServeFault) (status : ℕ) (before after : Option (List ℕ))
    → served ≡ Err Read → IsEndTold (session_end served) status before after
    → (status ≡ 111) × AppendsFront before after (fault_line (serve_word Read))
told_read served status before after is told =
    by (subst (λ (r : Result Ending ServeFault). IsEndTold (session_end r) status before after) is
    told)
  where
    by : IsTold (Failed Read) status before after
        → (status ≡ 111) × AppendsFront before after (fault_line (serve_word Read))
    by (inl refused) = absurd refused.1
    by (inr failed) = (
      failed.0,
      subst (λ (f : ServeFault).
          AppendsFront before after (fault_line (serve_word f))) failed.2 failed.3,
    )

-- each name that is to fail is a service's where there is a gate
pub past_found : {R L : Type 0} (d : Database) (making : MakingAsk) (gate : SessionGate R L)
    → IsGateFor d making gate → AreAllFound d (listed_in making)
past_found d (ByTable listed) (made.Table table) is = (table.failing, is.0)
past_found d (ByTable listed) (made.Shell shell) is = absurd is
past_found d (ByPrograms runner controller limit) (made.Table table) is = absurd is
past_found d (ByPrograms runner controller limit) (made.Shell shell) is = ([], tt)

-- why there is no gate, and why a session does not begin past one, it is not begun
pub gateless_unready : (fault : SessionFault) (service : Service) (asked : Asked) (d : Database)
    → IsGateless d asked.ask.making fault → IsUnready service asked d fault
gateless_unready (OfText fault) service asked d is = is
gateless_unready (Unknown word) service asked d is = is
gateless_unready (OfLive fault) service asked d is = absurd is
gateless_unready (NoController name) service asked d is = absurd is
gateless_unready (Failed fault) service asked d is = inl is

pub begin_unready : (fault : SessionFault) (service : Service) (asked : Asked) (d : Database)
    → AreAllFound d (listed_in asked.ask.making) → IsUnbegun service asked d fault
    → IsUnready service asked d fault
begin_unready (OfText fault) service asked d found is = is
begin_unready (Unknown word) service asked d found is = absurd is
begin_unready (OfLive fault) service asked d found is = (found, is)
begin_unready (NoController name) service asked d found is = (found, is)
begin_unready (Failed fault) service asked d found is = inr is

-- what comes of commands that are done past the gate that makes transitions as it is asked
pub past_gate : {R L : Type 0} (d : Database) (workers : ℕ) (making : MakingAsk)
    (gate : SessionGate R L) (input : Option (List ℕ)) (Comes : Doing → EndsIn → Type 0)
    → IsGateFor d making gate
    → ((fails : Option (ℕ → Way → Bool)) → Lets (gate_answers gate) (gate_gives gate) input fails
    → Comes (done_by workers (gate_answers gate) (gate_gives gate) fails)
    (IsDoneAs workers (gate_answers gate) (gate_gives gate)))
    → IsDoneFor d workers making Comes
past_gate d workers (ByTable listed) (made.Table table) input Comes is come = (
  table.failing,
  is.0,
  subst (λ (m : List ℕ). Comes (IsDoneFailing (fails_in table.failing))
      (IsDoneAs workers (λ s way o. o ≡ outcome_in table.failing s way) (IsMomentOf m))) is.1
      (come (Some (fails_in table.failing))
      (table_exact table.failing, clock_timeless table.moments input is.1)),
)
past_gate d workers (ByTable listed) (made.Shell shell) input Comes is come = absurd is
past_gate d workers (ByPrograms runner controller limit) (made.Table table) input Comes is come =
    absurd is
past_gate d workers (ByPrograms runner controller limit) (made.Shell shell) input Comes is come =
    subst (λ (g : Scripts). Comes (IsDoneBy workers (MayAnswer g) (λ m. Unit {0}))
    (IsDoneAs workers (MayAnswer g) (λ m. Unit {0}))) is (come None tt)

-- past it a session is served from where it begins
pub runs_past : {R L : Type 0} (Comes : Served) (asked : Asked) (d : Database) (deal : Dealing)
    (gate : SessionGate R L) (old new : Holding) → IsGateFor d asked.ask.making gate
    → ((start : Line) × BeginsWith d (filing_by asked deal) start × (old ≡ session_on d start))
    → ((fails : Option (ℕ → Way → Bool))
    → Lets (gate_answers gate) (gate_gives gate) deal.io.input fails
    → Comes asked.ask.live deal.was deal.is
    (done_by asked.ask.workers (gate_answers gate) (gate_gives gate) fails)
    (IsDoneAs asked.ask.workers (gate_answers gate) (gate_gives gate)) deal.io old new)
    → RunsOn Comes asked d deal
runs_past Comes asked d deal gate old new is (start, begins, from) served =
    past_gate d asked.ask.workers asked.ask.making gate deal.io.input
    (λ Does As. RunsGated Comes (filing_by asked deal) Does As d deal.io) is
    (λ fails lets. record {
      start = start;
      new = new;
      begins = begins;
      served = subst (λ (h : Holding). Comes asked.ask.live deal.was deal.is
          (done_by asked.ask.workers (gate_answers gate) (gate_gives gate) fails)
          (IsDoneAs asked.ask.workers (gate_answers gate) (gate_gives gate)) deal.io h new)
          from (served fails lets);
    })

-- why the input was not read whole, where there is no base
pub reading_fails : (fault : ServeFault) (why : Failure) (base remaining : Option (List ℕ))
    (failed : Type 0) → base ≡ None → fault ≡ reading_fault why → IsCause remaining failed ⊥ why
    → IsServeFault failed ⊥ ⊥ fault × IsUnserved fault base remaining
reading_fails fault why base remaining failed none is cause =
    subst (λ (f : ServeFault). IsServeFault failed ⊥ ⊥ f × IsUnserved f base remaining)
    (sym is) (by why cause)
  where
    by : (why : Failure) → IsCause remaining failed ⊥ why
        → IsServeFault failed ⊥ ⊥ (reading_fault why)
        × IsUnserved (reading_fault why) base remaining
    by failure.TooLong cause = (tt, (none, cause))
    by failure.Memory cause = (tt, tt)
    by failure.Read cause = (cause, none)
    by failure.Write cause = absurd cause

-- and a read that has failed is told as that
pub unread_told : {A B : Type 0} (result : Result A Failure) (why : Failure) (fault : ServeFault)
    (before : Type 0) → before ⊎ (result ≡ Err failure.Read) → (before → ⊥) → result ≡ Err why
    → fault ≡ reading_fault why → ◌≡◌ {A = Result B ServeFault} (Err fault) (Err Read)
unread_told result why fault before (inl failed) well is of = absurd (well failed)
unread_told {A} {B} result why fault before (inr read) well is of =
    let same : why ≡ failure.Read = cc in
    let told : fault ≡ Read = cc in
    subst (λ (f : ServeFault). ◌≡◌ {A = Result B ServeFault} (Err f) (Err Read)) (sym told) refl

-- a fault is the same, whatever would have been
pub err_as : {A B : Type 0} (result : Result A ServeFault) (fault other : ServeFault)
    → result ≡ Err fault → result ≡ Err other
    → ◌≡◌ {A = Result B ServeFault} (Err fault) (Err other)
err_as {A} {B} result fault other is told =
    let same : fault ≡ other = cc in
    subst (λ (f : ServeFault). ◌≡◌ {A = Result B ServeFault} (Err f) (Err other)) (sym same) refl

-- a session has an input of its own: of which nothing was read after the database
pub opens_alone : (base remaining after : Option (List ℕ)) (d : Database) (all rest : List ℕ)
    → Reads base remaining after all → Spells base all d rest
    → (input : Option (List ℕ)) × Opens base remaining after d input input
opens_alone (Some b) remaining after d all rest reads spelled =
    (remaining, ((spelled.0, spelled.1, spelled.2, refl), refl, sym reads.1))
opens_alone None remaining after d all rest reads spelled =
    (Some rest, (all, rest, reads, spelled, refl))

-- which is what the reader has where there is a base
pub opens_based : (base remaining after left : Option (List ℕ)) (d : Database)
    (all rest : List ℕ) → base ≢ None → Reads base remaining after all → Spells base all d rest
    → Opens base remaining left d after left
opens_based (Some b) remaining after left d all rest based reads spelled =
    ((spelled.0, spelled.1, spelled.2, refl), reads.1, refl)
opens_based None remaining after left d all rest based reads spelled = absurd (based refl)

-- of which no more is taken than of its own input
pub taken_based : (base remaining after left : Option (List ℕ)) (all : List ℕ) (limit : ℕ)
    → base ≢ None → Reads base remaining after all → ConsumesAtMost after left limit
    → ConsumesAtMost remaining left limit
taken_based (Some b) remaining after left all limit based reads taken =
    subst (λ (r : Option (List ℕ)). ConsumesAtMost r left limit) reads.1 taken
taken_based None remaining after left all limit based reads taken = absurd (based refl)

-- and what is after the database where there is none
pub opens_rest : (base remaining after left : Option (List ℕ)) (d : Database)
    (all rest : List ℕ) → base ≡ None → Reads base remaining after all → Spells base all d rest
    → Opens base remaining after d (Some rest) left
opens_rest (Some b) remaining after left d all rest none reads spelled =
    let bad : Some b ≡ None = none in cc
opens_rest None remaining after left d all rest none reads spelled =
    (all, rest, reads, spelled, refl)

-- a session that is not begun is not served
unserved : (fault : ServeFault) (base remaining : Option (List ℕ)) → IsOfFile fault
    → IsUnserved fault base remaining
unserved Memory base remaining of = tt
unserved Io base remaining of = tt
unserved Read base remaining of = absurd of
unserved Write base remaining of = absurd of
unserved TooLong base remaining of = absurd of
unserved NoThread base remaining of = absurd of
unserved Strange base remaining of = absurd of
unserved Workers base remaining of = absurd of

-- and its fault is of memory or of its file
unready_fault : (ask : SessionAsk) (file : LiveFile) (fault : ServeFault)
    (reader writer failed : Type 0)
    → (fault ≡ Memory) ⊎ FailsToBegin (file_named ask.live file) fault
    → IsOfFile fault × IsServeFault reader writer (CannotKeep ask file failed) fault
unready_fault ask file fault reader writer failed (inl is) =
    subst (λ (f : ServeFault).
    IsOfFile f × IsServeFault reader writer (CannotKeep ask file failed) f) (sym is) (tt, tt)
unready_fault ask file fault reader writer failed (inr is) =
    begin_fault ask file fault reader writer failed is

-- why there is no database, or no session on it, ends it where nothing was written
module _ (service : Service) (asked : Asked) (deal : Dealing) (reader writer failed : Type 0)
    (none : deal.io.gained ≡ deal.io.written) (left : deal.is ≡ deal.was) (input : List ℕ)
    (reads : Reads asked.base deal.io.input deal.io.left input) where
  pub unspelled_ends : (fault : SessionFault) → IsUnspelled asked.base input fault
      → ComesBy (Err fault) service asked deal reader writer
      (CannotKeep asked.ask asked.file failed)
  unspelled_ends (OfText fault) is = ((input, reads, is), none, left)
  unspelled_ends (Unknown word) is = absurd is
  unspelled_ends (OfLive fault) is = absurd is
  unspelled_ends (NoController name) is = absurd is
  unspelled_ends (Failed fault) is =
      subst (λ (f : ServeFault). ComesBy (Err (Failed f)) service asked deal reader writer
      (CannotKeep asked.ask asked.file failed)) (sym is) (tt, inl (tt, none, left))

  pub unready_ends : (fault : SessionFault) (d : Database) (rest : List ℕ)
      → Spells asked.base input d rest → IsUnready service asked d fault
      → ComesBy (Err fault) service asked deal reader writer
      (CannotKeep asked.ask asked.file failed)
  unready_ends (OfText fault) d rest spelled un = absurd un
  unready_ends (Unknown word) d rest spelled un =
      ((input, reads, (d, rest, spelled, un)), none, left)
  unready_ends (OfLive fault) d rest spelled un =
      ((input, reads, (d, rest, spelled, un.0, un.1)), none, left)
  unready_ends (NoController name) d rest spelled un =
      ((input, reads, (d, rest, spelled, un.0, un.1)), none, left)
  unready_ends (Failed fault) d rest spelled un =
      let of = unready_fault asked.ask asked.file fault reader writer failed un in
      (of.1, inl (unserved fault asked.base deal.io.input of.0, none, left))

-- what went through the devices of a session whose own input is this
abbrev own_io : Dealing → (input left : Option (List ℕ)) → Exchange
own_io deal input left = record {
  input = input;
  left = left;
  written = deal.io.written;
  gained = deal.io.gained;
}

-- a session that was begun and served is one of its text
module _ {R L : Type 0} (service : Service) (asked : Asked) (deal : Dealing)
    (input left : Option (List ℕ)) (d : Database) (gate : SessionGate R L) (old new : Holding)
    (opened : Opens asked.base deal.io.input deal.io.left d input left)
    (controlled : IsControlled service asked d) (made : IsGateFor d asked.ask.making gate)
    (begun : (start : Line) × BeginsWith d (filing_by asked deal) start
    × (old ≡ session_on d start)) where
  -- it comes to this, by the gate's answers or as these transitions fail
  abbrev IsServed : Result Ending ServeFault → Type 0
  IsServed result = (fails : Option (ℕ → Way → Bool))
      → Lets (gate_answers gate) (gate_gives gate) input fails
      → ComesFor service result asked.ask.live deal.was deal.is
      (done_by asked.ask.workers (gate_answers gate) (gate_gives gate) fails)
      (IsDoneAs asked.ask.workers (gate_answers gate) (gate_gives gate))
      (own_io deal input left) old new

  runs_served : (result : Result Ending ServeFault) → IsServed result
      → RunsControlled service result asked deal
  runs_served result served = (
    record {
      database = d;
      input = input;
      left = left;
      opened = opened;
      run = runs_past (ComesFor service result) asked d
          (record deal { io = own_io deal input left }) gate old new made begun served;
    },
    controlled,
  )

  pub served_ends : (result : Result Ending ServeFault) (reader writer keeper : Type 0)
      → IsServed result → IfErr result (IsServeFault reader writer keeper)
      → ComesBy (session_end result) service asked deal reader writer keeper
  served_ends (Ok ending) reader writer keeper served wrong = runs_served (Ok ending) served
  served_ends (Err fault) reader writer keeper served wrong =
      (wrong, inr (runs_served (Err fault) served))

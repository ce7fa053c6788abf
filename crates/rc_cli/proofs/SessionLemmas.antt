-- How a session of the program ends.
use Rattle.std.proofs.Common.{◌≡◌, ◌≢◌, ◌∙◌, ◌↔◌, ℕ, Bool, true, false, if◌then◌else◌}
use Rattle.std.proofs.Common.{Contains, List, [], Option, None, Some, inl}
use Rattle.std.proofs.Common.{inr, refl, sym, subst}
use Rattle.clap.specs.Words.{Text as Path}
use Rattle.rc_graph.specs.declared.Way.{Way}
use Rattle.rc_model.specs.Run.{is_success}
use Rattle.rc_model.specs.declared.Outcome.{Outcome}
use Rattle.rc_model.specs.declared.Outcome.TheVariants as outcome
use Rattle.rc_model.specs.Database.{Database}
use Rattle.rc_model.proofs.Members.{none_contained}
use Rattle.rc_runner.specs.Failing.{fails_in, outcome_in}
use Rattle.rc_runner.specs.Moments.{IsMomentOf}
use Rattle.rc_livetext.specs.LiveFaults.{IsLiveFault}
use Rattle.rc_livetext.specs.declared.fault.LiveFault.{LiveFault}
use Rattle.rc_livetext.specs.declared.fault.LiveFault.TheVariants as live
use Rattle.rc_serve.specs.Faults.{IsServeFault}
use Rattle.rc_serve.specs.Keeping.{of_keeping}
use Rattle.rc_serve.specs.SessionText.{FailsExactly, IsTimeless}
use Rattle.rc_serve.specs.declared.fault.ServeFault.{ServeFault}
use Rattle.rc_serve.specs.declared.fault.ServeFault.TheVariants.{Read, Write, TooLong, Memory}
use Rattle.rc_serve.specs.declared.fault.ServeFault.TheVariants.{NoThread, Strange, Workers, Io}
use Rattle.rc_serve.specs.declared.keeper.KeepFault.{KeepFault}
use Rattle.rc_serve.specs.declared.keeper.KeepFault.TheVariants as keep
use Rattle.rc_args.specs.Listed.{Listed}
use Rattle.rc_args.specs.Programs.{ByTable}
use Rattle.rc_args.specs.SessionAsked.{SessionAsk}
use Rattle.rc_cli.specs.Filing.{CannotKeep, FailsToBegin, IsUnread, file_named}
use Rattle.rc_cli.specs.Finding.{IsFirstUnknown, IsGateFault}
use Rattle.rc_cli.specs.Gating.{IsGateless}
use Rattle.rc_cli.specs.Serving.{IsOfFile}
use Rattle.rc_cli.specs.SessionFaults.{IsGateFailing, IsLiveFailing, IsTextFaultOf}
use Rattle.rc_cli.specs.declared.sessions.failing.GateFault.{GateFault}
use Rattle.rc_cli.specs.declared.sessions.failing.GateFault.TheVariants as gate
use Rattle.rc_cli.specs.declared.sessions.keeping.LiveFile.{LiveFile}
use Rattle.rc_cli.specs.declared.sessions.keeping.LiveFile.TheVariants.{Missing, Text as Stood}
use Rattle.rc_cli.specs.declared.sessions.keeping.LiveFile.TheVariants.{Unread}
use Rattle.rc_cli.specs.declared.sessions.session_fault.SessionFault.{SessionFault}

-- a fault of serving stays one where more counts as a failure of the devices
pub fault_wider : (fault : ServeFault) (reader writer keeper more others kept : Type 0)
    → (reader → more) → (writer → others) → (keeper → kept)
    → IsServeFault reader writer keeper fault → IsServeFault more others kept fault
fault_wider Read reader writer keeper more others kept f g h fails = f fails
fault_wider Write reader writer keeper more others kept f g h fails = g fails
fault_wider TooLong reader writer keeper more others kept f g h fails = tt
fault_wider Memory reader writer keeper more others kept f g h fails = tt
fault_wider NoThread reader writer keeper more others kept f g h fails = fails
fault_wider Strange reader writer keeper more others kept f g h fails = fails
fault_wider Workers reader writer keeper more others kept f g h fails = fails
fault_wider Io reader writer keeper more others kept f g h fails = h fails

-- a fault of the list is why there is none
pub gateless : (names : List (List ℕ)) (d : Database) (listed : List Listed) (fault : GateFault)
    (told : SessionFault) → names ≡ d.names → IsGateFailing fault told
    → IsGateFault names listed fault
    → IsGateless d (ByTable listed) told
gateless names d listed (gate.Unknown word) told same is wrong =
    subst (λ (f : SessionFault). IsGateless d (ByTable listed) f) (sym is)
    (subst (λ (ns : List (List ℕ)). IsFirstUnknown ns listed word.now) same wrong)
gateless names d listed gate.Memory told same is wrong =
    subst (λ (f : SessionFault). IsGateless d (ByTable listed) f) (sym is) refl

-- a fault for which a session does not begin is one of a file, and of reading it only where it is
-- named and could not be read
short_of_file : (fault : ServeFault) (P : Type 0) → fault ≡ Memory
    → IsOfFile fault × ((fault ≡ Io) → P)
short_of_file fault P is =
    (subst IsOfFile (sym is) tt, λ io. let bad : Memory ≡ Io = sym is ∙ io in cc)

unread_of_file : (unread : KeepFault) → IsOfFile (of_keeping unread)
unread_of_file keep.Io = tt
unread_of_file keep.Memory = tt

fails_of_file : (path : Option Path) (file : LiveFile) (fault : ServeFault)
    → FailsToBegin (file_named path file) fault
    → IsOfFile fault × ((fault ≡ Io) → (path ≢ None) × IsUnread file)
fails_of_file None file fault is = short_of_file fault _ is
fails_of_file (Some path) Missing fault is = short_of_file fault _ is
fails_of_file (Some path) (Stood bytes) fault is = short_of_file fault _ is
fails_of_file (Some path) (Unread unread) fault is = (
  subst IsOfFile (sym is) (unread_of_file unread),
  λ io. ((λ none. let bad : Some path ≡ None = none in cc), tt),
)

file_fault : (ask : SessionAsk) (file : LiveFile) (fault : ServeFault)
    (reader writer failed : Type 0)
    → IsOfFile fault → ((fault ≡ Io) → (ask.live ≢ None) × IsUnread file)
    → IsServeFault reader writer (CannotKeep ask file failed) fault
file_fault ask file Read reader writer failed of io = absurd of
file_fault ask file Write reader writer failed of io = absurd of
file_fault ask file TooLong reader writer failed of io = absurd of
file_fault ask file Memory reader writer failed of io = tt
file_fault ask file NoThread reader writer failed of io = absurd of
file_fault ask file Strange reader writer failed of io = absurd of
file_fault ask file Workers reader writer failed of io = absurd of
file_fault ask file Io reader writer failed of io = let both = io refl in (both.0, inl both.1)

pub begin_fault : (ask : SessionAsk) (file : LiveFile) (fault : ServeFault)
    (reader writer failed : Type 0) → FailsToBegin (file_named ask.live file) fault
    → IsOfFile fault × IsServeFault reader writer (CannotKeep ask file failed) fault
begin_fault ask file fault reader writer failed is =
    let of = fails_of_file ask.live file fault is in
    (of.0, file_fault ask file fault reader writer failed of.0 of.1)

-- at a gate of a table exactly the transitions of the table fail
exact_of : (flag : Bool) → (is_success (if flag then outcome.Failed 1 else outcome.Ok) ≡ true)
    ↔ (flag ≡ false)
exact_of true =
    (λ well. let bad : false ≡ true = well in cc, λ is. let bad : true ≡ false = is in cc)
exact_of false = (λ well. refl, λ is. refl)

pub table_exact : (failing : List (ℕ × Way))
    → FailsExactly (λ s way o. o ≡ outcome_in failing s way) (fails_in failing)
table_exact failing s way o is =
    subst (λ (x : Outcome). (is_success x ≡ true) ↔ (fails_in failing s way ≡ false)) (sym is)
    (exact_of (fails_in failing s way))

-- and where its clock has no moments, no limit is ever reached
pub clock_timeless : (moments : List ℕ) (input : Option (List ℕ)) → moments ≡ []
    → IsTimeless (IsMomentOf moments) input
clock_timeless moments input none =
    inl (λ m gives. elim gives [
      | inl one ↦ absurd (none_contained m (subst (λ (all : List ℕ). Contains all m) none one))
      | inr zero ↦ zero.1
    ])

-- a text that is no line of the database is why a session does not go on with it
pub live_fault : (d : Database) (bytes : List ℕ) (fault : LiveFault) (told : SessionFault)
    → IsLiveFailing fault told → IsLiveFault d bytes fault → IsTextFaultOf d bytes told
live_fault d bytes live.Memory told is wrong =
    subst (λ (f : SessionFault). IsTextFaultOf d bytes f) (sym is) refl
live_fault d bytes (live.Bad offset) told is wrong =
    subst (λ (f : SessionFault). IsTextFaultOf d bytes f) (sym is) ((λ bad. cc), wrong)
live_fault d bytes live.Version told is wrong =
    subst (λ (f : SessionFault). IsTextFaultOf d bytes f) (sym is) ((λ bad. cc), wrong)
live_fault d bytes live.Unknown told is wrong =
    subst (λ (f : SessionFault). IsTextFaultOf d bytes f) (sym is) ((λ bad. cc), wrong)
live_fault d bytes (live.NotClosed place) told is wrong =
    subst (λ (f : SessionFault). IsTextFaultOf d bytes f) (sym is) ((λ bad. cc), wrong)
live_fault d bytes live.SameState told is wrong =
    subst (λ (f : SessionFault). IsTextFaultOf d bytes f) (sym is) ((λ bad. cc), wrong)
live_fault d bytes live.OtherDb told is wrong =
    subst (λ (f : SessionFault). IsTextFaultOf d bytes f) (sym is) ((λ bad. cc), wrong)
live_fault d bytes live.OverBound told is wrong =
    subst (λ (f : SessionFault). IsTextFaultOf d bytes f) (sym is) ((λ bad. cc), wrong)

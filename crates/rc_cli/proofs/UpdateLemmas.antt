-- How the two steps of an update are served, and how it ends.
use Rattle.std.proofs.Common.{All, ◌≡◌, ◌≢◌, ◌≤◌, ◌∙◌, ◌++◌, ◌∷◌, ℕ, Bool, false, List, []}
use Rattle.std.proofs.Common.{Bor, MatchOption, None, Option, Result, Ok, Err, IfErr}
use Rattle.std.proofs.Common.{inl, inr, ap, refl, sym, subst}
use Rattle.std.proofs.lemmas.List.Elements.{All-cons, All-nil}
use Rattle.clap.specs.Words.{Text as Path}
use Rattle.rc_graph.specs.declared.Way.{Way}
use Rattle.rc_graph.specs.declared.Way.TheVariants.{Lower, Raise}
use Rattle.rc_model.specs.Database.{Database}
use Rattle.rc_model.specs.Line.{IsLine, Line, states, State}
use Rattle.rc_session.specs.Holding.{Holding}
use Rattle.rc_line.specs.Opening.{Journal}
use Rattle.rc_runner.specs.Gates.{gate_answers, gate_gives}
use Rattle.rc_runner.specs.declared.session_gate.SessionGate.{SessionGate}
use Rattle.rc_serve.specs.declared.ending.Ending.{Ending}
use Rattle.rc_serve.specs.declared.ending.Ending.TheVariants.{Done}
use Rattle.rc_serve.specs.declared.fault.ServeFault.{ServeFault}
use Rattle.rc_serve.specs.Ending.{EndsIn, IsDoneAs}
use Rattle.rc_args.specs.Listed.{Listed}
use Rattle.rc_args.specs.OnceAsked.{OnceSaying, Said}
use Rattle.rc_args.specs.Programs.{MakingAsk}
use Rattle.rc_cli.specs.Filing.{BeginsBy, file_named}
use Rattle.rc_cli.specs.Gating.{IsGateFor, IsGateless}
use Rattle.rc_cli.specs.Once.{ServedOnce, ServesOnce}
use Rattle.rc_cli.specs.Services.{IsDoneFor}
use Rattle.rc_cli.specs.Serving.{session_on}
use Rattle.rc_cli.specs.SessionFaults.{IsFileFault}
use Rattle.rc_cli.specs.Steps.{ended_by, ending_behind, lowering, raising}
use Rattle.rc_cli.specs.declared.sessions.keeping.LiveFile.{LiveFile}
use Rattle.rc_cli.specs.declared.sessions.session_fault.SessionFault.{SessionFault}
use Rattle.rc_cli.specs.declared.sessions.session_fault.SessionFault.TheVariants.{OfText, Unknown}
use Rattle.rc_cli.specs.declared.sessions.session_fault.SessionFault.TheVariants.{OfLive, Failed}
use Rattle.rc_cli.specs.declared.sessions.session_fault.SessionFault.TheVariants.{NoController}
use Rattle.rc_cli.proofs.LaunchLemmas.{past_found, past_gate}
use Rattle.rc_update.specs.Conversions.{Conversion, conversions_of}
use Rattle.rc_update.specs.Knowing.{AreKnown, IsFirstStranger}
use Rattle.rc_update.specs.declared.conversion.Conversion.{Conversion as Given}
use Rattle.rc_args.specs.UpdateAsked.{UpdateAsk}
use Rattle.rc_cli.specs.Updating.{IsAhead, IsUpdate, Parts, ServedBoth, Updated, carried_line}
use Rattle.rc_cli.specs.Updating.{listed_by}
use Rattle.rc_cli.specs.declared.updating.Ahead.{Ahead}
use Rattle.rc_script.specs.Says.{saying_of}
use Rattle.rc_cli.specs.Updating.{listed_on, making_on, session_with}
use Rattle.rc_cli.specs.UpdateEnds.{AreFoundInBoth, AreGateless, IsUnreadyUpdate, RunsUpdate}

-- a session that stands so has no run begun, and is not poisoned
pub stands_closed : (session : Holding) (d : Database) (line : Line) → session ≡ session_on d line
    → (session.begun ≡ false) × (session.spoiled ≡ false)
stands_closed session d line is =
    (ap (λ (h : Holding). h.begun) is, ap (λ (h : Holding). h.spoiled) is)

-- and so does one from where a session begins
pub begun_closed : (session : Holding) (d : Database) (bound : ℕ) (file : LiveFile)
    → ((start : Line) × BeginsBy d bound file start × (session ≡ session_on d start))
    → (session.begun ≡ false) × (session.spoiled ≡ false)
begun_closed session d bound file (start, begins, is) = stands_closed session d start is

-- the bound of a line is that of what it is kept in, and three at least
pub journal_bound : (journal : Journal) (line : Line) (begun : Bool) (bound : ℕ)
    → journal ≡ record { line = line; is_open = begun } → bound ≡ journal.line.bound
    → bound ≡ line.bound
journal_bound journal line begun bound same is = is ∙ ap (λ (j : Journal). j.line.bound) same

pub line_bound : (line : Line) (bound : ℕ) → IsLine line → bound ≡ line.bound → 3 ≤ bound
line_bound line bound is_line is = subst (λ (n : ℕ). 3 ≤ n) (sym is) is_line.bound.0

-- two lines of which the first one alone was served, or both
module _ (path : Option Path) (was held is : Option (List ℕ)) (As At : EndsIn)
    (what then : OnceSaying) (written shown gained : Option (List ℕ))
    (from middle to after : Holding) where
  pub first_alone : (told ending : Ending) → told ≡ ending → ending ≢ Done
      → ServesOnce path was held As told what written shown from middle
      → ServedBoth (Ok ending) path was held As At what then written shown from to
  first_alone told ending is undone first = inl (
    undone,
    (
      middle,
      subst (λ (e : Ending). ServesOnce path was held As e what written shown from middle) is first,
    ),
  )

  pub both_served : (result raised : Result Ending ServeFault) (told : Ending) → told ≡ Done
      → result ≡ ended_by ending_behind raised
      → ServesOnce path was held As told what written shown from middle
      → ServedOnce raised path held is At then shown gained to after
      → ServedBoth result path was is As At what then written gained from to
  both_served result raised told done ends first second = inr (record {
    raised = raised;
    middle = middle;
    after = after;
    held = held;
    shown = shown;
    ends = ends;
    first = subst (λ (e : Ending). ServesOnce path was held As e what written shown from middle)
        done first;
    second = second;
  })

-- a fault of the second one is that of both
pub fault_behind : (result raised : Result Ending ServeFault) (P : ServeFault → Type 0)
    → result ≡ ended_by ending_behind raised → IfErr raised P → IfErr result P
fault_behind result (Ok ending) P ends fails =
    subst (λ (r : Result Ending ServeFault). IfErr r P) (sym ends) tt
fault_behind result (Err fault) P ends fails =
    subst (λ (r : Result Ending ServeFault). IfErr r P) (sym ends) fails

-- what two lines come to is what an update comes to, whose steps they are
pub updated_by : (result : Result Ending ServeFault) (path : Option Path)
    (was is : Option (List ℕ)) (As At : EndsIn) (list : List Conversion) (dry : Bool)
    (what then : OnceSaying) (written gained : Option (List ℕ)) (from to : Holding) (new : Database)
    (parts : Parts) → IsUpdate from.database new list from.line parts
    → to ≡ session_with new parts from → what ≡ lowering dry parts.lower
    → then ≡ raising dry parts.raise
    → ServedBoth result path was is As At what then written gained from to
    → Updated result path was is As At list dry written gained from new
updated_by result path was is As At list dry what then written gained from to new parts update
    there first second served = (
      parts,
      update,
      subst (λ (h : Holding). ServedBoth result path was is As At (lowering dry parts.lower)
          (raising dry parts.raise) written gained from h) there
          (subst (λ (w : OnceSaying). ServedBoth result path was is As At w
          (raising dry parts.raise) written gained from to) first
          (subst (λ (t : OnceSaying). ServedBoth result path was is As At what t written gained
          from to) second served)),
    )

-- the same of a session that stands as another one
pub updated_as : (result : Result Ending ServeFault) (path : Option Path)
    (was is : Option (List ℕ)) (As At : EndsIn) (written gained : Option (List ℕ))
    (ask : UpdateAsk) (stands from : Holding) (new : Database) (ahead : Ahead)
    → stands ≡ from → IsAhead ask from new ahead
    → ServedBoth result path was is As At (Said (saying_of ahead.lowering))
    (Said (saying_of ahead.raising)) written gained stands ahead.to
    → Updated result path was is As At ask.conversions ask.dry written gained from new
updated_as result path was is As At written gained ask stands from new ahead same there served =
    updated_by result path was is As At ask.conversions ask.dry
    (Said (saying_of ahead.lowering)) (Said (saying_of ahead.raising)) written gained from ahead.to
    new there.parts there.update there.to there.lowers there.raises
    (subst (λ (h : Holding). ServedBoth result path was is As At (Said (saying_of ahead.lowering))
    (Said (saying_of ahead.raising)) written gained h ahead.to) same served)

-- the first name that is no service's, by the lists that slices and tables are of
pub stranger_of : (found : Option (Bor (List ℕ))) (xs ys : List Given)
    (old new first second : List (List ℕ)) → xs ≡ ys → old ≡ first → new ≡ second
    → MatchOption found (AreKnown old new (conversions_of xs))
    (λ name. IsFirstStranger old new (conversions_of xs) name.now)
    → MatchOption found (AreKnown first second (conversions_of ys))
    (λ name. IsFirstStranger first second (conversions_of ys) name.now)
stranger_of found xs ys old new first second is here there says =
    subst (λ (l : List Given). MatchOption found (AreKnown first second (conversions_of l))
    (λ name. IsFirstStranger first second (conversions_of l) name.now)) is
    (subst (λ (a : List (List ℕ)). MatchOption found (AreKnown a second (conversions_of xs))
    (λ name. IsFirstStranger a second (conversions_of xs) name.now)) here
    (subst (λ (b : List (List ℕ)). MatchOption found (AreKnown old b (conversions_of xs))
    (λ name. IsFirstStranger old b (conversions_of xs) name.now)) there says))

-- why there are no gates, or no session begins, an update is not begun
pub gates_unready : (fault : SessionFault) (ask : UpdateAsk) (file : LiveFile)
    (old new : Database) → AreKnown old.names new.names ask.conversions
    → AreGateless old new ask.session.making fault → IsUnreadyUpdate ask file old new fault
gates_unready (OfText fault) ask file old new known is = is
gates_unready (Unknown word) ask file old new known is = inr (known, is)
gates_unready (OfLive fault) ask file old new known is = absurd is
gates_unready (NoController name) ask file old new known is = absurd is
gates_unready (Failed fault) ask file old new known is = inl is

pub begin_unready : (fault : SessionFault) (ask : UpdateAsk) (file : LiveFile)
    (old new : Database) → AreKnown old.names new.names ask.conversions
    → AreFoundInBoth old new ask.session.making
    → IsFileFault (file_named ask.session.live file) old fault
    → IsUnreadyUpdate ask file old new fault
begin_unready (OfText fault) ask file old new known found is = is
begin_unready (Unknown word) ask file old new known found is = absurd is
begin_unready (OfLive fault) ask file old new known found is = (known, found, is)
begin_unready (NoController name) ask file old new known found is = absurd is
begin_unready (Failed fault) ask file old new known found is = inr is

-- past the gates of both steps an update is carried out from where the session of the old database
-- begins
pub runs_update : {R L Q M : Type 0} (result : Result Ending ServeFault) (ask : UpdateAsk)
    (file : LiveFile) (old new : Database) (gate : SessionGate R L) (other : SessionGate Q M)
    (from : Holding) (was is written gained : Option (List ℕ))
    → IsGateFor old (making_on Lower ask.session.making) gate
    × IsGateFor new (making_on Raise ask.session.making) other
    → ((start : Line) × BeginsBy old ask.session.bound (file_named ask.session.live file) start
    × (from ≡ session_on old start))
    → Updated result ask.session.live was is
    (IsDoneAs ask.session.workers (gate_answers gate) (gate_gives gate))
    (IsDoneAs ask.session.workers (gate_answers other) (gate_gives other))
    ask.conversions ask.dry written gained from new
    → RunsUpdate result ask file old new was is written gained
runs_update result ask file old new gate other from was is written gained made
    (start, begins, stands) updated =
    past_gate old workers (making_on Lower making) gate None
    (λ Does As. IsDoneFor new workers (making_on Raise making) (λ Do At. Comes As At)) made.0
    (λ fails lets. past_gate new workers (making_on Raise making) other None
    (λ Do At. Comes (IsDoneAs workers (gate_answers gate) (gate_gives gate)) At) made.1
    (λ some let_some. (
      start,
      begins,
      subst (λ (h : Holding). Updated result ask.session.live was is
          (IsDoneAs workers (gate_answers gate) (gate_gives gate))
          (IsDoneAs workers (gate_answers other) (gate_gives other))
          ask.conversions ask.dry written gained h new) stands updated,
    )))
  where
    workers : ℕ
    workers = ask.session.workers

    making : MakingAsk
    making = ask.session.making

    Comes : EndsIn → EndsIn → Type 0
    Comes As At = (begin : Line)
        × BeginsBy old ask.session.bound (file_named ask.session.live file) begin
        × Updated result ask.session.live was is As At ask.conversions ask.dry
        written gained (session_on old begin) new

-- why there is no gate of the first step, or of the second one, is why there are not both
pub first_gateless : (fault : SessionFault) (old new : Database) (making : MakingAsk)
    → IsGateless old (making_on Lower making) fault → AreGateless old new making fault
first_gateless (OfText fault) old new making is = absurd is
first_gateless (Unknown word) old new making is = inl is
first_gateless (OfLive fault) old new making is = absurd is
first_gateless (NoController name) old new making is = absurd is
first_gateless (Failed fault) old new making is = is

pub second_gateless : {R L : Type 0} (fault : SessionFault) (old new : Database)
    (making : MakingAsk) (gate : SessionGate R L) → IsGateFor old (making_on Lower making) gate
    → IsGateless new (making_on Raise making) fault → AreGateless old new making fault
second_gateless (OfText fault) old new making gate made is = absurd is
second_gateless (Unknown word) old new making gate made is =
    inr (past_found old (making_on Lower making) gate made, is)
second_gateless (OfLive fault) old new making gate made is = absurd is
second_gateless (NoController name) old new making gate made is = absurd is
second_gateless (Failed fault) old new making gate made is = is

-- the session with what stays, by its bound
pub with_bound : (new : Database) (parts : Parts) (bound : ℕ) (from to : Holding)
    → to ≡ session_on new (carried_line new parts.kept bound) → bound ≡ from.line.bound
    → to ≡ session_with new parts from
with_bound new parts bound from to is same =
    is ∙ ap (λ (b : ℕ). session_on new (carried_line new parts.kept b)) same

-- a line of one state
pub one_state : (P : State → Type 0) (line : Line) (state : State) (bound : ℕ)
    → line ≡ record { before = []; current = state; after = []; bound = bound } → P state
    → All P (states line)
one_state P line state bound is holds =
    subst (λ (l : Line). All P (states l)) (sym is) (All-cons P state [] holds (All-nil P))

-- a transition in front of others, and more after
listed_grown : (way other : Way) (one : Listed) (some more : List Listed)
    → listed_by way other one (some ++ more) ≡ listed_by way other one some ++ more
listed_grown Raise Raise one some more = refl
listed_grown Raise Lower one some more = refl
listed_grown Lower Raise one some more = refl
listed_grown Lower Lower one some more = refl

-- of listed transitions up to one and that one, those of a way
listed_on-append : (way : Way) (some more : List Listed)
    → listed_on way (some ++ more) ≡ listed_on way some ++ listed_on way more
listed_on-append way [] more = refl
listed_on-append way (one ∷ some) more =
    ap (listed_by way one.way one) (listed_on-append way some more)
    ∙ listed_grown way one.way one (listed_on way some) (listed_on way more)

pub listed_next : (way : Way) (some all : List Listed) (one : Listed) → all ≡ some ++ one ∷ []
    → listed_on way all ≡ listed_on way some ++ listed_by way one.way one []
listed_next way some all one is = ap (listed_on way) is ∙ listed_on-append way some (one ∷ [])

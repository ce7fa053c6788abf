-- Refusals and faults, and what they leave.
use Rattle.std.proofs.Common.{◌≡◌, ◌∙◌, ◌⊎◌, inl, inr, ℕ, List, true, false, Result, Ok, Err}
use Rattle.std.proofs.Common.{IfOk, IfErr, OnErr, refl, ap, sym, subst}
use Rattle.rc_model.specs.declared.Refusal.{Refusal}
use Rattle.rc_model.specs.declared.Refusal.TheVariants.{BadEvent, NotSettled, PruneNeedsUp, Unknown}
use Rattle.rc_model.specs.declared.Refusal.TheVariants.{IsAtomic, Exists, Missing, Full}
use Rattle.rc_model.specs.declared.Refusal.TheVariants.{NothingToUndo, NothingToRedo, NotEdit}
use Rattle.rc_model.specs.declared.Refusal.TheVariants.{Strange, Memory}
use Rattle.rc_model.specs.Database.{Database}
use Rattle.rc_model.specs.Session.{Command, IsOwnFault}
use Rattle.rc_session.specs.Holding.{Holding, IsHindrance}
use Rattle.rc_board.specs.declared.fault.Fault.{Fault}
use Rattle.rc_board.specs.declared.fault.Fault.TheVariants as faults
use Rattle.rc_board.specs.Working.{HasWork, IsCarriedOut, IsFault, LeavesSession}
use Rattle.rc_graph.specs.declared.Way.{Way}
use Rattle.rc_model.specs.declared.Outcome.{Outcome}
use Rattle.rc_session.specs.declared.report.Report.{Report}
use Rattle.rc_session.specs.Report.{told_of}
use Rattle.rc_board.specs.Crew.{IsCrew}
use Rattle.rc_render.specs.ReportText.{report_text}
use Rattle.rc_render.specs.AnswerText.{words_of}
use Rattle.rc_serve.specs.declared.fault.ServeFault.{ServeFault}
use Rattle.rc_serve.specs.declared.fault.ServeFault.TheVariants as serve
use Rattle.rc_serve.specs.Faults.{EndsSession, IsInner, IsSpoiledBy, IsStrange}
use Rattle.rc_serve.specs.Meeting.{IsAnswered, IsDoneBy, MayMeet}
use Rattle.rc_serve.specs.Ending.{EndsCommand, IsDoneAs}
use Rattle.rc_serve.specs.Telling.{IsToldAs}
use Rattle.rc_serve.specs.declared.ending.Answer.{Answer}
use Rattle.rc_serve.specs.Serving.{Stays}

-- what hinders a command, where it is answered, is a fault of its own
pub own_fault : (Own : Refusal → Type 0) (h : Holding) (refusal : Refusal)
    → IsHindrance Own h refusal → IsAnswered refusal → Own refusal
own_fault Own h Strange hinders answered = absurd (answered.sound refl)
own_fault Own h Memory hinders answered = absurd (answered.room refl)
own_fault Own h (BadEvent place) hinders answered = hinders.1
own_fault Own h (NotSettled place) hinders answered = hinders.1
own_fault Own h PruneNeedsUp hinders answered = hinders.1
own_fault Own h (Unknown place) hinders answered = hinders.1
own_fault Own h (IsAtomic place) hinders answered = hinders.1
own_fault Own h Exists hinders answered = hinders.1
own_fault Own h (Missing place) hinders answered = hinders.1
own_fault Own h Full hinders answered = hinders.1
own_fault Own h NothingToUndo hinders answered = hinders.1
own_fault Own h NothingToRedo hinders answered = hinders.1
own_fault Own h NotEdit hinders answered = hinders.1

-- whatever the fault, the line of states is as it was
pub left_line : (old new : Holding) (fault : Fault) → LeavesSession old fault new
    → new.line ≡ old.line
left_line old new faults.Workers left = ap (λ (h : Holding). h.line) left
left_line old new faults.NoThread left = ap (λ (h : Holding). h.line) left
left_line old new faults.Strange left = ap (λ (h : Holding). h.line) left
left_line old new (faults.Refused refusal) left = ap (λ (h : Holding). h.line) left

-- and the database too, and nothing is begun
pub left_stays : (old new : Holding) (fault : Fault) → LeavesSession old fault new
    → old.begun ≡ false → Stays old new
left_stays old new faults.Workers left closed =
    (ap (λ (h : Holding). h.database) left, ap (λ (h : Holding). h.begun) left ∙ closed)
left_stays old new faults.NoThread left closed =
    (ap (λ (h : Holding). h.database) left, ap (λ (h : Holding). h.begun) left ∙ closed)
left_stays old new faults.Strange left closed =
    (ap (λ (h : Holding). h.database) left, ap (λ (h : Holding). h.begun) left)
left_stays old new (faults.Refused refusal) left closed =
    (ap (λ (h : Holding). h.database) left, ap (λ (h : Holding). h.begun) left ∙ closed)

-- what came of a command that workers carry out, and how it was told, is its answer and its ending
met_by : (workers : ℕ) (Says : ℕ → Way → Outcome → Type 0) (Gives : ℕ → Type 0)
    (old new : Holding) (command : Command) (outcome : Result Report Fault)
    (result : Result Answer ServeFault)
    → IfOk outcome (λ report. IsCarriedOut workers Says Gives old command (told_of report) new)
    → IfErr outcome (IsFault workers old command)
    → IfErr outcome (λ fault. LeavesSession old fault new)
    → IfOk result
    (λ answer. IsToldAs old.database.names (words_of command) outcome answer.ending
    answer.text.items)
    → IfOk result
    (λ answer. EndsCommand (IsDoneAs workers Says Gives) answer.ending old.database old.line command
    answer.text.items new.line)
met_by workers Says Gives old new command outcome (Err e) done fault left told = tt
met_by workers Says Gives old new command (Ok report) (Ok answer) done fault left told =
    inl (report.trace.items, told_of report, done.made, inl done.runs, told.0, told.1)
met_by workers Says Gives old new command (Err (faults.Refused refusal)) (Ok answer) done
    fault left told =
    inr (
      told.2,
      (
        refusal,
        own_fault (IsOwnFault old.database old.line command) old refusal fault.1 told.0,
        told.1,
        left_line old new (faults.Refused refusal) left,
      ),
    )
met_by workers Says Gives old new command (Err faults.Workers) (Ok answer) done fault left told =
    absurd told
met_by workers Says Gives old new command (Err faults.NoThread) (Ok answer) done fault left told =
    absurd told
met_by workers Says Gives old new command (Err faults.Strange) (Ok answer) done fault left told =
    absurd told

-- whether it is told or not
may_by : (workers : ℕ) (Says : ℕ → Way → Outcome → Type 0) (Gives : ℕ → Type 0)
    (old new : Holding) (command : Command) (outcome : Result Report Fault)
    → IfOk outcome (λ report. IsCarriedOut workers Says Gives old command (told_of report) new)
    → IfErr outcome (λ fault. LeavesSession old fault new)
    → MayMeet (IsDoneBy workers Says Gives) old.database old.line command new.line
may_by workers Says Gives old new command (Ok report) done left =
    inr (
      report_text old.database.names (told_of report),
      inl (report.trace.items, told_of report, done.made, inl done.runs, refl),
    )
may_by workers Says Gives old new command (Err fault) done left = inl (left_line old new fault left)

-- and the session keeps its database
stays_by : (workers : ℕ) (Says : ℕ → Way → Outcome → Type 0) (Gives : ℕ → Type 0)
    (old new : Holding) (command : Command) (outcome : Result Report Fault)
    → IfOk outcome (λ report. IsCarriedOut workers Says Gives old command (told_of report) new)
    → IfErr outcome (λ fault. LeavesSession old fault new) → old.begun ≡ false → Stays old new
stays_by workers Says Gives old new command (Ok report) done left closed =
    (ap (λ (h : Holding). h.database) done.session, ap (λ (h : Holding). h.begun) done.session)
stays_by workers Says Gives old new command (Err fault) done left closed =
    left_stays old new fault left closed

-- no fault of the workers' number comes of a right one
pub right_crew : (workers : ℕ) (h : Holding) (command : Command) (outcome : Result Report Fault)
    → IfErr outcome (IsFault workers h command) → IsCrew workers → outcome ≡ Err faults.Workers → ⊥
right_crew workers h command outcome fault crew is =
    let wrong : IsCrew workers → ⊥ =
    subst (λ (o : Result Report Fault). IfErr o (IsFault workers h command)) is fault in
    wrong crew

-- told of the same names and words
retold : (names others words more : List (List ℕ)) (outcome : Result Report Fault)
    (result : Result Answer ServeFault) → names ≡ others → words ≡ more
    → IfOk result (λ answer. IsToldAs names words outcome answer.ending answer.text.items)
    → IfOk result (λ answer. IsToldAs others more outcome answer.ending answer.text.items)
retold names others words more outcome result a b told =
    subst (λ (w : List (List ℕ)). IfOk result
    (λ answer. IsToldAs others w outcome answer.ending answer.text.items)) b
    (subst (λ (n : List (List ℕ)). IfOk result
    (λ answer. IsToldAs n words outcome answer.ending answer.text.items)) a told)

-- a fault that ends the session for one reason does for another that follows
pub inner_as : (P Q T U : Type 0) (fault : ServeFault) → (P → Q) → (T → U) → IsInner P T fault
    → IsInner Q U fault
inner_as P Q T U serve.Read strange threads inner = inner
inner_as P Q T U serve.Write strange threads inner = inner
inner_as P Q T U serve.TooLong strange threads inner = inner
inner_as P Q T U serve.Memory strange threads inner = inner
inner_as P Q T U serve.NoThread strange threads inner = threads inner
inner_as P Q T U serve.Strange strange threads inner = strange inner
inner_as P Q T U serve.Workers strange threads inner = inner
inner_as P Q T U serve.Io strange threads inner = inner

pub inner_by : {A : Type 0} (P Q T U : Type 0) (result : Result A ServeFault) → (P → Q) → (T → U)
    → IfErr result (IsInner P T) → IfErr result (IsInner Q U)
inner_by P Q T U (Ok text) strange threads inner = tt
inner_by P Q T U (Err fault) strange threads inner = inner_as P Q T U fault strange threads inner

-- where there is work, there is also this
pub ends_as : {A : Type 0} (P Q : Type 0) (old new : Holding) (result : Result A ServeFault)
    → (P → Q) → IfErr result (EndsSession P old new) → IfErr result (EndsSession Q old new)
ends_as P Q old new result more ends =
    inner_by (((old.spoiled ≡ true) ⊎ P) × (new.line ≡ old.line))
    (((old.spoiled ≡ true) ⊎ Q) × (new.line ≡ old.line)) (P × (new.line ≡ old.line))
    (Q × (new.line ≡ old.line)) result
    (λ strange. (elim strange.0 [ inl was ↦ inl was | inr work ↦ inr (more work) ], strange.1))
    (λ threads. (more threads.0, threads.1)) ends

-- a session of which nothing else changes is poisoned where it ends as strange
pub kept_spoils : {A : Type 0} (P Q : Type 0) (result : Result A ServeFault) (old new : Holding)
    → new.spoiled ≡ old.spoiled → (P → new.spoiled ≡ true) → IfErr result (IsInner P Q)
    → IsSpoiledBy result old new
kept_spoils P Q (Ok text) old new same strange inner = same
kept_spoils P Q (Err serve.Read) old new same strange inner = same
kept_spoils P Q (Err serve.Write) old new same strange inner = same
kept_spoils P Q (Err serve.TooLong) old new same strange inner = same
kept_spoils P Q (Err serve.Memory) old new same strange inner = same
kept_spoils P Q (Err serve.NoThread) old new same strange inner = same
kept_spoils P Q (Err serve.Strange) old new same strange inner = strange inner
kept_spoils P Q (Err serve.Workers) old new same strange inner = same
kept_spoils P Q (Err serve.Io) old new same strange inner = same

-- a session that is only looked at is poisoned where it ends as strange
pub shown_spoils : {A : Type 0} (h : Holding) (result : Result A ServeFault)
    → IfErr result (EndsSession ⊥ h h) → IsSpoiledBy result h h
shown_spoils h result ends =
    kept_spoils (((h.spoiled ≡ true) ⊎ ⊥) × (h.line ≡ h.line)) (⊥ × (h.line ≡ h.line)) result h h
    refl (λ strange. elim strange.0 [ inl was ↦ was | inr none ↦ absurd none ]) ends

-- a session that refuses as strange is poisoned, and was before
spoiled_by : {A : Type 0} (Own : Refusal → Type 0) (old : Holding) (outcome : Result A Refusal)
    → IfErr outcome (IsHindrance Own old) → outcome ≡ Err Strange → old.spoiled ≡ true
spoiled_by {A} Own old outcome refused is =
    subst (λ (o : Result A Refusal). IfErr o (IsHindrance Own old)) is refused

-- where a refusal ends the session, nothing has changed
pub ends_refused : {A B : Type 0} (Own : Refusal → Type 0) (old new : Holding)
    (outcome : Result A Refusal) (result : Result B ServeFault)
    → IfErr outcome (IsHindrance Own old) → OnErr outcome (new ≡ old)
    → IfErr result (IsInner (outcome ≡ Err Strange) ⊥) → IfErr result (EndsSession ⊥ old new)
ends_refused {A} {B} Own old new outcome result refused same told =
    inner_by (outcome ≡ Err Strange) (((old.spoiled ≡ true) ⊎ ⊥) × (new.line ≡ old.line))
    ⊥ (⊥ × (new.line ≡ old.line)) result
    (λ is. (
      inl (spoiled_by Own old outcome refused is),
      ap (λ (h : Holding). h.line) (subst (λ (o : Result A Refusal). OnErr o (new ≡ old)) is same),
    )) (λ none. absurd none) told

-- likewise of a session that is only looked at
pub ends_shown : {A B : Type 0} (Own : Refusal → Type 0) (h : Holding) (outcome : Result A Refusal)
    (result : Result B ServeFault) → IfErr outcome (IsHindrance Own h)
    → IfErr result (IsInner (outcome ≡ Err Strange) ⊥) → IfErr result (EndsSession ⊥ h h)
ends_shown {A} {B} Own h outcome result refused told =
    inner_by (outcome ≡ Err Strange) (((h.spoiled ≡ true) ⊎ ⊥) × (h.line ≡ h.line))
    ⊥ (⊥ × (h.line ≡ h.line)) result (λ is. (inl (spoiled_by Own h outcome refused is), refl))
    (λ none. absurd none) told

pub refused_spoils : {A B : Type 0} (Own : Refusal → Type 0) (old new : Holding)
    (outcome : Result A Refusal) (result : Result B ServeFault)
    → IfErr outcome (IsHindrance Own old) → new.spoiled ≡ old.spoiled
    → IfErr result (IsInner (outcome ≡ Err Strange) ⊥) → IsSpoiledBy result old new
refused_spoils Own old new outcome result refused same told =
    kept_spoils (outcome ≡ Err Strange) ⊥ result old new same
    (λ is. same ∙ spoiled_by Own old outcome refused is) told

-- what a fault of workers tells of the work that there is
abbrev TellsWork : (work : Type 0) → Fault → Type 0
TellsWork work faults.Workers = Unit {0}
TellsWork work faults.NoThread = work
TellsWork work faults.Strange = work
TellsWork work (faults.Refused refusal) = Unit {0}

tells_work : (workers : ℕ) (h : Holding) (command : Command) (outcome : Result Report Fault)
    → IfErr outcome (IsFault workers h command)
    → IfErr outcome (TellsWork (HasWork h.database h.line command))
tells_work workers h command (Ok report) fault = tt
tells_work workers h command (Err faults.Workers) fault = tt
tells_work workers h command (Err faults.NoThread) fault = fault.2
tells_work workers h command (Err faults.Strange) fault = fault.2
tells_work workers h command (Err (faults.Refused refusal)) fault = tt

-- what came of a command is strange: for work that there is, or in a session that was poisoned
-- before
strange_run : (work : Type 0) (workers : ℕ) (old new : Holding) (command : Command)
    (outcome : Result Report Fault) → IfErr outcome (IsFault workers old command)
    → IfErr outcome (λ fault. LeavesSession old fault new)
    → IfErr outcome (TellsWork work) → IsStrange outcome
    → ((old.spoiled ≡ true) ⊎ work) × (new.line ≡ old.line)
strange_run work workers old new command (Ok report) fault left tells strange = absurd strange
strange_run work workers old new command (Err faults.Workers) fault left tells strange =
    absurd strange
strange_run work workers old new command (Err faults.NoThread) fault left tells strange =
    absurd strange
strange_run work workers old new command (Err faults.Strange) fault left tells strange =
    (inr tells, left_line old new faults.Strange left)
strange_run work workers old new command (Err (faults.Refused refusal)) fault left tells strange = (
  inl (subst (λ (r : Refusal). IsHindrance (IsOwnFault old.database old.line command) old r)
      strange fault.1),
  left_line old new (faults.Refused refusal) left,
)

-- no thread was started: for work that there is
unstarted_run : (work : Type 0) (old new : Holding) (outcome : Result Report Fault)
    → IfErr outcome (λ fault. LeavesSession old fault new) → IfErr outcome (TellsWork work)
    → outcome ≡ Err faults.NoThread → work × (new.line ≡ old.line)
unstarted_run work old new outcome left tells is = (
  subst (λ (o : Result Report Fault). IfErr o (TellsWork work)) is tells,
  left_line old new faults.NoThread
      (subst (λ (o : Result Report Fault). IfErr o (λ fault. LeavesSession old fault new)) is left),
)

ends_run : {A : Type 0} (work : Type 0) (workers : ℕ) (old new : Holding) (command : Command)
    (outcome : Result Report Fault) (result : Result A ServeFault)
    → IfErr outcome (IsFault workers old command)
    → IfErr outcome (λ fault. LeavesSession old fault new)
    → IfErr outcome (TellsWork work)
    → IfErr result (IsInner (IsStrange outcome) (outcome ≡ Err faults.NoThread))
    → IfErr result (EndsSession work old new)
ends_run work workers old new command outcome result fault left tells told =
    inner_by (IsStrange outcome) (((old.spoiled ≡ true) ⊎ work) × (new.line ≡ old.line))
    (outcome ≡ Err faults.NoThread) (work × (new.line ≡ old.line)) result
    (strange_run work workers old new command outcome fault left tells)
    (unstarted_run work old new outcome left tells) told

-- a command that workers carry out ends the session only where it has work
ends_at_work : {A : Type 0} (workers : ℕ) (old new : Holding) (command : Command)
    (outcome : Result Report Fault) (result : Result A ServeFault)
    → IfErr outcome (IsFault workers old command)
    → IfErr outcome (λ fault. LeavesSession old fault new)
    → IfErr result (IsInner (IsStrange outcome) (outcome ≡ Err faults.NoThread))
    → IfErr result (EndsSession (HasWork old.database old.line command) old new)
ends_at_work workers old new command outcome result fault left told =
    ends_run (HasWork old.database old.line command) workers old new command outcome result fault
    left (tells_work workers old command outcome fault) told

-- a session is poisoned by what is strange alone
spoils_run : {A : Type 0} (workers : ℕ) (Says : ℕ → Way → Outcome → Type 0) (Gives : ℕ → Type 0)
    (old new : Holding) (command : Command) (outcome : Result Report Fault)
    (result : Result A ServeFault)
    → IfOk outcome (λ report. IsCarriedOut workers Says Gives old command (told_of report) new)
    → IfErr outcome (IsFault workers old command)
    → IfErr outcome (λ fault. LeavesSession old fault new)
    → (outcome ≡ Err faults.Strange → result ≡ Err serve.Strange)
    → IfErr result (IsInner (IsStrange outcome) (outcome ≡ Err faults.NoThread))
    → IsSpoiledBy result old new
spoils_run workers Says Gives old new command (Ok report) result done fault left strange told =
    kept_spoils ⊥ (Ok report ≡ Err faults.NoThread) result old new
    (ap (λ (h : Holding). h.spoiled) done.session) (λ none. absurd none) told
spoils_run workers Says Gives old new command (Err faults.Workers) result done fault
    left strange told =
    kept_spoils ⊥ (Err faults.Workers ≡ Err faults.NoThread) result old new
    (ap (λ (h : Holding). h.spoiled) left) (λ none. absurd none) told
spoils_run workers Says Gives old new command (Err faults.NoThread) result done fault
    left strange told =
    kept_spoils ⊥ (Err faults.NoThread ≡ Err faults.NoThread) result old new
    (ap (λ (h : Holding). h.spoiled) left) (λ none. absurd none) told
spoils_run {A} workers Says Gives old new command (Err faults.Strange) result done fault
    left strange told =
    subst (λ (r : Result A ServeFault). IsSpoiledBy r old new) (sym (strange refl))
    (ap (λ (h : Holding). h.spoiled) left)
spoils_run workers Says Gives old new command (Err (faults.Refused refusal)) result done fault
    left strange told =
    kept_spoils (refusal ≡ Strange) (Err (faults.Refused refusal) ≡ Err faults.NoThread) result old
    new (ap (λ (h : Holding). h.spoiled) left)
    (λ is. ap (λ (h : Holding). h.spoiled) left
    ∙ subst (λ (r : Refusal). IsHindrance (IsOwnFault old.database old.line command) old r)
    is fault.1) told

-- what the answer of a command that was run says, and what it leaves
pub record RunEnds (workers : ℕ) (Says : ℕ → Way → Outcome → Type 0) (Gives : ℕ → Type 0)
    (old new : Holding) (command : Command) (result : Result Answer ServeFault) : Type 0 where
  pub met : IfOk result
      (λ answer. EndsCommand (IsDoneAs workers Says Gives) answer.ending old.database old.line
      command answer.text.items new.line)
  pub may : MayMeet (IsDoneBy workers Says Gives) old.database old.line command new.line
  pub stays : Stays old new
  pub fault : IfErr result (EndsSession (HasWork old.database old.line command) old new)
  pub whole : IsSpoiledBy result old new

-- it was said by another name, and told of the names that the session has then
pub run_ends : {workers : ℕ} {Says : ℕ → Way → Outcome → Type 0} {Gives : ℕ → Type 0}
    {old : Holding} (new : Holding) {said command : Command} {names words : List (List ℕ)}
    {outcome : Result Report Fault} {result : Result Answer ServeFault} → said ≡ command
    → old.begun ≡ false → names ≡ new.database.names → words ≡ words_of command
    → IfOk outcome (λ report. IsCarriedOut workers Says Gives old command (told_of report) new)
    → IfErr outcome (IsFault workers old command)
    → IfErr outcome (λ fault. LeavesSession old fault new)
    → IfOk result (λ answer. IsToldAs names words outcome answer.ending answer.text.items)
    → (outcome ≡ Err faults.Strange → result ≡ Err serve.Strange)
    → IfErr result (IsInner (IsStrange outcome) (outcome ≡ Err faults.NoThread))
    → RunEnds workers Says Gives old new said result
run_ends {workers} {Says} {Gives} {old} new {said} {command} {names} {words} {outcome} {result} is
    closed named worded done fault left told strange inner =
    let stays : Stays old new =
    stays_by workers Says Gives old new command outcome done left closed in
    subst (λ (k : Command). RunEnds workers Says Gives old new k result) (sym is) (record {
      met =
          met_by workers Says Gives old new command outcome result done fault left
          (retold names old.database.names words (words_of command) outcome result
          (named ∙ ap (λ (d : Database). d.names) stays.0) worded told);
      may = may_by workers Says Gives old new command outcome done left;
      stays = stays;
      fault = ends_at_work workers old new command outcome result fault left inner;
      whole = spoils_run workers Says Gives old new command outcome result done fault left strange
          inner;
    })

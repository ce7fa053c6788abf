-- Which texts one line puts into a store, and which the two steps of an update.
use Rattle.std.proofs.Common.{◌≡◌, ◌≢◌, ◌∙◌, ◌⊎◌, ◌∷◌, ℕ, Bool, List, [], Option, None, Some}
use Rattle.std.proofs.Common.{Result, Ok, Err, IfErr, IfOk, OnOk, inl, inr, ap, false, refl, subst}
use Rattle.std.proofs.Common.{Contains, sym, true}
use Rattle.clap.specs.Words.{Text as Path}
use Rattle.rc_graph.specs.declared.Way.{Way}
use Rattle.rc_model.specs.Database.{Bundles, Database, IsUnknownAt}
use Rattle.rc_model.specs.Line.{Line}
use Rattle.rc_model.specs.Session.{Change, IsOwnFault, Reported}
use Rattle.rc_model.specs.declared.Mode.{Mode}
use Rattle.rc_model.specs.declared.Mode.TheVariants.{DownAll, Up}
use Rattle.rc_model.specs.declared.Outcome.{Outcome}
use Rattle.rc_model.specs.declared.Refusal.{Refusal}
use Rattle.rc_model.specs.declared.Refusal.TheVariants.{PruneNeedsUp, Unknown}
use Rattle.rc_model.proofs.Members.{contains_at}
use Rattle.rc_session.specs.Holding.{Holding}
use Rattle.rc_script.specs.Says.{Saying, SaysNothing, SaysWrong, SaysStep, SaysDry, SaysLive}
use Rattle.rc_script.specs.Says.{SaysBundles, SaysJournal, saying_of}
use Rattle.rc_livetext.specs.Spelling.{spelling}
use Rattle.rc_serve.specs.declared.ending.Ending.{Ending}
use Rattle.rc_serve.specs.declared.ending.Ending.TheVariants.{Done, Refused, Hindered}
use Rattle.rc_serve.specs.declared.fault.ServeFault.{ServeFault}
use Rattle.rc_serve.specs.Ending.{Ends, EndsIn, IsDoneAs, ending_by, ending_of}
use Rattle.rc_serve.specs.Keeping.{IsKeptOnce}
use Rattle.rc_args.specs.OnceAsked.{OnceSaying, Said, WantsDown, WantsDryRedo, WantsDryRestart}
use Rattle.rc_args.specs.OnceAsked.{WantsDryUndo}
use Rattle.rc_args.specs.UpdateAsked.{UpdateAsk}
use Rattle.rc_update.specs.Carrying.{AreNamesOf}
use Rattle.rc_cli.specs.declared.sessions.keeping.LiveFile.{LiveFile}
use Rattle.rc_cli.specs.declared.sessions.keeping.TextKeeper.{TextKeeper}
use Rattle.rc_cli.specs.declared.sessions.session_fault.SessionFault.{SessionFault}
use Rattle.rc_cli.specs.declared.updating.Ahead.{Ahead}
use Rattle.rc_cli.specs.Filing.{BeginsBy, file_named}
use Rattle.rc_cli.specs.Once.{EndsOnce, IsCommand, ServedOnce, ServesOnce}
use Rattle.rc_cli.specs.Putting.{IsLineDone, IsLineEnded, IsLineFault, IsLineHindered}
use Rattle.rc_cli.specs.Putting.{IsLineSound, LeadsBoth, LeadsLine, LeadsSteps, Putting, PutsLine}
use Rattle.rc_cli.specs.Serving.{session_on}
use Rattle.rc_cli.specs.SessionFaults.{IsEndTold, IsRefusal, IsTold, status_of}
use Rattle.rc_cli.specs.Steps.{ended_by, ending_behind, lowering, raising, step_ask, step_by}
use Rattle.rc_cli.specs.Storing.{store_of}
use Rattle.rc_cli.specs.UpdateEnds.{LeadsOn}
use Rattle.rc_cli.specs.Updating.{IsAhead, LeadsFrom, session_with}

-- one line that is not kept leaves a store alone
alone_puts : {S : Type 0} (Put : Putting S) (path : Option Path) (d : Database) (saying : Saying)
    (here line : Line) (store : S) → (path ≡ None) ⊎ (IsCommand saying → ⊥)
    → PutsLine Put path d (Said saying) here line store store
alone_puts Put path d SaysNothing here line store alone = refl
alone_puts Put path d SaysWrong here line store alone = refl
alone_puts Put None d (SaysStep command) here line store alone = refl
alone_puts Put (Some p) d (SaysStep command) here line store (inl none) = let bad : Some p ≡ None =
    none in cc
alone_puts Put (Some p) d (SaysStep command) here line store (inr never) = absurd (never tt)
alone_puts Put path d (SaysDry ask) here line store alone = refl
alone_puts Put path d SaysLive here line store alone = refl
alone_puts Put path d SaysBundles here line store alone = refl
alone_puts Put path d SaysJournal here line store alone = refl

pub puts_alone : {S A E : Type 0} (Put : Putting S) (path : Option Path) (d : Database)
    (saying : Saying) (here line : Line) (store : S) (result : Result A E)
    → (path ≡ None) ⊎ (IsCommand saying → ⊥)
    → OnOk result (PutsLine Put path d (Said saying) here line store store)
puts_alone Put path d saying here line store (Ok a) alone =
    alone_puts Put path d saying here line store alone
puts_alone Put path d saying here line store (Err e) alone = tt

-- a command is put where the line stands, and then as its keeper keeps what it altered
module _ {S : Type 0} (Put : Putting S) (d : Database) (here line : Line)
    (was middle is : TextKeeper S) where
  abbrev Once : Type 0
  Once = IsKeptOnce (λ old e after new. Put (store_of old) (spelling e after) (store_of new)) d here
      line middle is

  once_puts : Once → IsKeptOnce (λ old e after new. Put old (spelling e after) new) d here line
      (store_of middle) (store_of is)
  once_puts (inl (same, unkept)) = inl (same, ap store_of unkept)
  once_puts (inr (altered, put)) = inr (altered, put)

  command_puts : (path : Option Path) (saying : Saying) → path ≢ None → IsCommand saying
      → Put (store_of was) (spelling d here) (store_of middle) → Once
      → PutsLine Put path d (Said saying) here line (store_of was) (store_of is)
  command_puts path SaysNothing named command first once = absurd command
  command_puts path SaysWrong named command first once = absurd command
  command_puts None (SaysStep done) named command first once = absurd (named refl)
  command_puts (Some p) (SaysStep done) named command first once =
      (store_of middle, first, once_puts once)
  command_puts path (SaysDry ask) named command first once = absurd command
  command_puts path SaysLive named command first once = absurd command
  command_puts path SaysBundles named command first once = absurd command
  command_puts path SaysJournal named command first once = absurd command

  pub puts_command : {A E : Type 0} (path : Option Path) (saying : Saying) (result : Result A E)
      → path ≢ None → IsCommand saying
      → Put (store_of was) (spelling d here) (store_of middle) → OnOk result Once
      → OnOk result (PutsLine Put path d (Said saying) here line (store_of was) (store_of is))
  puts_command path saying (Ok a) named command first once =
      command_puts path saying named command first once
  puts_command path saying (Err e) named command first once = tt

-- how a command ends by its report
reported_end : (failed blocked untried : List ℕ) → (ending_by failed blocked untried ≡ Done)
    ⊎ (ending_by failed blocked untried ≡ Hindered)
reported_end [] [] [] = inl refl
reported_end [] [] (s ∷ more) = inr refl
reported_end [] (s ∷ more) untried = inr refl
reported_end (s ∷ more) blocked untried = inr refl

never_refused : (told : Reported) → Refused ≡ ending_of told → ⊥
never_refused told is = elim (reported_end told.failed told.blocked told.untried) [
  | inl done ↦ let bad : Refused ≡ Done = is ∙ done in cc
  | inr hindered ↦ let bad : Refused ≡ Hindered = is ∙ hindered in cc
]

-- one line that was served ended so
module _ (workers : ℕ) (Answers : ℕ → Way → Outcome → Type 0) (Gives : ℕ → Type 0)
    (d : Database) (here : Line) (text : List ℕ) (new : Line) where
  abbrev As : EndsIn
  As = IsDoneAs workers Answers Gives

  ends_done : (saying : Saying) → Ends As Done d here saying text new
      → IsLineDone d here (Said saying) new
  ends_done SaysNothing ends = ends.1.1
  ends_done SaysWrong ends = ends.1.1
  ends_done (SaysStep command) (inl (events, told, made, does, is, ends)) =
      (events, told, does, sym ends)
  ends_done (SaysStep command) (inr (refused, why)) = let bad : Done ≡ Refused = refused in cc
  ends_done (SaysDry ask) ends = ends.1
  ends_done SaysLive ends = ends.1.1
  ends_done SaysBundles ends = ends.1.1
  ends_done SaysJournal ends = ends.1.1

  ends_hindered : (saying : Saying) → Ends As Hindered d here saying text new
      → IsLineHindered d here (Said saying) new
  ends_hindered SaysNothing ends = let bad : Hindered ≡ Done = ends.0 in cc
  ends_hindered SaysWrong ends = let bad : Hindered ≡ Refused = ends.0 in cc
  ends_hindered (SaysStep command) (inl (events, told, made, does, is, ends)) =
      (events, told, does, sym ends)
  ends_hindered (SaysStep command) (inr (refused, why)) =
      let bad : Hindered ≡ Refused = refused in cc
  ends_hindered (SaysDry ask) ends = elim ends.0 [
    | inl done ↦ let bad : Hindered ≡ Done = done.0 in cc
    | inr refused ↦ let bad : Hindered ≡ Refused = refused.0 in cc
  ]
  ends_hindered SaysLive ends = let bad : Hindered ≡ Done = ends.0 in cc
  ends_hindered SaysBundles ends = let bad : Hindered ≡ Done = ends.0 in cc
  ends_hindered SaysJournal ends = let bad : Hindered ≡ Done = ends.0 in cc

  ends_refused : (saying : Saying) → Ends As Refused d here saying text new
      → IsLineFault d here (Said saying) × (new ≡ here)
  ends_refused SaysNothing ends = let bad : Refused ≡ Done = ends.0 in cc
  ends_refused SaysWrong ends = (tt, ends.1.1)
  ends_refused (SaysStep command) (inl (events, told, made, does, is, ends)) =
      absurd (never_refused told ends)
  ends_refused (SaysStep command) (inr refused) = ((refused.1.0, refused.1.1), refused.1.3)
  ends_refused (SaysDry ask) ends = elim ends.0 [
    | inl done ↦ let bad : Refused ≡ Done = done.0 in cc
    | inr refused ↦ ((refused.1.0, refused.1.1), ends.1)
  ]
  ends_refused SaysLive ends = let bad : Refused ≡ Done = ends.0 in cc
  ends_refused SaysBundles ends = let bad : Refused ≡ Done = ends.0 in cc
  ends_refused SaysJournal ends = let bad : Refused ≡ Done = ends.0 in cc

  -- what is only shown is done or refused
  shown_done : (P Q : Type 0) → ((Hindered ≡ Done) × P) ⊎ ((Hindered ≡ Refused) × Q) → ⊥
  shown_done P Q (inl done) = let bad : Hindered ≡ Done = done.0 in cc
  shown_done P Q (inr refused) = let bad : Hindered ≡ Refused = refused.0 in cc

  once_ended : (ending : Ending) (what : OnceSaying) → EndsOnce As ending d here what text new
      → IsLineEnded ending d here what new
  once_ended Done (Said saying) ends = ends_done saying ends
  once_ended Done WantsDryUndo ends = ends.1
  once_ended Done WantsDryRedo ends = ends.1
  once_ended Done (WantsDryRestart names) ends = ends.1
  once_ended Done WantsDown ends = ends.1
  once_ended Refused (Said saying) ends = ends_refused saying ends
  once_ended Refused WantsDryUndo ends = (tt, ends.1)
  once_ended Refused WantsDryRedo ends = (tt, ends.1)
  once_ended Refused (WantsDryRestart names) ends = (tt, ends.1)
  once_ended Refused WantsDown ends = (tt, ends.1)
  once_ended Hindered (Said saying) ends = ends_hindered saying ends
  once_ended Hindered WantsDryUndo ends = absurd (shown_done _ _ ends.0)
  once_ended Hindered WantsDryRedo ends = absurd (shown_done _ _ ends.0)
  once_ended Hindered (WantsDryRestart names) ends = absurd (shown_done _ _ ends.0)
  once_ended Hindered WantsDown ends = let bad : Hindered ≡ Done = ends.0.0 in cc

pub line_ended : (workers : ℕ) (Answers : ℕ → Way → Outcome → Type 0) (Gives : ℕ → Type 0)
    (path : Option Path) (was is : Option (List ℕ)) (what : OnceSaying)
    (written gained : Option (List ℕ)) (old new : Holding) (told ending : Ending) → told ≡ ending
    → ServesOnce path was is (IsDoneAs workers Answers Gives) told what written gained
    old new → IsLineEnded ending old.database old.line what new.line
line_ended workers Answers Gives path was is what written gained old new told ending same serves =
    once_ended workers Answers Gives old.database old.line serves.text new.line ending what
    (subst (λ (e : Ending). EndsOnce (IsDoneAs workers Answers Gives) e old.database old.line what
    serves.text new.line) same serves.ends)

-- one line that was served, to its end, has led its store so
pub once_leads : {S : Type 0} (Put : Putting S) (path : Option Path) (workers : ℕ)
    (Answers : ℕ → Way → Outcome → Type 0) (Gives : ℕ → Type 0)
    (held holds written gained : Option (List ℕ)) (what : OnceSaying) (old new : Holding)
    (was is : S) (ending : Ending) (result : Result Ending ServeFault) → result ≡ Ok ending
    → ServedOnce result path held holds (IsDoneAs workers Answers Gives) what written gained
    old new → OnOk result (PutsLine Put path old.database what old.line new.line was is)
    → LeadsLine Put path ending old.database what old.line new.line was is
once_leads Put path workers Answers Gives held holds written gained what old new was is ending
    (Ok told) same served put = (
      line_ended workers Answers Gives path held holds what written gained old new told ending
          (subst (λ (r : Result Ending ServeFault). IfOk r (λ e. told ≡ e)) same refl) served,
      put,
    )
once_leads Put path workers Answers Gives held holds written gained what old new was is ending
    (Err fault) same served put =
    let bad : ◌≡◌ {A = Result Ending ServeFault} (Err fault) (Ok ending) = same in cc

-- two lines, the second one on another session, of which the first one is done and neither is
-- refused
module _ {S : Type 0} (Put : Putting S) (Enters : S → S → Type 0) (path : Option Path)
    (what then : Saying) (from middle to after : Holding) (was left entered is : S)
    (first : LeadsLine Put path Done from.database (Said what) from.line middle.line was left)
    (enters : Enters left entered)
    (sound : IsLineSound to (Said then)) where
  leads_both : (ending : Ending)
      → LeadsLine Put path ending to.database (Said then) to.line after.line entered is
      → LeadsBoth Put Enters path ending (Said what) (Said then) from to was is
  leads_both ending second = record {
    middle = middle.line;
    after = after.line;
    left = left;
    entered = entered;
    first = first;
    enters = enters;
    second = second;
  }

  pub both_lead : (workers : ℕ) (Answers : ℕ → Way → Outcome → Type 0) (Gives : ℕ → Type 0)
      (held holds written gained : Option (List ℕ)) (result raised : Result Ending ServeFault)
      → result ≡ ended_by ending_behind raised
      → ServedOnce raised path held holds (IsDoneAs workers Answers Gives) (Said then) written
      gained to after
      → OnOk raised (PutsLine Put path to.database (Said then) to.line after.line entered is)
      → IfOk result (λ ending. LeadsSteps Put Enters path ending (Said what) (Said then) from to was
      is)
  both_lead workers Answers Gives held holds written gained result (Ok Done) ends serves second =
      rw ends (leads_both Done (once_leads Put path workers Answers Gives held holds written gained
      (Said then) to after entered is Done (Ok Done) refl serves second))
  both_lead workers Answers Gives held holds written gained result (Ok Refused) ends serves second =
      absurd (sound (once_leads Put path workers Answers Gives held holds written gained
      (Said then) to after entered is Refused (Ok Refused) refl serves second).0.0)
  both_lead workers Answers Gives held holds written gained result (Ok Hindered) ends serves
      second =
      rw ends (inr (leads_both Hindered (once_leads Put path workers Answers Gives held holds
      written gained (Said then) to after entered is Hindered (Ok Hindered) refl serves second)))
  both_lead workers Answers Gives held holds written gained result (Err fault) ends serves second =
      rw ends tt

-- an update whose steps lead so leads so from where its session begins
module _ {S : Type 0} (Put : Putting S) (Enters : S → S → Type 0) (ask : UpdateAsk)
    (ending : Ending) (new : Database) (was is : S) where
  pub leads_from : (stands from : Holding) (ahead : Ahead) → stands ≡ from
      → IsAhead ask from new ahead
      → LeadsSteps Put Enters ask.session.live ending (Said (saying_of ahead.lowering))
      (Said (saying_of ahead.raising)) stands ahead.to was is
      → LeadsFrom Put Enters ask ending from new was is
  leads_from stands from ahead same there leads = (
    there.parts,
    there.update,
    subst (λ (h : Holding). LeadsSteps Put Enters ask.session.live ending
        (lowering ask.dry there.parts.lower) (raising ask.dry there.parts.raise) from h was is)
        there.to
        (subst (λ (t : OnceSaying). LeadsSteps Put Enters ask.session.live ending
        (lowering ask.dry there.parts.lower) t from ahead.to was is) there.raises
        (subst (λ (w : OnceSaying). LeadsSteps Put Enters ask.session.live ending w
        (Said (saying_of ahead.raising)) from ahead.to was is) there.lowers
        (subst (λ (h : Holding). LeadsSteps Put Enters ask.session.live ending
        (Said (saying_of ahead.lowering)) (Said (saying_of ahead.raising)) h ahead.to was is)
        same leads))),
  )

  pub leads_on : (file : LiveFile) (old : Database) (from : Holding) → ((start : Line)
      × BeginsBy old ask.session.bound (file_named ask.session.live file) start
      × (from ≡ session_on old start))
      → LeadsFrom Put Enters ask ending from new was is
      → LeadsOn Put Enters ask file ending old new was is
  leads_on file old from (start, begins, stands) leads = (
    start,
    begins,
    subst (λ (h : Holding). LeadsFrom Put Enters ask ending h new was is) stands leads,
  )

-- words that are names of a database are unknown at no place
known_words : (names : List (List ℕ)) (table : Bundles) (words : List (List ℕ)) (place : ℕ)
    → ((word : List ℕ) → Contains words word → Contains names word)
    → IsUnknownAt names table words place → ⊥
known_words names table words place known (word, there, unknown, before) =
    unknown (inl (known word (contains_at words place word there)))

-- a change of names that a database has, which names all that it moves, has no fault of its own
named_fault : (d : Database) (here : Line) (mode : Mode) (names : List (List ℕ)) (In : ℕ → Type 0)
    (refusal : Refusal) → AreNamesOf d In names
    → IsOwnFault d here (Change (step_ask mode names) []) refusal → ⊥
named_fault d here mode names In PruneNeedsUp are fault = let bad : false ≡ true = fault.0 in cc
named_fault d here mode names In (Unknown place) are fault =
    known_words d.names here.current.table names place
    (λ word there. let named = (are.same word).0 there in
    contains_at d.names named.0 word named.1) fault.1
named_fault d here mode names In other are fault = absurd fault

line_sound : (d : Database) (here : Line) (dry : Bool) (mode : Mode) (names : List (List ℕ))
    (In : ℕ → Type 0) → AreNamesOf d In names
    → IsLineFault d here (Said (step_by dry (step_ask mode names))) → ⊥
line_sound d here true mode names In are (refusal, fault) =
    named_fault d here mode names In refusal are fault
line_sound d here false mode names In are (refusal, fault) =
    named_fault d here mode names In refusal are fault

-- the lines of both steps of an update have none
module _ (ask : UpdateAsk) (from : Holding) (new : Database) (ahead : Ahead)
    (there : IsAhead ask from new ahead) where
  pub lowers_soundly : (stands : Holding) → stands ≡ from
      → IsLineSound stands (Said (saying_of ahead.lowering))
  lowers_soundly stands same fault = line_sound from.database from.line ask.dry DownAll
      there.parts.lower _ there.update.lower
      (subst (λ (w : OnceSaying). IsLineFault from.database from.line w) there.lowers
      (subst (λ (h : Holding). IsLineFault h.database h.line (Said (saying_of ahead.lowering))) same
      fault))

  pub raises_soundly : IsLineSound ahead.to (Said (saying_of ahead.raising))
  raises_soundly fault =
      let to = session_with new there.parts from in
      line_sound to.database to.line ask.dry Up there.parts.raise _ there.update.raise
      (subst (λ (w : OnceSaying). IsLineFault to.database to.line w) there.raises
      (subst (λ (h : Holding). IsLineFault h.database h.line (Said (saying_of ahead.raising)))
      there.to fault))

-- a status is that of one ending
pub one_ending : (one other : Ending) (status : ℕ) → status ≡ status_of one
    → status ≡ status_of other → one ≡ other
one_ending Done Done status one other = refl
one_ending Refused Refused status one other = refl
one_ending Hindered Hindered status one other = refl
one_ending Done Refused status one other = let bad : ◌≡◌ {A = ℕ} 0 1 = sym one ∙ other in cc
one_ending Done Hindered status one other = let bad : ◌≡◌ {A = ℕ} 0 2 = sym one ∙ other in cc
one_ending Refused Done status one other = let bad : ◌≡◌ {A = ℕ} 1 0 = sym one ∙ other in cc
one_ending Refused Hindered status one other = let bad : ◌≡◌ {A = ℕ} 1 2 = sym one ∙ other in cc
one_ending Hindered Done status one other = let bad : ◌≡◌ {A = ℕ} 2 0 = sym one ∙ other in cc
one_ending Hindered Refused status one other =
    let bad : ◌≡◌ {A = ℕ} 2 1 = sym one ∙ other in cc

-- a fault that is told with the status of an ending is a refusal
pub told_refused : (fault : SessionFault) (status : ℕ) (before after : Option (List ℕ))
    (ending : Ending) → IsTold fault status before after → status ≡ status_of ending
    → (ending ≡ Refused) × IsRefusal fault
told_refused fault status before after ending (inl told) same =
    (one_ending ending Refused status same told.0, told.1)
told_refused fault status before after Done (inr told) same =
    let bad : ◌≡◌ {A = ℕ} 111 0 = sym told.0 ∙ same in cc
told_refused fault status before after Refused (inr told) same =
    let bad : ◌≡◌ {A = ℕ} 111 1 = sym told.0 ∙ same in cc
told_refused fault status before after Hindered (inr told) same =
    let bad : ◌≡◌ {A = ℕ} 111 2 = sym told.0 ∙ same in cc

-- what is told with the status of an ending ended so, or is a refusal
pub told_ended : (result : Result Ending SessionFault) (status : ℕ)
    (before after : Option (List ℕ)) (ending : Ending) (P : Ending → Type 0) (Q : Type 0)
    → IsEndTold result status before after → status ≡ status_of ending → IfOk result P
    → IfErr result (λ fault. IsRefusal fault → Q) → ((ending ≡ Refused) × Q) ⊎ P ending
told_ended (Ok told) status before after ending P Q is same leads alone =
    inr (subst (λ (e : Ending). P e) (one_ending told ending status is.0 same) leads)
told_ended (Err fault) status before after ending P Q is same leads alone =
    let refused = told_refused fault status before after ending is same in
    inl (refused.0, alone refused.1)

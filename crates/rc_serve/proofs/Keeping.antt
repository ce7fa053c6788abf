-- What is kept as lines are met, and that the line of states has altered exactly where its current
-- state has.
use Rattle.std.proofs.Common.{◌≡◌, ◌≢◌, ◌∙◌, ◌⊎◌, ◌↔◌, inl, inr, ℕ, Bool, List, [], ◌∷◌, ◌++◌}
use Rattle.std.proofs.Common.{Option, Some, None, Result, Ok, Err, IfErr, IfOk, IsTrue, true, false}
use Rattle.std.proofs.Common.{OnOk}
use Rattle.std.proofs.Common.{refl, ap, sym, subst, append_assoc, length}
use Rattle.std.specs.Prelude.{MatchOption, MatchResult}
use Rattle.rc_graph.specs.declared.Way.{Way}
use Rattle.rc_model.specs.declared.Outcome.{Outcome}
use Rattle.rc_model.specs.Database.{Bundles, Database}
use Rattle.rc_model.specs.Line.{State, Line, IsLine, IsNext, states, MovesTo, MovesByUndo}
use Rattle.rc_model.specs.Line.{MovesByRedo, put_between, put_last, with_live}
use Rattle.rc_model.proofs.Fitting.{fitted_current}
use Rattle.rc_line.proofs.Fronts.{differs_from_next}
use Rattle.rc_line.proofs.Steps.{same_state}
use Rattle.rc_model.specs.Session.{Command, Change, Undo, Redo, Add, Delete, IsLineOf}
use Rattle.rc_session.specs.Holding.{Holding}
use Rattle.rc_session.proofs.States.{current_state}
use Rattle.rc_serve.specs.declared.fault.ServeFault.{ServeFault}
use Rattle.rc_serve.specs.declared.fault.ServeFault.TheVariants.{Read, Write, TooLong, Memory}
use Rattle.rc_serve.specs.declared.fault.ServeFault.TheVariants.{NoThread, Strange, Workers, Io}
use Rattle.rc_serve.specs.declared.keeper.KeepFault.{KeepFault}
use Rattle.rc_serve.specs.declared.keeper.KeepFault.TheVariants as keep
use Rattle.rc_script.specs.Says.{Saying, SaysNothing, SaysWrong, SaysStep, SaysDry, SaysLive}
use Rattle.rc_script.specs.Says.{SaysBundles, SaysJournal}
use Rattle.rc_serve.specs.declared.ending.Answer.{Answer}
use Rattle.rc_serve.specs.Faults.{EndsSession, IsSpoiledBy, Spoils}
use Rattle.rc_serve.specs.Keeping.{Keeping, IsBefore, IsKeptAs, IsKeptOn, IsKeptUp, IsOfKeeping}
use Rattle.rc_serve.specs.Keeping.{IsKeptOnce, IsStill, of_keeping}
use Rattle.rc_serve.specs.Meeting.{IsDoneBy, MayMeet, MayMeetSaying}

-- where a line ends the session, what it leaves is kept, or keeping it has failed, and what was
-- kept is kept
abbrev pub IsKeptOrFails : ServeFault → (May : KeepFault → Type 0) → (was is : Keeping) → Database
    → (here line : Line) → Type 0
IsKeptOrFails fault May was is d here line =
    IsKeptUp was is d here line ⊎ (IsOfKeeping May fault × IsKeptOn was is)

-- what a line leaves is kept before its answer is handed out
abbrev pub KeepsLine : {A : Type 0} → Result A ServeFault → (May : KeepFault → Type 0)
    → (was is : Keeping) → Database → (here line : Line) → Type 0
KeepsLine result May was is d here line = MatchResult result
    (λ _. IsKeptUp was is d here line) (λ fault. IsKeptOrFails fault May was is d here line)

-- a line ends the session, as it could not be kept or as else
abbrev pub EndsLine : (keeper work : Type 0) → (old new : Holding) → ServeFault → Type 0
EndsLine keeper work old new fault = ((fault ≡ Io) × keeper) ⊎ EndsSession work old new fault

pub kept_on : (k : Keeping) → IsKeptOn k k
kept_on k d line = (λ x. x, λ x. x)

-- nothing was altered
pub kept_none : (k : Keeping) (d : Database) (line : Line) → IsKeptUp k k d line line
kept_none k d line = inr (kept_on k, refl)

-- one line after another
pub kept_more : (first was is : Keeping) (d : Database) (begun here line : Line)
    → IsKeptUp first was d begun here → IsKeptUp was is d here line → IsKeptUp first is d begun line
kept_more first was is d begun here line before (inl kept) = inl kept
kept_more first was is d begun here line (inl kept) (inr (on, same)) =
    inl (subst (λ (l : Line). is d l) (sym same) ((on d here).0 kept))
kept_more first was is d begun here line (inr (alike, still)) (inr (on, same)) =
    inr (
      λ e l. (λ x. (on e l).0 ((alike e l).0 x), λ x. (alike e l).1 ((on e l).1 x)),
      same ∙ still,
    )

-- neighbours differ
back_differs : (back line : Line) → IsNext back line → IsLine line → back.current ≢ line.current
back_differs back line next is =
    differs_from_next back.before back.current line.current line.after (states line) is.held.differ
    (sym (ap (λ (held : List State). held ++ line.current ∷ line.after) next.left
    ∙ append_assoc back.before (back.current ∷ []) (line.current ∷ line.after)))

on_differs : (line on : Line) → IsNext line on → IsLine line → line.current ≢ on.current
on_differs line on next is =
    differs_from_next line.before line.current on.current on.after (states line) is.held.differ
    (ap (λ (held : List State). line.before ++ line.current ∷ held) (sym next.reached))

ends_still : (line : Line) (end : State) (new : Line) → MovesTo line end new
    → new.current ≡ line.current → new ≡ line
ends_still line end new (inl stays) same = stays.1
ends_still line end new (inr moves) same =
    absurd
    (moves.0 (sym (ap (λ (l : Line). l.current) moves.1 ∙ fitted_current (put_last line end))
    ∙ same))

undo_still : (line : Line) (live : List Bool) (new : Line) → IsLine line → MovesByUndo line live new
    → new.current ≡ line.current → new ≡ line
undo_still line live new is (back, next, inl (there, moves)) same =
    absurd (back_differs back line next is (sym (ap (λ (l : Line). l.current) moves) ∙ same))
undo_still line live new is (back, next, inr (inl stays)) same = stays.2
undo_still line live new is (back, next, inr (inr moves)) same =
    absurd
    (moves.1 (ap (λ (s : State). s.live)
    (sym (ap (λ (l : Line). l.current) moves.2
    ∙ fitted_current (put_between back (with_live line live) line)) ∙ same)))

redo_still : (line : Line) (live : List Bool) (new : Line) → IsLine line → MovesByRedo line live new
    → new.current ≡ line.current → new ≡ line
redo_still line live new is (on, next, inl (there, moves)) same =
    absurd (on_differs line on next is (sym same ∙ ap (λ (l : Line). l.current) moves))
redo_still line live new is (on, next, inr (inl stays)) same = stays.2
redo_still line live new is (on, next, inr (inr moves)) same =
    absurd
    (moves.1 (ap (λ (s : State). s.live)
    (sym (ap (λ (l : Line). l.current) moves.2
    ∙ fitted_current (put_between line (with_live line live) on)) ∙ same)))

module _ (workers : ℕ) (Answers : ℕ → Way → Outcome → Type 0) (Gives : ℕ → Type 0) (d : Database)
    (here : Line) (of : IsLineOf d here) where
  done_still : (command : Command) (text : List ℕ) (new : Line)
      → IsDoneBy workers Answers Gives d here command text new → new.current ≡ here.current
      → new ≡ here
  done_still (Change ask old) text new (events, told, made, inl run, is) same =
      ends_still here (record { live = run.live; table = here.current.table }) new run.moved same
  done_still (Undo limit old) text new (events, told, made, inl run, is) same =
      undo_still here run.live new of.is_line run.moved same
  done_still (Redo limit old) text new (events, told, made, inl run, is) same =
      redo_still here run.live new of.is_line run.moved same
  done_still (Add name contents force) text new (events, told, made, inl run, is) same =
      absurd run.task
  done_still (Delete words force) text new (events, told, made, inl run, is) same = absurd run.task
  done_still command text new (events, told, made, inr edit, is) same =
      ends_still here (record { live = here.current.live; table = edit.table }) new edit.moved same

  met_still : (command : Command) (new : Line)
      → MayMeet (IsDoneBy workers Answers Gives) d here command new → new.current ≡ here.current
      → new ≡ here
  met_still command new (inl still) same = still
  met_still command new (inr (text, inl done)) same = done_still command text new done same
  met_still command new (inr (text, inr refused)) same = refused.3

  step_still : (before : Option (List Bool × Bundles)) (command : Command) (new : Line)
      → IsBefore before (SaysStep command) here
      → MayMeet (IsDoneBy workers Answers Gives) d here command new → IsStill before new
      → new ≡ here
  step_still None command new begins may still = absurd (begins command refl)
  step_still (Some state) command new begins may still =
      met_still command new may
      (same_state new.current here.current (still.0 ∙ begins.0) (still.1 ∙ begins.1))

  -- where the current state is as it was before, so is the line
  pub line_still : (before : Option (List Bool × Bundles)) (saying : Saying) (new : Line)
      → IsBefore before saying here
      → MayMeetSaying (IsDoneBy workers Answers Gives) d here saying new → IsStill before new
      → new ≡ here
  line_still before (SaysStep command) new begins may still =
      step_still before command new begins may still
  line_still before SaysNothing new begins (inl same) still = same
  line_still before SaysNothing new begins (inr met) still = met.1.1
  line_still before SaysWrong new begins (inl same) still = same
  line_still before SaysWrong new begins (inr met) still = met.1.1
  line_still before (SaysDry ask) new begins (inl same) still = same
  line_still before (SaysDry ask) new begins (inr met) still = met.1.1
  line_still before SaysLive new begins (inl same) still = same
  line_still before SaysLive new begins (inr met) still = met.1.1
  line_still before SaysBundles new begins (inl same) still = same
  line_still before SaysBundles new begins (inr met) still = met.1.1
  line_still before SaysJournal new begins (inl same) still = same
  line_still before SaysJournal new begins (inr met) still = met.1.1

-- a line whose current state is another than before has altered
pub is_altered : (before : Option (List Bool × Bundles)) (saying : Saying) (here new : Line)
    → IsBefore before saying here → (IsStill before new → ⊥) → new ≡ here → ⊥
is_altered None saying here new begins other same = other tt
is_altered (Some state) saying here new begins other same = other (
  ap (λ (l : Line). l.current.live) same ∙ sym begins.0,
  ap (λ (l : Line). l.current.table) same ∙ sym begins.1,
)

-- where there is no state from before, none is another
pub still_none : (before : Option (List Bool × Bundles)) (line : Line)
    → ((state : List Bool × Bundles) → before ≡ Some state → ⊥) → IsStill before line
still_none None line never = tt
still_none (Some state) line never = absurd (never state refl)

-- where there is one, it is compared
pub still_as : (before : Option (List Bool × Bundles)) (live : List Bool) (table : Bundles)
    (line : Line) → before ≡ Some (live, table)
    → ((line.current.live ≡ live) × (line.current.table ≡ table)) ↔ IsStill before line
still_as before live table line is =
    subst (λ (b : Option (List Bool × Bundles)).
    ((line.current.live ≡ live) × (line.current.table ≡ table)) ↔ IsStill b line) (sym is)
    (λ x. x, λ x. x)

-- and is another where the test says so
pub other_as : (before : Option (List Bool × Bundles)) (live : List Bool) (table : Bundles)
    (line : Line) (test : Bool) → before ≡ Some (live, table)
    → (IsTrue test ↔ ((line.current.live ≡ live) × (line.current.table ≡ table)))
    → test ≡ false → IsStill before line → ⊥
other_as before live table line test is so other still =
    let bad : true ≡ false = sym (so.1 ((still_as before live table line is).1 still)) ∙ other in cc

-- what holds also holds where there is an answer
pub on_ok : {A E : Type 0} (P : Type 0) (result : Result A E) → P → OnOk result P
on_ok P (Ok a) holds = holds
on_ok P (Err e) holds = tt

-- a line that is not altered is not kept again, and one that is altered is kept
pub kept_once : {S : Type 0} (Went : S → Database → Line → S → Type 0)
    (before : Option (List Bool × Bundles)) (saying : Saying) (d e : Database) (here line : Line)
    (was is : S) → IsBefore before saying here → e ≡ d → (IsStill before line → line ≡ here)
    → (IsStill before line × (is ≡ was)) ⊎ ((IsStill before line → ⊥) × Went was e line is)
    → IsKeptOnce Went d here line was is
kept_once Went before saying d e here line was is begins same still (inl (on, unkept)) =
    inl (still on, unkept)
kept_once Went before saying d e here line was is begins same still (inr (altered, went)) = inr (
  is_altered before saying here line begins altered,
  subst (λ (b : Database). Went was b line is) same went,
)

-- both live sets are of the same services
pub same_size : (before : Option (List Bool × Bundles)) (saying : Saying) (d e : Database)
    (here line : Line) → IsBefore before saying here → e ≡ d → IsLineOf d here → IsLineOf e line
    → MatchOption before (Unit {0}) (λ state. length state.0 ≡ length line.current.live)
same_size None saying d e here line begins same of is = tt
same_size (Some state) saying d e here line begins same of is =
    ap length begins.0
    ∙ sym ((current_state e line is).bound ∙ ap (λ (b : Database). length b.names) same
    ∙ sym (current_state d here of).bound)

-- what a line leaves where it is as it was
still_keeps : {A : Type 0} (result : Result A ServeFault) (May : KeepFault → Type 0)
    (k : Keeping) (d : Database) (here line : Line) → line ≡ here
    → KeepsLine result May k k d here line
still_keeps (Ok a) May k d here line still = inr (kept_on k, still)
still_keeps (Err fault) May k d here line still = inl (inr (kept_on k, still))

-- and where it was kept
line_kept : {A : Type 0} (result : Result A ServeFault) (May : KeepFault → Type 0)
    (was is : Keeping) (d e : Database) (here line : Line) → e ≡ d → is e line
    → KeepsLine result May was is d here line
line_kept (Ok a) May was is d e here line same kept =
    inl (subst (λ (b : Database). is b line) same kept)
line_kept (Err fault) May was is d e here line same kept =
    inl (inl (subst (λ (b : Database). is b line) same kept))

-- keeping has failed
of_keeping_is : (May : KeepFault → Type 0) (fault : KeepFault) → May fault
    → IsOfKeeping May (of_keeping fault)
of_keeping_is May keep.Io so = so
of_keeping_is May keep.Memory so = so

keep_failed : (May : KeepFault → Type 0) (fault : KeepFault) (was is : Keeping) (d e : Database)
    (here line : Line)
    → e ≡ d → May fault → IsKeptOn was is ⊎ is e line
    → IsKeptOrFails (of_keeping fault) May was is d here line
keep_failed May fault was is d e here line same so (inl on) = inr (of_keeping_is May fault so, on)
keep_failed May fault was is d e here line same so (inr kept) =
    inl (inl (subst (λ (b : Database). is b line) same kept))

keep_ends : (failed work : Type 0) (fault : KeepFault) (old new : Holding)
    → (fault ≡ keep.Io → failed) → EndsLine failed work old new (of_keeping fault)
keep_ends failed work keep.Io old new so = inl (refl, so refl)
keep_ends failed work keep.Memory old new so = inr tt

-- a fault of a command is one of a line
ends_line : {A : Type 0} (keeper work : Type 0) (result : Result A ServeFault)
    (old new : Holding) → IfErr result (EndsSession work old new)
    → IfErr result (EndsLine keeper work old new)
ends_line keeper work (Ok a) old new end = tt
ends_line keeper work (Err fault) old new end = inr end

-- a line that has altered was no strange one
altered_sound : {A : Type 0} (work : Type 0) (result : Result A ServeFault) (old new : Holding)
    → IfErr result (EndsSession work old new) → IsSpoiledBy result old new
    → (new.line ≡ old.line → ⊥) → new.spoiled ≡ old.spoiled
altered_sound work (Ok a) old new end spoils moved = spoils
altered_sound work (Err Read) old new end spoils moved = spoils
altered_sound work (Err Write) old new end spoils moved = spoils
altered_sound work (Err TooLong) old new end spoils moved = spoils
altered_sound work (Err Memory) old new end spoils moved = spoils
altered_sound work (Err NoThread) old new end spoils moved = spoils
altered_sound work (Err Strange) old new end spoils moved = absurd (moved end.1)
altered_sound work (Err Workers) old new end spoils moved = spoils
altered_sound work (Err Io) old new end spoils moved = spoils

keep_spoils : (fault : KeepFault) (old new : Holding) → new.spoiled ≡ old.spoiled
    → Spoils (of_keeping fault) old new
keep_spoils keep.Io old new same = same
keep_spoils keep.Memory old new same = same

-- what a line that was carried out leaves, as its answer is handed on
pub record IsHanded {S : Type 0} (keeps : S → Keeping) (failed : S → Type 0)
    (May : KeepFault → Type 0) (was is : S) (old new : Holding) (work : Type 0)
    (Good : Answer → Type 0) (result : Result Answer ServeFault) : Type 0 where
  pub kept : KeepsLine result May (keeps was) (keeps is) old.database old.line new.line
  pub good : IfOk result Good
  pub ends : IfErr result (EndsLine (failed is) work old new)
  pub spoils : IsSpoiledBy result old new
  pub unaltered : new.line ≡ old.line → is ≡ was

-- it is handed on where nothing was altered, or as what was altered is kept
pub handed_on : {S : Type 0} (keeps : S → Keeping) (failed : S → Type 0)
    (May : KeepFault → Type 0) (was is : S) (before : Option (List Bool × Bundles))
    (saying : Saying) (old new : Holding) (work : Type 0) (Good : Answer → Type 0)
    (answer result shown : Result Answer ServeFault) → IsBefore before saying old.line
    → new.database ≡ old.database → (IsStill before new.line → new.line ≡ old.line)
    → (IsStill before new.line × (result ≡ answer) × (is ≡ was))
    ⊎ ((IsStill before new.line → ⊥) × IsKeptAs answer result May (failed is) (keeps was)
    (keeps is) new.database new.line) → IfOk answer Good
    → IfErr answer (EndsSession work old new) → IsSpoiledBy answer old new → result ≡ shown
    → IsHanded keeps failed May was is old new work Good shown
handed_on {S} keeps failed May was is before saying old new work Good answer result shown begins
    same still (inl (on, handed, unkept)) good ends spoils shows =
    subst (λ (r : Result Answer ServeFault). IsHanded keeps failed May was is old new work Good r)
    (sym handed ∙ shows) (record {
      kept =
          subst (λ (k : S). KeepsLine answer May (keeps was) (keeps k) old.database old.line
          new.line) (sym unkept)
          (still_keeps answer May (keeps was) old.database old.line new.line (still on));
      good = good;
      ends = ends_line (failed is) work answer old new ends;
      spoils = spoils;
      unaltered = λ unmoved. unkept;
    })
handed_on {S} keeps failed May was is before saying old new work Good answer result shown begins
    same still (inr (altered, inl (handed, kept))) good ends spoils shows =
    subst (λ (r : Result Answer ServeFault). IsHanded keeps failed May was is old new work Good r)
    (sym handed ∙ shows) (record {
      kept =
          line_kept answer May (keeps was) (keeps is) old.database new.database old.line new.line
          same kept;
      good = good;
      ends = ends_line (failed is) work answer old new ends;
      spoils = spoils;
      unaltered = λ unmoved.
          absurd (is_altered before saying old.line new.line begins altered unmoved);
    })
handed_on {S} keeps failed May was is before saying old new work Good answer result shown begins
    same still (inr (altered, inr (fault, is_err, may, io, left))) good ends spoils shows =
    subst (λ (r : Result Answer ServeFault). IsHanded keeps failed May was is old new work Good r)
    (sym is_err ∙ shows) (record {
      kept =
          keep_failed May fault (keeps was) (keeps is) old.database new.database old.line new.line
          same may left;
      good = tt;
      ends = keep_ends (failed is) work fault old new io;
      spoils =
          keep_spoils fault old new
          (altered_sound work answer old new ends spoils
          (is_altered before saying old.line new.line begins altered));
      unaltered = λ unmoved.
          absurd (is_altered before saying old.line new.line begins altered unmoved);
    })

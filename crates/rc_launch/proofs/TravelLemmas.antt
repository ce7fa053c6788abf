-- What is launched as an undo or a redo of one line is a run inside the present generation of a
-- history, or is refused.
use Rattle.std.proofs.Common.{◌≡◌, ◌≢◌, ◌⊎◌, ◌∙◌, ℕ, Bool, true, false, not, List, []}
use Rattle.std.proofs.Common.{◌∷◌, Option, None, Some, IfSome, Result, Ok, Err, inl, inr, refl}
use Rattle.std.proofs.Common.{subst, sym, ap, arith}
use Rattle.std.proofs.lemmas.Bool.{and_parts, false≢true}
use Rattle.std.specs.Borrow.{Bor}
use Rattle.rc_model.specs.declared.Event.{Event}
use Rattle.rc_model.specs.Database.{Database, IsDatabase}
use Rattle.rc_model.specs.Line.{Line}
use Rattle.rc_model.specs.Names.{Holds}
use Rattle.rc_model.specs.Session.{Command, Does, IsLineOf, Reported}
use Rattle.rc_model.specs.Headline.{HasRun, TargetOfCommand}
use Rattle.rc_db.specs.Database.{IsWritable}
use Rattle.rc_dbtext.specs.Spelling.{spelling as database_text}
use Rattle.rc_session.specs.Commands.{with_events}
use Rattle.rc_session.specs.Holding.{Holding}
use Rattle.rc_script.specs.Says.{SaysStep}
use Rattle.rc_livetext.specs.Spelling.{Spells, spelling}
use Rattle.rc_historytext.specs.Framing.{FramedText, IsFraming}
use Rattle.rc_historytext.specs.Keeping.{IsKept, StandsThere}
use Rattle.rc_historytext.specs.Present.{IsPresent, has_inside, crosses}
use Rattle.rc_historytext.specs.Travelling.{IsAtBorder, RunsInside, StandsNext, way_command}
use Rattle.rc_historytext.specs.declared.keeping.Keeping.TheVariants.{Way}
use Rattle.rc_serve.specs.declared.ending.Ending.{Ending}
use Rattle.rc_serve.specs.declared.ending.Ending.TheVariants.{Done, Refused, Hindered}
use Rattle.rc_serve.specs.Ending.{EndsIn, ending_by, ending_of}
use Rattle.rc_serve.specs.Meeting.{Doing}
use Rattle.rc_args.specs.OnceAsked.{OnceSaying, Said, once_saying_of}
use Rattle.rc_args.specs.SessionAsked.{SessionAsk}
use Rattle.rc_args.specs.Programs.{ByPrograms, ByTable, MakingAsk}
use Rattle.rc_args.specs.declared.once_words.Once.{Once}
use Rattle.rc_cli.specs.Filing.{BeginsBy, CannotKeep, Filing, file_named}
use Rattle.rc_cli.specs.Launching.{Launches}
use Rattle.rc_cli.specs.Once.{ServesOnce}
use Rattle.rc_cli.specs.Services.{ComesFor, OfLines, RunsFor, RunsGated}
use Rattle.rc_cli.specs.Serving.{session_on}
use Rattle.rc_cli.specs.Session.{Asked, Dealing, asked_with, filing_by}
use Rattle.rc_cli.specs.SessionFaults.{ComesBy, IsEndTold, RunsControlled, status_of}
use Rattle.rc_cli.specs.declared.sessions.keeping.LiveFile.{LiveFile}
use Rattle.rc_cli.specs.declared.sessions.keeping.LiveFile.TheVariants.{Text}
use Rattle.rc_cli.specs.declared.sessions.service.Service.{Service}
use Rattle.rc_cli.specs.declared.sessions.service.Service.TheVariants.{Line as OneLine}
use Rattle.rc_cli.specs.declared.sessions.session_fault.SessionFault.{SessionFault}
use Rattle.rc_cli.specs.declared.sessions.session_fault.SessionFault.TheVariants.{Failed}
use Rattle.rc_streams.specs.Exchange.{Exchange}
use Rattle.rc_launch.specs.Halted.{EndsInsideBy, HasHalted, LeavesBy, StepEndsBy}
use Rattle.rc_launch.specs.HeldHistory.{IsLedFrom, MeetsBorder, history_in, session_in}
use Rattle.rc_launch.specs.declared.live_store.Frame.{Frame}
use Rattle.rc_launch.specs.declared.live_store.Frame.TheVariants.{History}
use Rattle.rc_launch.proofs.HaltLemmas.{done_not_halted, not_halted}
use Rattle.rc_launch.proofs.NextStates.{comes_next}

-- a session that ended with status 0 was served, and all is done
pub done_of : (ended : Result Ending SessionFault) (before after : Option (List ℕ))
    → IsEndTold ended 0 before after → ended ≡ Ok Done
done_of (Ok Done) before after told = refl
done_of (Ok Refused) before after told = let no : 0 ≡ 1 = told.0 in absurd (omega (arith, no))
done_of (Ok Hindered) before after told = let no : 0 ≡ 2 = told.0 in absurd (omega (arith, no))
done_of (Err fault) before after told = elim told [
  | inl refused ↦ let no : 0 ≡ 1 = refused.0 in absurd (omega (arith, no))
  | inr failed ↦ let no : 0 ≡ 111 = failed.0 in absurd (omega (arith, no))
]

-- a session that ended with status 1 or 2 was served to its end, with that status; or it is
-- refused, with status 1, and its store was left alone
halted_of : (ended : Result Ending SessionFault) (service : Service) (asked : Asked)
    (deal : Dealing) (reader writer keeper : Type 0) (status : ℕ) (before after : Option (List ℕ))
    → HasHalted status → ComesBy ended service asked deal reader writer keeper
    → IsEndTold ended status before after
    → ((ending : Ending) × RunsControlled service (Ok ending) asked deal
    × (status ≡ status_of ending)) ⊎ ((status ≡ 1) × (deal.is ≡ deal.was))
halted_of (Ok ending) service asked deal reader writer keeper status before after halted comes
    told = inl (ending, comes, told.0)
halted_of (Err (Failed fault)) service asked deal reader writer keeper status before after halted
    comes told = elim told [
      | inl refused ↦ absurd refused.1
      | inr failed ↦ absurd (not_halted status failed.0 halted)
    ]
halted_of (Err fault) service asked deal reader writer keeper status before after halted comes
    told = elim told [
      | inl refused ↦ inr (refused.0, comes.2)
      | inr failed ↦ absurd (not_halted status failed.0 halted)
    ]

-- an undo or a redo has a run, and events are put into it
has_run : (on : Bool) (limit : ℕ) → HasRun (way_command on limit [])
has_run true limit = tt
has_run false limit = tt

-- it was carried out on a line, and ended so
abbrev Carries : Ending → (on : Bool) → (limit : ℕ) → Database → (line new : Line) → Type 0
Carries ending on limit d line new = (events : List Event) × (told : Reported)
    × Does d line (way_command on limit events) told new × (ending ≡ ending_of told)

-- a command was carried out by some events
abbrev Carried : Ending → Database → Line → Command → Line → Type 0
Carried ending d line command new = (events : List Event) × (told : Reported)
    × Does d line (with_events command events) told new × (ending ≡ ending_of told)

carried_way : (ending : Ending) (on : Bool) (limit : ℕ) (d : Database) (line new : Line)
    → Carried ending d line (way_command on limit []) new → Carries ending on limit d line new
carried_way ending true limit d line new carried = carried
carried_way ending false limit d line new carried = carried

-- what one line that was served has left of the line of states: it was carried out, or it is
-- refused, and the line is as it was
abbrev Leaves : Ending → (on : Bool) → (limit : ℕ) → Database → (line new : Line) → Type 0
Leaves ending on limit d line new =
    ((ending ≡ Refused) × (new ≡ line)) ⊎ Carries ending on limit d line new

-- an ending is no other
done_not_refused : Done ≢ Refused
done_not_refused same = let no : 0 ≡ 1 = ap status_of same in absurd (omega (arith, no))

hindered_not_refused : Hindered ≢ Refused
hindered_not_refused same = let no : 2 ≡ 1 = ap status_of same in absurd (omega (arith, no))

hindered_not_done : Hindered ≢ Done
hindered_not_done same = let no : 2 ≡ 0 = ap status_of same in absurd (omega (arith, no))

-- what is reported is no refusal
report_not_refused : (failed blocked untried : List ℕ) → ending_by failed blocked untried ≢ Refused
report_not_refused [] [] [] same = done_not_refused same
report_not_refused [] [] (s ∷ untried) same = hindered_not_refused same
report_not_refused [] (s ∷ blocked) untried same = hindered_not_refused same
report_not_refused (s ∷ failed) blocked untried same = hindered_not_refused same

-- where all is done it was carried out, and has come to the next state
done_carries : (on : Bool) (limit : ℕ) (d : Database) (line new : Line)
    → Leaves Done on limit d line new → Carries Done on limit d line new
done_carries on limit d line new (inl refused) = absurd (done_not_refused refused.0)
done_carries on limit d line new (inr carried) = carried

arrives_next : (ending : Ending) (on : Bool) (limit : ℕ) (d : Database) (line new : Line)
    → IsLineOf d line → Leaves ending on limit d line new
    → Holds new.current.live (TargetOfCommand d line (way_command on limit []))
    → ending ≡ Done → StandsNext on line new
arrives_next ending on limit d line new of (inl refused) holds done =
    absurd (done_not_refused (sym done ∙ refused.0))
arrives_next ending on limit d line new of (inr carried) holds done =
    comes_next on d line new limit carried.0 carried.1 of carried.2 holds

-- by its status
leaves_by : (ending : Ending) (status : ℕ) (on : Bool) (limit : ℕ) (d : Database) (line new : Line)
    → HasHalted status → status ≡ status_of ending → Leaves ending on limit d line new
    → LeavesBy status on d line new
leaves_by Done status on limit d line new halted is leaves =
    absurd (done_not_halted status is halted)
leaves_by Refused status on limit d line new halted is (inl refused) = inl (is, refused.1)
leaves_by Refused status on limit d line new halted is (inr carried) =
    absurd (report_not_refused carried.1.failed carried.1.blocked carried.1.untried
    (sym carried.3))
leaves_by Hindered status on limit d line new halted is (inl refused) =
    absurd (hindered_not_refused refused.0)
leaves_by Hindered status on limit d line new halted is (inr carried) =
    inr (is, (limit, carried.0, carried.1, carried.2, sym carried.3))

-- what came of one line that was served
record ServedWay (ending : Ending) (on : Bool) (limit : ℕ) (d : Database) (line : Line)
    (kept : List ℕ) : Type 0 where
  new : Line
  leaves : Leaves ending on limit d line new
  arrives : ending ≡ Done → StandsNext on line new
  is_kept : kept ≡ spelling d new

-- and where it began
record BegunWay (ending : Ending) (on : Bool) (limit : ℕ) (d : Database) (session kept : List ℕ)
    : Type 0 where
  line : Line
  is_line : IsLineOf d line
  begins : Spells d session line
  served : ServedWay ending on limit d line kept

-- what is kept is the text, where the store holds that
kept_text : (is : Option (List ℕ)) (kept text : List ℕ) → is ≡ Some kept
    → IfSome is (λ bytes. bytes ≡ text) → kept ≡ text
kept_text is kept text held same = subst (λ o. IfSome o (λ bytes. bytes ≡ text)) held same

module _ (As : EndsIn) (carries : (ending : Ending) (d : Database) (line : Line)
    (command : Command) (text : List ℕ) (new : Line) → As ending d line command text new
    → Carried ending d line command new) (ending : Ending) (on : Bool) (limit : ℕ)
    (kept : List ℕ) where
  served_way : (path was is written gained : Option (List ℕ)) (old new : Holding)
      → IsLineOf old.database old.line → path ≢ None → is ≡ Some kept
      → ServesOnce path was is As ending (Said (SaysStep (way_command on limit []))) written gained
      old new
      → ServedWay ending on limit old.database old.line kept
  served_way None was is written gained old new of named held served = absurd (named refl)
  served_way (Some path) was is written gained old new of named held served =
      let leaves : Leaves ending on limit old.database old.line new.line = elim served.ends [
        | inl done ↦ inr (carried_way ending on limit old.database old.line new.line
            (carries ending old.database old.line (way_command on limit []) served.text new.line
            done))
        | inr refused ↦ inl (refused.0, refused.1.3)
      ] in
      record {
        new = new.line;
        leaves = leaves;
        arrives = λ done. arrives_next ending on limit old.database old.line new.line of leaves
            (served.arrives done (has_run on limit)) done;
        is_kept = kept_text is kept (spelling old.database new.line) held served.kept;
      }

  -- from where it begins
  gated_way : (Does : Doing) (filing : Filing) (d : Database) (io : Exchange) (once : Bor Once)
      (session : Bor (List ℕ)) → once_saying_of once.now ≡ Said (SaysStep (way_command on limit []))
      → filing.path ≢ None → filing.file ≡ Text session → filing.is ≡ Some kept
      → RunsGated (ComesFor (OneLine once) (Ok ending)) filing Does As d io
      → BegunWay ending on limit d session.now kept
  gated_way Does filing d io once session says named file held run =
      let begins : IsLineOf d run.start × Spells d session.now run.start =
      subst (λ (f : LiveFile). BeginsBy d filing.bound f run.start) file run.begins in
      record {
        line = run.start;
        is_line = begins.0;
        begins = begins.1;
        served = served_way filing.path filing.was filing.is io.written io.gained
            (session_on d run.start) run.new begins.0 named held
            (subst (λ (what : OnceSaying). ServesOnce filing.path filing.was filing.is As ending
            what io.written io.gained (session_on d run.start) run.new) says run.served.1);
      }

-- however transitions are made
made_way : (ending : Ending) (on : Bool) (limit : ℕ) (kept : List ℕ) (making : MakingAsk)
    (filing : Filing) (d : Database) (workers : ℕ) (io : Exchange) (once : Bor Once)
    (session : Bor (List ℕ))
    → once_saying_of once.now ≡ Said (SaysStep (way_command on limit []))
    → filing.path ≢ None → filing.file ≡ Text session → filing.is ≡ Some kept
    → RunsFor (ComesFor (OneLine once) (Ok ending)) filing d workers making io
    → BegunWay ending on limit d session.now kept
made_way ending on limit kept (ByTable listed) filing d workers io once session says named file
    held run = gated_way _
    (λ ended base line command text new done. (done.0, done.1, done.3, done.5)) ending on limit
    kept _ filing d io once session says named file held run.2
made_way ending on limit kept (ByPrograms runner controller most) filing d workers io once session
    says named file held run = gated_way _
    (λ ended base line command text new done. (done.0, done.1, done.3, done.5)) ending on limit
    kept _ filing d io once session says named file held run

-- a file that is named is read
pub named_file : (path : Option (List ℕ)) (file : LiveFile) → path ≢ None
    → file_named path file ≡ file
named_file None file named = absurd (named refl)
named_file (Some path) file named = refl

-- what is kept in a history is kept there by an undo or a redo
kept_way : (f : FramedText) (was kept : List ℕ) → f.base ≡ was → f.keeping ≡ Way → f.kept ≡ kept
    → IsFraming f → IsKept Way was kept f.whole
kept_way f was kept base keeping same framing =
    let there : IsKept Way f.base f.kept f.whole = elim framing [
      | inl stands ↦ inl stands
      | inr put ↦ subst (λ k. IsKept k f.base f.kept f.whole) keeping put
    ] in
    subst (λ b. IsKept Way b kept f.whole) base
    (subst (λ s. IsKept Way f.base s f.whole) same there)

-- what stood in a history before leaves it as it was
stands_way : (f : FramedText) (was : List ℕ) → f.base ≡ was → f.keeping ≡ Way → IsFraming f
    → StandsThere was f.kept → f.whole ≡ was
stands_way f was base keeping framing stands =
    elim (kept_way f was f.kept base keeping refl framing) [
      | inl same ↦ same.1
      | inr put ↦ absurd (put.0 stands)
    ]

-- what came of a line that was served in the present generation of a history
record MadeWay (ending : Ending) (on : Bool) (limit : ℕ) (was session kept : List ℕ)
    : Type 0 where
  base : Database
  there : IsPresent was (database_text base) session
  is_database : IsDatabase base
  writable : IsWritable base
  begun : BegunWay ending on limit base session kept

module _ (ask : SessionAsk) (once : Bor Once) (database : List ℕ) (session : Bor (List ℕ))
    (deal : Dealing) (reader writer keeper : Type 0) (before after : Option (List ℕ)) (on : Bool)
    (limit : ℕ) (was : List ℕ) where
  made_in : (ending : Ending) (kept : List ℕ)
      → once_saying_of once.now ≡ Said (SaysStep (way_command on limit [])) → ask.live ≢ None
      → RunsControlled (OneLine once) (Ok ending) (asked_with ask (Some database) (Text session))
      deal
      → IsPresent was database session.now → deal.is ≡ Some kept
      → MadeWay ending on limit was session.now kept
  made_in ending kept says named controlled present held =
      let asked = asked_with ask (Some database) (Text session) in
      let run = controlled.0 in
      record {
        base = run.database;
        there = subst (λ b. IsPresent was b session.now) run.opened.0.2 present;
        is_database = run.opened.0.0;
        writable = run.opened.0.1;
        begun = made_way ending on limit kept ask.making (filing_by asked deal) run.database
            ask.workers _ once session says named (named_file ask.live (Text session) named) held
            run.run;
      }

  -- what is launched so and is done, on the texts of the present generation
  runs_inside : (f : FramedText) (status : ℕ) → status ≡ 0
      → once_saying_of once.now ≡ Said (SaysStep (way_command on limit [])) → ask.live ≢ None
      → Launches (OneLine once) (asked_with ask (Some database) (Text session)) status deal reader
      writer keeper before after
      → IsPresent was database session.now → deal.is ≡ Some f.kept
      → f.base ≡ was → f.keeping ≡ Way → IsFraming f
      → RunsInside on was f.whole
  runs_inside f status zero says named launched present held base keeping framing =
      let asked = asked_with ask (Some database) (Text session) in
      let controlled : RunsControlled (OneLine once) (Ok Done) asked deal =
      subst (λ (e : Result Ending SessionFault). ComesBy e (OneLine once) asked deal
      (reader ⊎ OfLines (OneLine once) (asked.base ≡ None)) writer
      (CannotKeep ask (Text session) keeper))
      (done_of launched.0 before after
      (subst (λ (s : ℕ). IsEndTold launched.0 s before after) zero launched.2)) launched.1 in
      let made = made_in Done f.kept says named controlled present held in
      let served = made.begun.served in
      let carried = done_carries on limit made.base made.begun.line served.new served.leaves in
      record {
        base = made.base;
        line = made.begun.line;
        new = served.new;
        session = session.now;
        limit = limit;
        events = carried.0;
        report = carried.1;
        there = made.there;
        is_database = made.is_database;
        writable = made.writable;
        is_line = made.begun.is_line;
        begins = made.begun.begins;
        does = carried.2;
        arrives = served.arrives refl;
        kept = kept_way f was (spelling made.base served.new) base keeping served.is_kept framing;
      }

  -- what is launched so and was served to its end with status 1 or 2
  ends_inside : (f : FramedText) (ending : Ending) (status : ℕ) → HasHalted status
      → status ≡ status_of ending
      → once_saying_of once.now ≡ Said (SaysStep (way_command on limit [])) → ask.live ≢ None
      → RunsControlled (OneLine once) (Ok ending) (asked_with ask (Some database) (Text session))
      deal
      → IsPresent was database session.now → deal.is ≡ Some f.kept
      → f.base ≡ was → f.keeping ≡ Way → IsFraming f
      → EndsInsideBy status on was f.whole
  ends_inside f ending status halted is says named controlled present held base keeping framing =
      let made = made_in ending f.kept says named controlled present held in
      let served = made.begun.served in
      record {
        base = made.base;
        line = made.begun.line;
        new = served.new;
        session = session.now;
        there = made.there;
        is_database = made.is_database;
        writable = made.writable;
        is_line = made.begun.is_line;
        begins = made.begun.begins;
        left = leaves_by ending status on limit made.base made.begun.line served.new halted is
            served.leaves;
        kept = kept_way f was (spelling made.base served.new) base keeping served.is_kept framing;
      }

  -- and the store holds what that leads to
  pub leads_inside : (frame : Frame) (status : ℕ) → status ≡ 0
      → once_saying_of once.now ≡ Said (SaysStep (way_command on limit [])) → ask.live ≢ None
      → Launches (OneLine once) (asked_with ask (Some database) (Text session)) status deal reader
      writer keeper before after
      → IsPresent was database session.now → deal.is ≡ session_in frame → IsLedFrom was frame
      → (is : List ℕ) × (history_in frame ≡ Some is) × RunsInside on was is
  leads_inside (History f) status zero says named launched present held led = (
    f.whole,
    refl,
    runs_inside f status zero says named launched present held led.0 led.1 led.2,
  )
  leads_inside other status zero says named launched present held led = absurd led

  -- with status 1 or 2, where what was kept before stood there
  pub halts_inside : (frame : Frame) (status : ℕ) → HasHalted status
      → once_saying_of once.now ≡ Said (SaysStep (way_command on limit [])) → ask.live ≢ None
      → Launches (OneLine once) (asked_with ask (Some database) (Text session)) status deal reader
      writer keeper before after
      → IsPresent was database session.now → deal.is ≡ session_in frame → IsLedFrom was frame
      → ((kept : List ℕ) → deal.was ≡ Some kept → StandsThere was kept)
      → (is : List ℕ) × (history_in frame ≡ Some is) × StepEndsBy status on was is
  halts_inside (History f) status halted says named launched present held led stands =
      let asked = asked_with ask (Some database) (Text session) in
      let step : StepEndsBy status on was f.whole =
      elim (halted_of launched.0 (OneLine once) asked deal
      (reader ⊎ OfLines (OneLine once) (asked.base ≡ None)) writer
      (CannotKeep ask (Text session) keeper) status before after halted launched.1 launched.2) [
        | inl ran ↦ inr (ends_inside f ran.0 status halted ran.2 says named ran.1 present held
            led.0 led.1 led.2)
        | inr refused ↦ inl (
          refused.0,
          stands_way f was led.0 led.1 led.2
              (stands f.kept (sym refused.1 ∙ held)),
        )
      ] in
      (f.whole, refl, step)
  halts_inside other status halted says named launched present held led stands = absurd led

-- there is none where there is not one
no_inside : (inside : Bool) → not inside ≡ true → inside ≡ false
no_inside false none = refl
no_inside true none = absurd (false≢true none)

-- where the next step crosses a border, a history stands at one
pub at_border : (on : Bool) (history : List ℕ) (meets : Bool) → meets ≡ true
    → MeetsBorder on history meets → IsAtBorder on history
at_border on history meets is there =
    let both = and_parts (not (has_inside on there.0)) (crosses on there.0)
    (sym there.2 ∙ is) in
    (there.0, there.1, no_inside (has_inside on there.0) both.0, both.1)

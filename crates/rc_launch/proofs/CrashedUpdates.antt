-- A crash within the writes of an update.
use Rattle.std.proofs.Common.{◌≡◌, ◌∙◌, ◌⊎◌, ◌+◌, inl, inr, ℕ, Bool, true, false, List, [], ◌∷◌}
use Rattle.std.proofs.Common.{◌++◌, Ok}
use Rattle.std.proofs.Common.{refl, sym, ap, subst}
use Rattle.rc_model.specs.declared.Event.{Event}
use Rattle.rc_model.specs.Database.{Database, IsDatabase}
use Rattle.rc_model.specs.Line.{Line}
use Rattle.rc_model.specs.Plan.{Ask}
use Rattle.rc_model.specs.Session.{Change, Command, Does, IsLineOf, Reported, edit_report}
use Rattle.rc_session.proofs.Keeping.{answer_keeps}
use Rattle.rc_db.specs.Database.{IsWritable}
use Rattle.rc_update.specs.Conversions.{Conversion}
use Rattle.rc_update.specs.Distinct.{AreDistinct}
use Rattle.rc_dbtext.specs.Spelling.{spelling as database_text}
use Rattle.rc_livetext.specs.Spelling.{spelling}
use Rattle.rc_history.specs.History.{History, IsHistory, Place, place_in, place_now}
use Rattle.rc_history.specs.Promises.{AddsPlaces, AddsTo, IsUpdate}
use Rattle.rc_history.specs.Stops.{ArePassed, OneUndoTakesBack, Undoes}
use Rattle.rc_historytext.specs.declared.keeping.Keeping.{Keeping}
use Rattle.rc_historytext.specs.declared.keeping.Keeping.TheVariants.{Step}
use Rattle.rc_historytext.specs.Keeping.{IsKept, StandsThere}
use Rattle.rc_historytext.specs.Places.{GivesHistory}
use Rattle.rc_historytext.specs.Present.{IsPresent}
use Rattle.rc_historytext.specs.Travelling.{GoesOn, Travels}
use Rattle.rc_historytext.specs.Updates.{CarriesOver, GivesUpdated, KeepsLeft, KeepsTwice}
use Rattle.rc_historytext.specs.Updates.{StandsOn, UpdatesTo}
use Rattle.rc_recovery.specs.Files.{AfterCrash, Files, Replace, Write}
use Rattle.rc_recovery.specs.Recoveries.{IsLineAfter}
use Rattle.rc_launch.specs.HistoryRecoveries.{EndsWithHistory}
use Rattle.rc_launch.specs.Keeping.{is_way, keeping_by, keeping_of}
use Rattle.rc_launch.specs.HistoryCrashes.{EndsInOneHistory, IsOfRun}
use Rattle.rc_launch.specs.UpdateCrashes.{IsTakenBack, StandsOnPlace, UndoRestores, WritesChange}
use Rattle.rc_launch.specs.UpdateCrashes.{WritesUpdate}
use Rattle.rc_launch.proofs.PutTexts.{kept_stays}
use Rattle.rc_launch.proofs.HistoryEnds.{run_keeping}
use Rattle.rc_launch.proofs.Writing.{after_all, at_rest, files, one_write, run_written, split}
use Rattle.rc_launch.proofs.HistoryCrashed.{CrashLaws, crashed}
use Rattle.rc_launch.proofs.StillChange.{still, still_ask}
use Rattle.rc_launch.proofs.UndoneOnce.{UndoLaws, change_undone}
use Rattle.rc_launch.proofs.GivenPlaces.{entered_present, given_place, place_is}
use Rattle.rc_historytext.proofs.UpdatedBegins.{adds_once, places_once}

-- what the laws below say of a change
pub record ChangeLaws : Type 0 where
  pub crash : CrashLaws
  pub undo : UndoLaws

-- and of an update
pub record UpdateLaws : Type 0 where
  pub change : ChangeLaws
  pub carried : (list : List Conversion) (d : Database) (bytes next : List ℕ) (h : History)
      (marks : List Bool) → AreDistinct list → IsHistory h → GivesHistory bytes h marks
      → GoesOn false bytes false → CarriesOver list d bytes next → GivesUpdated list d h next
  pub done : (list : List Conversion) (d : Database) (bytes next : List ℕ) (h : History)
      (marks : List Bool) → AreDistinct list → IsHistory h → GivesHistory bytes h marks
      → GoesOn false bytes false → UpdatesTo list d bytes next → GivesUpdated list d h next
  pub travels : (bytes next : List ℕ) (h : History) (marks : List Bool) → IsHistory h
      → GivesHistory bytes h marks → Travels false bytes next
      → (new : History) × GivesHistory next new marks × IsHistory new × Undoes marks h new
  pub taken : (h : History) → IsHistory h → OneUndoTakesBack h

change_written : (marked : Bool) (d : Database) (line : Line) (ask : Ask) (kept bytes : List ℕ)
    (ws : List Write) → WritesChange marked d line ask kept ws
    → after_all ws (files bytes []) ≡ files kept []
change_written marked d line ask kept bytes ws (inl (l, events, command, mark, logged, is)) =
    ap (λ (w : List Write). after_all w (files bytes [])) is
    ∙ run_written (spelling d line) l bytes kept
change_written marked d line ask kept bytes ws (inr is) =
    ap (λ (w : List Write). after_all w (files bytes [])) is

-- what was logged of a change is entered as a change
does_entered : (d : Database) (line end : Line) (command : Command) (ask : Ask)
    (old : List Event) → command ≡ Change ask old → (events : List Event)
    → IsLineAfter d line command events end
    → (end ≡ line) ⊎ ((next : Ask) × (all : List Event) × (report : Reported)
    × Does d line (Change next all) report end)
does_entered d line end command ask old is [] same = inl same
does_entered d line end command ask old is (first ∷ more) entered =
    by (subst (λ (c : Command). IsLineAfter d line c (first ∷ more) end) is entered)
  where
    by : IsLineAfter d line (Change ask old) (first ∷ more) end
        → (end ≡ line) ⊎ ((next : Ask) × (all : List Event) × (report : Reported)
        × Does d line (Change next all) report end)
    by (report, inl (obeys, settled)) = inr (_, _, report, obeys.1)
    by (report, inr (unsettled, is, first_try, obeys)) = inr (_, _, report, obeys.1)

-- what a step leaves of a line is kept as a step
left_kept : (d : Database) (line new : Line) (bytes kept : List ℕ)
    → IsPresent bytes (database_text d) (spelling d line) → KeepsLeft d line new bytes kept
    → IsKept Step bytes (spelling d new) kept
left_kept d line new bytes kept there (inl (same, stays)) =
    inl (
      subst (λ (l : Line). StandsThere bytes (spelling d l)) (sym same) (database_text d, there),
      stays,
    )
left_kept d line new bytes kept there (inr is) = is

twice_kept : (d : Database) (line new : Line) (bytes kept : List ℕ)
    → IsPresent bytes (database_text d) (spelling d line) → KeepsTwice d line new bytes kept
    → IsKept Step bytes (spelling d new) kept
twice_kept d line new bytes kept there (first, one, two) =
    let same : first ≡ bytes =
    kept_stays Step bytes (spelling d line) first tt (database_text d, there) one in
    left_kept d line new bytes kept there
    (subst (λ (x : List ℕ). KeepsLeft d line new x kept) same two)

module _ (laws : ChangeLaws) where
  -- where a crash of a change leads
  record EndsSo (marked : Bool) (d : Database) (line : Line) (bytes end : List ℕ) : Type 0 where
    new : Line
    ask : Ask
    events : List Event
    report : Reported
    does : Does d line (Change ask events) report new
    is_line : IsLineOf d line
    found : IsKept (keeping_by marked false) bytes (spelling d new) end

  change_ends : (d : Database) (line new : Line) (ask : Ask) (keeping : Keeping) (marked : Bool)
      (bytes kept : List ℕ) (ws : List Write) → IsDatabase d → IsWritable d
      → IsPresent bytes (database_text d) (spelling d line) → (IsLineOf d line → IsLineOf d new)
      → IsOfRun keeping → IsKept keeping bytes (spelling d new) kept
      → WritesChange marked d line ask kept ws → (g : Files) (end : List ℕ)
      → AfterCrash ws (files bytes []) g → EndsWithHistory g end
      → (end ≡ bytes) ⊎ (end ≡ kept) ⊎ EndsSo marked d line bytes end
  change_ends d line new ask keeping marked bytes kept ws is writable there keeps run is_kept
      (inr unlogged) g end crash ends =
      elim (one_write laws.crash.ends bytes kept end g
      (subst (λ (w : List Write). AfterCrash w (files bytes []) g) unlogged crash) ends) [
        | inl same ↦ inl same
        | inr same ↦ inr (inl same)
      ]
  change_ends d line new ask keeping marked bytes kept ws is writable there keeps run is_kept
      (inl (l, events, command, mark, logged, written)) g end crash ends =
      elim (whole.ends end ends) [
        | inl (same, file, log) ↦ inl same
        | inr (inr (same, file)) ↦ inr (inl same)
        | inr (inl (some, holds, file, (last, of, after, inl (stays, same)))) ↦ inl same
        | inr (inl (some, holds, file, (last, of, after, inr found))) ↦
            enters some last after found
      ]
    where
      whole : EndsInOneHistory d line l kept (files bytes []) g
      whole = crashed laws.crash d line new keeping l kept (files bytes []) g (record {
        stands = record {
          there = there;
          is_database = is;
          writable = writable;
          is_line = logged.line_of;
        };
        logged = logged;
        new_of = keeps logged.line_of;
        of_run = run;
        kept_is = is_kept;
        rest = laws.crash.ends.empty d (spelling d line);
        crash = subst (λ (w : List Write). AfterCrash w (files bytes []) g) written crash;
      })

      enters : (some : List Event) (last : Line) → IsLineAfter d line l.command some last
          → IsKept (keeping_of l) bytes (spelling d last) end
          → (end ≡ bytes) ⊎ (end ≡ kept) ⊎ EndsSo marked d line bytes end
      enters some last after found =
          let now : IsKept (keeping_by marked false) bytes (spelling d last) end =
          subst (λ (k : Keeping). IsKept k bytes (spelling d last) end)
          (λ i. keeping_by (mark i) (is_way (command i))) found in
          elim (does_entered d line last l.command ask events command some after) [
            | inl same ↦
                inl (kept_stays (keeping_by marked false) bytes (spelling d last) end
                (run_keeping marked false)
                (subst (λ (x : Line). StandsThere bytes (spelling d x)) (sym same)
                (database_text d, there)) now)
            | inr (next, all, report, does) ↦ inr (inr (record {
              new = last;
              ask = next;
              events = all;
              report = report;
              does = does;
              is_line = logged.line_of;
              found = now;
            }))
          ]

  -- at whatever point of a change a crash came
  pub change_taken : (d : Database) (line new : Line) (ask : Ask) (events : List Event)
      (report : Reported) (keeping : Keeping) (marked : Bool) (bytes kept : List ℕ)
      (writes : List Write) (g : Files) (end : List ℕ) → StandsOn bytes d line
      → GoesOn false bytes false
      → Does d line (Change ask events) report new → IsOfRun keeping
      → IsKept keeping bytes (spelling d new) kept → WritesChange marked d line ask kept writes
      → AfterCrash writes (files bytes []) g → EndsWithHistory g end
      → IsTakenBack bytes (place_in d line.current) end
  change_taken d line new ask events report keeping marked bytes kept writes g end stands goes does
      run is_kept writing crash ends =
      elim (change_ends d line new ask keeping marked bytes kept writes stands.is_database
      stands.writable stands.there
      (λ of. answer_keeps d line of (Change ask events) (Ok report) new does) run
      is_kept writing g end crash ends) [
        | inl same ↦ inl same
        | inr (inl same) ↦
            subst (IsTakenBack bytes (place_in d line.current)) (sym same)
            (change_undone laws.undo d line new ask events report bytes kept keeping
            stands.is_database stands.writable stands.is_line stands.there goes does run is_kept)
        | inr (inr e) ↦
            change_undone laws.undo d line e.new e.ask e.events e.report bytes end
            (keeping_by marked false) stands.is_database stands.writable stands.is_line
            stands.there goes e.does (run_keeping marked false) e.found
      ]

module _ (laws : UpdateLaws) where
  module _ (list : List Conversion) (d : Database) (bytes next : List ℕ) (h : History)
      (marks : List Bool) (distinct : AreDistinct list) (is : IsHistory h)
      (gives : GivesHistory bytes h marks) (goes : GoesOn false bytes false) where
    -- one undo takes back what is an update
    restores : (end : List ℕ) → GivesUpdated list d h end → UndoRestores (place_now h) end
    restores end after back travels =
        let (old, gives_old, is_old, undoes) =
        laws.travels end back after.new after.marks after.is after.gives travels in
        let law = laws.taken h is list d after.new after.update in
        let number =
        places_once h list d after.new after.update after.number law.0 after.adds law.1 in
        let same : place_now old ≡ place_now h =
        law.4 after.marks old (subst (λ (n : ℕ). ArePassed after.marks after.new n) number
        after.passed) undoes in
        subst (StandsOnPlace back) same (given_place back old after.marks is_old gives_old)

    module _ (done : List ℕ) (u : CarriesOver list d bytes done) where
      stands : StandsOn bytes u.base u.line
      stands = u.lowers.stands

      place : place_in u.base u.line.current ≡ place_now h
      place =
          let same =
          place_is laws.change.undo bytes h marks is gives u.base u.line u.lowers.stands in
          λ i. place_in (same.0 i) (same.1 i)

      half_kept : IsKept Step bytes (spelling u.base u.lowers.new) u.half
      half_kept =
          twice_kept u.base u.line u.lowers.new bytes u.half u.lowers.stands.there u.lowers.keeps

      -- a change that is kept in place of the first half
      lowered : (new : Line) (ask : Ask) (events : List Event) (report : Reported)
          (keeping : Keeping) (end : List ℕ) → Does u.base u.line (Change ask events) report new
          → IsOfRun keeping → IsKept keeping bytes (spelling u.base new) end
          → IsTakenBack bytes (place_now h) end
      lowered new ask events report keeping end does run kept =
          subst (λ (p : Place). IsTakenBack bytes p end) place
          (change_undone laws.change.undo u.base u.line new ask events report bytes end keeping
          u.lowers.stands.is_database u.lowers.stands.writable u.lowers.stands.is_line
          u.lowers.stands.there goes does run kept)

      half_taken : IsTakenBack bytes (place_now h) u.half
      half_taken =
          lowered u.lowers.new u.lowers.ask u.lowers.events u.lowers.report Step u.half
          u.lowers.does tt half_kept

      lowering_taken : (end : List ℕ) → EndsSo laws.change true u.base u.line bytes end
          → IsTakenBack bytes (place_now h) end
      lowering_taken end e = lowered e.new e.ask e.events e.report Step end e.does tt e.found

      -- a change that is kept in place of the second half
      raised : (new : Line) (ask : Ask) (events : List Event) (report : Reported)
          (end : List ℕ) → Does d u.start (Change ask events) report new
          → KeepsLeft d u.start new u.entered end → UndoRestores (place_now h) end
      raised new ask events report end does keeps =
          restores end (laws.carried list d bytes end h marks distinct is gives goes (record {
            base = u.base;
            line = u.line;
            start = u.start;
            half = u.half;
            entered = u.entered;
            lowers = u.lowers;
            enters = u.enters;
            raises = record {
              new = new;
              ask = ask;
              events = events;
              report = report;
              does = does;
              keeps = keeps;
            };
          }))

      entered_taken : UndoRestores (place_now h) u.entered
      entered_taken =
          raised u.start still_ask [] (edit_report u.start.current.live) u.entered
          (still d u.start) (inl (refl, refl))

      done_taken : UndoRestores (place_now h) done
      done_taken = restores done (laws.carried list d bytes done h marks distinct is gives goes u)

      raising_taken : (end : List ℕ) → EndsSo laws.change true d u.start u.entered end
          → UndoRestores (place_now h) end
      raising_taken end e = raised e.new e.ask e.events e.report end e.does (inr e.found)

    -- at whatever point of an update a crash came
    module _ (writes : List Write) (g : Files) (end : List ℕ)
        (w : WritesUpdate list d bytes next writes) (ends : EndsWithHistory g end) where
      abbrev u : CarriesOver list d bytes w.done
      u = w.update

      abbrev border : List Write
      border = Replace u.entered ∷ (w.second ++ Replace next ∷ [])

      half : end ≡ u.half → IsTakenBack bytes (place_now h) end
      half same = subst (IsTakenBack bytes (place_now h)) (sym same) (half_taken w.done u)

      ended : end ≡ w.done → IsTakenBack bytes (place_now h) end
      ended same = inr (subst (UndoRestores (place_now h)) (sym same) (done_taken w.done u))

      lowering : AfterCrash w.first (files bytes []) g → IsTakenBack bytes (place_now h) end
      lowering crash =
          let r = u.lowers in
          let keeps : IsLineOf u.base u.line → IsLineOf u.base r.new =
          λ of. answer_keeps u.base u.line of (Change r.ask r.events) (Ok r.report) r.new r.does in
          elim (change_ends laws.change u.base u.line r.new r.ask Step true bytes u.half w.first
          r.stands.is_database r.stands.writable r.stands.there keeps tt (half_kept w.done u)
          w.lowering g end crash ends) [
            | inl same ↦ inl same
            | inr (inl same) ↦ half same
            | inr (inr e) ↦ lowering_taken w.done u end e
          ]

      raising : AfterCrash w.second (files u.entered []) g → IsTakenBack bytes (place_now h) end
      raising crash =
          let e = u.enters in
          let r = u.raises in
          let present =
          entered_present laws.change.undo list d u.start u.half u.entered e.is_database e.writable
          e.enters in
          let keeps : IsLineOf d u.start → IsLineOf d r.new =
          λ of. answer_keeps d u.start of (Change r.ask r.events) (Ok r.report) r.new r.does in
          elim (change_ends laws.change d u.start r.new r.ask Step true u.entered w.done w.second
          e.is_database e.writable present keeps tt
          (left_kept d u.start r.new u.entered w.done present r.keeps) w.raising g end crash
          ends) [
            | inl same ↦
                inr (subst (UndoRestores (place_now h)) (sym same) (entered_taken w.done u))
            | inr (inl same) ↦ ended same
            | inr (inr kept) ↦ inr (raising_taken w.done u end kept)
          ]

      settling : AfterCrash (Replace next ∷ []) (files w.done []) g
          → IsTakenBack bytes (place_now h) end
      settling crash = elim (one_write laws.change.crash.ends w.done next end g crash ends) [
        | inl same ↦ ended same
        | inr same ↦ inr (subst (UndoRestores (place_now h)) (sym same)
            (restores next (laws.done list d bytes next h marks distinct is gives goes
            (w.done, u, w.settles))))
      ]

      entering : AfterCrash border (files u.half []) g → IsTakenBack bytes (place_now h) end
      entering (inl same) = half (at_rest laws.change.crash.ends u.half end g same ends)
      entering (inr (inl same)) = half (at_rest laws.change.crash.ends u.half end g same ends)
      entering (inr (inr later)) =
          elim (split w.second (Replace next ∷ []) (files u.entered []) g later) [
            | inl second ↦ raising second
            | inr last ↦ settling (subst (λ (f : Files). AfterCrash (Replace next ∷ []) f g)
                (change_written true d u.start u.raises.ask w.done u.entered w.second w.raising)
                last)
          ]

      pub update_taken : AfterCrash writes (files bytes []) g
          → IsTakenBack bytes (place_now h) end
      update_taken crash =
          elim (split w.first border (files bytes []) g
          (subst (λ (ws : List Write). AfterCrash ws (files bytes []) g) w.is crash)) [
            | inl first ↦ lowering first
            | inr later ↦ entering (subst (λ (f : Files). AfterCrash border f g)
                (change_written true u.base u.line u.lowers.ask u.half bytes w.first w.lowering)
                later)
          ]

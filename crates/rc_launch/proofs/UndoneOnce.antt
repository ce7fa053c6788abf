-- One undo takes a change back that is kept in a history.
use Rattle.std.proofs.Common.{◌≡◌, ◌≢◌, ◌∙◌, ◌⊎◌, ◌-◌, ◌<◌, ◌==◌, ◌&&◌, ◌||◌, inl, inr}
use Rattle.std.proofs.Common.{ℕ, zero, suc, Bool, true, false, not, List, [], ◌∷◌, ◌++◌, length}
use Rattle.std.proofs.Common.{map, Ok, arith, refl, sym, ap, subst, length-append, if◌then◌else◌}
use Rattle.std.specs.Prelude.{nat_lt}
use Rattle.std.proofs.lemmas.Bool.{and_from, and_left, and_parts, and_right, eq-eqb, eqb-true}
use Rattle.std.proofs.lemmas.Bool.{false≢true, lt-ltb, ltb-true, ne_eqb, or_left, or_right}
use Rattle.std.proofs.lemmas.List.{append-nil, length-map}
use Rattle.rc_model.specs.declared.Event.{Event}
use Rattle.rc_model.specs.Database.{Database, IsDatabase}
use Rattle.rc_model.specs.Line.{IsNext, Line, State}
use Rattle.rc_model.specs.Plan.{Ask}
use Rattle.rc_model.specs.Session.{Change, Does, IsLineOf, Redo, Reported, Undo}
use Rattle.rc_session.proofs.Keeping.{answer_keeps}
use Rattle.rc_db.specs.Database.{IsWritable}
use Rattle.rc_dbtext.specs.Spelling.{spelling as database_text}
use Rattle.rc_livetext.specs.Text.{IsLiveText, LiveText, live_text}
use Rattle.rc_livetext.specs.Spelling.{Spells, spelling, state_text, text_of}
use Rattle.rc_history.specs.History.{place_in}
use Rattle.rc_historytext.specs.declared.keeping.Keeping.{Keeping}
use Rattle.rc_historytext.specs.declared.keeping.Keeping.TheVariants.{Command, Way, Step, Seal}
use Rattle.rc_historytext.specs.Text.{GenerationText, HistoryText}
use Rattle.rc_historytext.specs.States.{Cuts, IsSession, cut_behind}
use Rattle.rc_historytext.specs.Present.{IsAt, IsPresent, StandingText, StandsAt, crosses}
use Rattle.rc_historytext.specs.Present.{has_inside, passes, passes_next}
use Rattle.rc_historytext.specs.Halting.{MayDo}
use Rattle.rc_historytext.specs.Marking.{first_mark, first_of_two, is_alone, is_first}
use Rattle.rc_historytext.specs.Marking.{is_last, mark_alone}
use Rattle.rc_historytext.specs.Keeping.{IsKept, IsPut, StandsThere}
use Rattle.rc_historytext.specs.Travelling.{GoesOn, PassesTo, StepsTo, way_command}
use Rattle.rc_launch.specs.HistoryRecoveries.{HasPresent}
use Rattle.rc_launch.specs.HistoryCrashes.{IsOfRun}
use Rattle.rc_launch.specs.UpdateCrashes.{IsTakenBack, StandsOnPlace, UndoRestores}
use Rattle.rc_launch.specs.WayCrashes.{LineHasRoom, StopsBehind}
use Rattle.rc_launch.proofs.GrownLines.{back_from, cut_line, cut_of, grown, none_long}
use Rattle.rc_launch.proofs.GrownLines.{redone_line, undone_line}
use Rattle.rc_launch.proofs.PutTexts.{TextLaws, has_once, kept_cases, place_once, present_once}
use Rattle.rc_launch.proofs.PutTexts.{kept_stays, put_stands}
use Rattle.rc_historytext.proofs.TravelledLines.{no_count}

-- what the laws of sessions and their texts say
pub record UndoLaws : Type 0 where
  pub texts : TextLaws
  pub line : (d : Database) (bytes : List ℕ) (a b : Line) → IsDatabase d → IsLineOf d a
      → IsLineOf d b → Spells d bytes a → Spells d bytes b → a ≡ b
  pub new : (d : Database) (line : Line) → IsDatabase d → IsLineOf d line
      → IsLiveText (text_of d line)

-- where an undo goes on that has come from the state behind: at the first state of a generation
-- which is not the oldest, if that is passed
only : (x : Bool) → (x || false) ≡ true → x ≡ true
only true is = refl
only false is = is

pub goes_facts : (at : StandingText) → at.after ≢ 0
    → (passes at && (has_inside false at || crosses false at)) ≡ true
    → (at.before ≡ 0) × (at.first_passed ≡ true) × (0 < at.earlier)
goes_facts at some goes =
    let both = and_parts (passes at) (has_inside false at || crosses false at) goes in
    let last : (at.after == 0) ≡ false =
    ne_eqb at.after 0 some in
    let first : ((at.before == 0 && at.first_passed) || false) ≡ true =
    sym (ap (λ (b : Bool). (at.before == 0 && at.first_passed) || (b && at.last_passed)) last)
    ∙ both.0 in
    let parts = and_parts (at.before == 0) at.first_passed
    (only (at.before == 0 && at.first_passed) first) in
    let none : at.before ≡ 0 = eqb-true at.before 0 parts.0 in
    let crossing : crosses false at ≡ true =
    sym (ap (λ (n : ℕ). nat_lt 0 n || crosses false at) none) ∙ both.1 in
    (none, parts.1, ltb-true 0 at.earlier crossing)

pub facts_go : (at : StandingText) → at.before ≡ 0 → at.first_passed ≡ true → 0 < at.earlier
    → (passes at && (has_inside false at || crosses false at)) ≡ true
facts_go at none first low =
    and_from (passes at) (has_inside false at || crosses false at)
    (or_left (at.before == 0 && at.first_passed) (at.after == 0 && at.last_passed)
    (and_from (at.before == 0) at.first_passed (eq-eqb at.before 0 none) first))
    (or_right (has_inside false at) (crosses false at) (lt-ltb 0 at.earlier low))

-- no command makes the first state of a generation passed
mark_passed : (keeping : Keeping) (mark : Bool) (old : LiveText)
    → first_mark keeping mark old ≡ true → mark ≡ true
mark_passed Command mark old is = (and_parts mark (not (is_first old)) is).0
mark_passed Way mark old is = is
mark_passed Step mark old is = is
mark_passed Seal mark old is = is

passed_before : (keeping : Keeping) (bytes session kept : List ℕ)
    (put : IsPut keeping bytes session kept) → is_alone put.4.marks.1 ≡ false
    → put.4.m.first_passed ≡ true → put.1.first_passed ≡ true
passed_before keeping bytes session kept (t, g, new, at, puts, spelled) alone passed =
    let (old, next, was, is, are) = puts.marks in
    mark_passed keeping g.first_passed old
    (and_parts puts.m.keeps_first (first_mark keeping g.first_passed old)
    (sym (are.first ∙ ap (λ (b : Bool). if b then mark_alone keeping puts.m g old next
    else first_of_two keeping puts.m g old) alone) ∙ passed)).1

no_mapped : {A B : Type 0} (f : A → B) (xs : List A) → xs ≢ [] → map f xs ≢ []
no_mapped f [] some none = some refl
no_mapped f (x ∷ xs) some none = absurd (omega (arith, ap length none))

module _ (laws : UndoLaws) where
  -- what the text of a line says
  pub says_line : (d : Database) (line : Line) → IsDatabase d → IsLineOf d line → (s : LiveText)
      → IsSession (spelling d line) s → s ≡ text_of d line
  unfolding spelling
  says_line d line is of s session =
      laws.texts.live s (text_of d line) [] [] session.is (laws.new d line is of)
      (append-nil (live_text s) ∙ sym session.spelled
      ∙ sym (append-nil (live_text (text_of d line))))

  -- where a history stands whose present session is that of a line
  pub record StandsSo (line : Line) (t : HistoryText) (g : GenerationText) (at : StandingText)
      : Type 0 where
    pub before : at.before ≡ length line.before
    pub after : at.after ≡ length line.after
    pub earlier : at.earlier ≡ t.present
    pub later : at.later ≡ length t.generations - t.present - 1
    pub first_passed : at.first_passed ≡ g.first_passed
    pub last_passed : at.last_passed ≡ g.last_passed

  pub stands_so : (bytes : List ℕ) (d : Database) (line : Line) → IsDatabase d → IsLineOf d line
      → (t : HistoryText) (g : GenerationText) → IsAt bytes t g → g.session ≡ spelling d line
      → (at : StandingText) → StandsAt bytes at → StandsSo line t g at
  stands_so bytes d line is of t g there spelled at (u, h, s, stood, session, same) =
      let once = place_once laws.texts bytes u t h g stood there in
      let said : s ≡ text_of d line =
      says_line d line is of s (subst (λ (x : List ℕ). IsSession x s)
      (ap (λ (x : GenerationText). x.session) once.1 ∙ spelled) session) in record {
        before =
            ap (λ (x : StandingText). x.before) same ∙ ap (λ (x : LiveText). length x.before) said
            ∙ length-map line.before (state_text d.names);
        after =
            ap (λ (x : StandingText). x.after) same ∙ ap (λ (x : LiveText). length x.after) said
            ∙ length-map line.after (state_text d.names);
        earlier =
            ap (λ (x : StandingText). x.earlier) same
            ∙ ap (λ (x : HistoryText). x.present) once.0;
        later =
            ap (λ (x : StandingText). x.later) same
            ∙ ap (λ (x : HistoryText). length x.generations - x.present - 1) once.0;
        first_passed =
            ap (λ (x : StandingText). x.first_passed) same
            ∙ ap (λ (x : GenerationText). x.first_passed) once.1;
        last_passed =
            ap (λ (x : StandingText). x.last_passed) same
            ∙ ap (λ (x : GenerationText). x.last_passed) once.1;
      }

  -- if the first state of a history is passed in which a line of two states was put, it was before
  pub put_passed : (keeping : Keeping) (bytes kept : List ℕ) (d : Database) (new : Line)
      → IsDatabase d → IsLineOf d new → is_alone (text_of d new) ≡ false
      → (put : IsPut keeping bytes (spelling d new) kept)
      → (put_stands keeping bytes (spelling d new) kept put).1.first_passed ≡ true
      → put.1.first_passed ≡ true
  put_passed keeping bytes kept d new is of alone put passed =
      let marks = put.4.marks in
      passed_before keeping bytes (spelling d new) kept put
      (ap is_alone (says_line d new is of marks.1 marks.3) ∙ alone)
      (sym (put_stands keeping bytes (spelling d new) kept put).5 ∙ passed)

  -- a line before whose current state this one stands: an undo stops there
  pub record StopsAt (d : Database) (new : Line) (front : List State) (a : State) (bytes : List ℕ)
      : Type 0 where
    pub is : IsDatabase d
    pub new_of : IsLineOf d new
    pub before : new.before ≡ front ++ a ∷ []
    pub u : HistoryText
    pub h : GenerationText
    pub h_at : IsAt bytes u h
    pub has : HasPresent bytes d (spelling d new)
    pub h_session : h.session ≡ spelling d new
    pub free : front ≡ [] → h.first_passed ≡ true → 0 < u.present → ⊥

  module _ (d : Database) (new : Line) (front : List State) (a : State) (bytes : List ℕ)
      (s : StopsAt d new front a bytes) where
    some_before : new.before ≢ []
    some_before none =
        absurd (omega (
          arith,
          ap length s.before,
          ap length none,
          length-append front (a ∷ []),
        ))

    -- the first step of an undo
    record IsBack (next : List ℕ) : Type 0 where
      back : Line
      before : IsNext back new
      back_of : IsLineOf d back
      puts : IsPut Way bytes (spelling d back) next

    back_step : (next : List ℕ) → StepsTo false bytes next → IsBack next
    back_step next (inl r) =
        let same = has_once laws.texts bytes r.base d r.session (spelling d new) (record {
          there = r.there;
          is_database = r.is_database;
          writable = r.writable;
        }) s.has in
        let Run : Database → List ℕ → Type 0 = λ b t. IsLineOf b r.line × Spells b t r.line
        × IsLineOf b r.new × IsKept Way bytes (spelling b r.new) next in
        let run : Run d (spelling d new) =
        subst (λ (t : List ℕ). Run d t) same.1
        (subst (λ (b : Database). Run b r.session) same.0 (
          r.is_line,
          r.begins,
          answer_keeps r.base r.line r.is_line (way_command false r.limit r.events) (Ok r.report)
              r.new r.does,
          r.kept,
        )) in
        let stood : r.line ≡ new =
        laws.line d (spelling d new) r.line new s.is run.0 s.new_of run.1 (inl refl) in
        let before : IsNext r.new new = subst (λ (l : Line). IsNext r.new l) stood r.arrives in
        elim run.3 [
          | inl ((database, present), stays) ↦
              let spelled : spelling d r.new ≡ spelling d new =
              (present_once laws.texts bytes database (spelling d r.new) (database_text d)
              (spelling d new) present s.has.there).1 in
              let standing : r.new ≡ new =
              laws.line d (spelling d r.new) r.new new s.is run.2 s.new_of (inl refl)
              (inl spelled) in
              absurd (omega (
                arith,
                ap length before.left,
                ap (λ (l : Line). length l.before) standing,
                length-append r.new.before (r.new.current ∷ []),
              ))
          | inr (none, puts) ↦
              record { back = r.new; before = before; back_of = run.2; puts = puts }
        ]
    back_step next (inr ((at, stands, inside, crossing), crossed)) =
        let so = stands_so bytes d new s.is s.new_of s.u s.h s.h_at s.h_session at stands in
        let low : 0 < at.before =
        omega (arith, so.before, ap length s.before, length-append front (a ∷ [])) in
        absurd (false≢true (sym inside ∙ lt-ltb 0 at.before low))

    -- an undo does not go on from there
    stops : (next : List ℕ) → IsBack next → (on : Bool) → GoesOn false next on → on ≡ false
    stops next b false goes_on = refl
    stops next b true (at, stands, goes_on) =
        let from = back_from new b.back front a s.before b.before in
        let now = put_stands Way bytes (spelling d b.back) next b.puts in
        let so = stands_so next d b.back s.is b.back_of now.0 now.1 now.2 now.4 at stands in
        let some_after : b.back.after ≢ [] =
        λ none. absurd (omega (arith, ap length b.before.reached, ap length none)) in
        let facts = goes_facts at
        (λ none. absurd (omega (arith, so.after, none, ap length b.before.reached)))
        (sym goes_on) in
        let back_alone : is_alone (text_of d b.back) ≡ false =
        and_right (is_first (text_of d b.back)) (is_last (text_of d b.back))
        (no_count (map (state_text d.names) b.back.after)
        (no_mapped (state_text d.names) b.back.after some_after)) in
        let once = place_once laws.texts bytes b.puts.0 s.u b.puts.1 s.h b.puts.3 s.h_at in
        let passed : s.h.first_passed ≡ true =
        sym (ap (λ (x : GenerationText). x.first_passed) once.1)
        ∙ put_passed Way bytes next d b.back s.is b.back_of back_alone b.puts
        (sym so.first_passed ∙ facts.1) in
        let none : front ≡ [] =
        sym from.0 ∙ none_long b.back.before (sym so.before ∙ facts.0) in
        absurd (s.free none passed
        (omega (
          arith,
          ap (λ (x : HistoryText). x.present) once.0,
          now.6,
          so.earlier,
          facts.2,
        )))

    passes_none : (n : ℕ) (next : List ℕ) → PassesTo n false bytes next → next ≡ bytes
    passes_none zero next same = same
    passes_none (suc n) next (between, passed, step, goes_on) =
        let same : between ≡ bytes = passes_none n between passed in
        absurd (false≢true (sym (stops next
        (back_step next (subst (λ (x : List ℕ). StepsTo false x next) same step)) true goes_on)))

    pub undone : UndoRestores (place_in d a) bytes
    undone back (n, between, passed, step, goes_on) =
        let same : between ≡ bytes = passes_none n between passed in
        let b = back_step back (subst (λ (x : List ℕ). StepsTo false x back) same step) in
        let now = put_stands Way bytes (spelling d b.back) back b.puts in record {
          line = b.back;
          session = spelling d b.back;
          there = (
            now.0,
            now.1,
            now.2,
            now.3 ∙ (present_once laws.texts bytes b.puts.1.database b.puts.1.session
                (database_text d) (spelling d new) (b.puts.0, b.puts.1, b.puts.3, refl, refl)
                s.has.there).0,
            now.4,
          );
          is_line = b.back_of;
          spells = inl refl;
          current = (back_from new b.back front a s.before b.before).1;
        }

  -- a line is put there which has states before its current one
  put_stops : (d : Database) (line new : Line) (front : List State) (a : State)
      (bytes end : List ℕ) (keeping : Keeping) → IsDatabase d → IsWritable d → IsLineOf d new
      → new.before ≡ front ++ a ∷ [] → IsPresent bytes (database_text d) (spelling d line)
      → (put : IsPut keeping bytes (spelling d new) end)
      → (front ≡ [] → put.1.first_passed ≡ true → 0 < put.0.present → ⊥)
      → StopsAt d new front a end
  put_stops d line new front a bytes end keeping is writable new_of before there put free =
      let now = put_stands keeping bytes (spelling d new) end put in
      let own = present_once laws.texts bytes put.1.database put.1.session (database_text d)
      (spelling d line) (put.0, put.1, put.3, refl, refl) there in
      let some : new.before ≢ [] =
      λ none. absurd (omega (
        arith,
        ap length before,
        ap length none,
        length-append front (a ∷ []),
      )) in
      let alone : is_alone (text_of d new) ≡ false =
      and_left (is_first (text_of d new)) (is_last (text_of d new))
      (no_count (map (state_text d.names) new.before)
      (no_mapped (state_text d.names) new.before some)) in record {
        is = is;
        new_of = new_of;
        before = before;
        u = now.0;
        h = now.1;
        h_at = now.2;
        has = record {
          there = (now.0, now.1, now.2, now.3 ∙ own.0, now.4);
          is_database = is;
          writable = writable;
        };
        h_session = now.4;
        free = λ none passed low. free none
            (put_passed keeping bytes end d new is new_of alone put passed)
            (omega (arith, low, now.6));
      }

  -- what is kept of a line: nothing, since it stands there; or the line, or the line without what
  -- comes after its current state
  pub record PutsLine (d : Database) (new : Line) (keeping : Keeping) (bytes end : List ℕ)
      : Type 0 where
    pub now : Line
    pub now_of : IsLineOf d now
    pub before : now.before ≡ new.before
    pub current : now.current ≡ new.current
    pub put : IsPut keeping bytes (spelling d now) end

  cut_spelled : (d : Database) (line : Line) (cut : List ℕ) → IsDatabase d → IsLineOf d line
      → Cuts (spelling d line) cut → cut ≡ spelling d (cut_line line)
  unfolding spelling
  cut_spelled d line cut is of (s, session, cut_session) =
      cut_session.spelled ∙ ap (λ (x : LiveText). live_text (cut_behind x))
      (says_line d line is of s session)

  pub puts_line : (d : Database) (new : Line) (keeping : Keeping) (bytes end : List ℕ)
      → IsDatabase d → IsLineOf d new → IsOfRun keeping
      → IsKept keeping bytes (spelling d new) end
      → (end ≡ bytes) ⊎ PutsLine d new keeping bytes end
  puts_line d new keeping bytes end is of run kept =
      elim (kept_cases keeping bytes (spelling d new) end run kept) [
        | inl same ↦ inl same
        | inr puts ↦ elim puts.is [
          | inl same ↦ inr (record {
            now = new;
            now_of = of;
            before = refl;
            current = refl;
            put = subst (λ (x : List ℕ). IsPut keeping bytes x end) same puts.put;
          })
          | inr cuts ↦ inr (record {
            now = cut_line new;
            now_of = cut_of d new of;
            before = refl;
            current = refl;
            put = subst (λ (x : List ℕ). IsPut keeping bytes x end)
                (cut_spelled d new puts.session is of cuts) puts.put;
          })
        ]
      ]

  -- a line that has the state of another one behind it is kept, where an undo would not go on from
  -- that
  grown_taken : (d : Database) (line new : Line) (front : List State) (bytes end : List ℕ)
      (keeping : Keeping) → IsDatabase d → IsWritable d → IsLineOf d line → IsLineOf d new
      → new.before ≡ front ++ line.current ∷ [] → (front ≡ [] → line.before ≡ [])
      → IsPresent bytes (database_text d) (spelling d line) → GoesOn false bytes false
      → IsOfRun keeping → IsKept keeping bytes (spelling d new) end
      → IsTakenBack bytes (place_in d line.current) end
  grown_taken d line new front bytes end keeping is writable of new_of before first there goes run
      kept =
      elim (puts_line d new keeping bytes end is new_of run kept) [
        | inl same ↦ inl same
        | inr p ↦ inr (undone d p.now front line.current end
            (put_stops d line p.now front line.current bytes end keeping is writable p.now_of
            (p.before ∙ before) there p.put (λ none passed low.
            let own = present_once laws.texts bytes p.put.1.database p.put.1.session
            (database_text d) (spelling d line) (p.put.0, p.put.1, p.put.3, refl, refl) there in
            let was =
            stands_so bytes d line is of p.put.0 p.put.1 p.put.3 own.1 goes.0 goes.1 in
            let went = facts_go goes.0 (was.before ∙ ap length (first none))
            (was.first_passed ∙ passed) (omega (arith, was.earlier, low)) in
            absurd (false≢true (goes.2 ∙ went)))))
      ]

  -- a change that is kept, whatever failed of it
  pub change_undone : (d : Database) (line new : Line) (ask : Ask) (events : List Event)
      (report : Reported) (bytes end : List ℕ) (keeping : Keeping) → IsDatabase d → IsWritable d
      → IsLineOf d line → IsPresent bytes (database_text d) (spelling d line)
      → GoesOn false bytes false → Does d line (Change ask events) report new → IsOfRun keeping
      → IsKept keeping bytes (spelling d new) end
      → IsTakenBack bytes (place_in d line.current) end
  change_undone d line new ask events report bytes end keeping is writable of there goes does run
      kept =
      elim (grown d line new ask events report of does) [
        | inl same ↦ inl (stays same)
        | inr grows ↦ grown_taken d line new grows.front bytes end keeping is writable of new_of
            grows.before grows.first there goes run kept
      ]
    where
      new_of : IsLineOf d new
      new_of = answer_keeps d line of (Change ask events) (Ok report) new does

      stays : new ≡ line → end ≡ bytes
      stays same =
          kept_stays keeping bytes (spelling d new) end run
          (subst (λ (l : Line). StandsThere bytes (spelling d l)) (sym same)
          (database_text d, there)) kept

  -- a redo that is kept, whatever failed of it
  pub redo_undone : (d : Database) (line new : Line) (bytes end : List ℕ) (keeping : Keeping)
      → IsDatabase d → IsWritable d → IsLineOf d line
      → IsPresent bytes (database_text d) (spelling d line) → GoesOn false bytes false
      → LineHasRoom line → MayDo d true line new → IsOfRun keeping
      → IsKept keeping bytes (spelling d new) end
      → IsTakenBack bytes (place_in d line.current) end
  redo_undone d line new bytes end keeping is writable of there goes room left run kept = by left
    where
      stays : new ≡ line → end ≡ bytes
      stays same =
          kept_stays keeping bytes (spelling d new) end run
          (subst (λ (l : Line). StandsThere bytes (spelling d l)) (sym same)
          (database_text d, there)) kept

      by : MayDo d true line new → IsTakenBack bytes (place_in d line.current) end
      by (inl same) = inl (stays same)
      by (inr (limit, events, report, does)) =
          elim (redone_line d line new limit events report room does) [
            | inl same ↦ inl (stays same)
            | inr before ↦ grown_taken d line new line.before bytes end keeping is writable of
                (answer_keeps d line of (Redo limit events) (Ok report) new does) before
                (λ none. none) there goes run kept
          ]

  -- an undo that is kept, whatever failed of it, where one would not go on from the state before
  pub undo_undone : (d : Database) (line back new : Line) (bytes end : List ℕ)
      (keeping : Keeping) → IsDatabase d → IsWritable d → IsLineOf d line → IsNext back line
      → IsPresent bytes (database_text d) (spelling d line) → StopsBehind bytes
      → LineHasRoom line → MayDo d false line new → IsOfRun keeping
      → IsKept keeping bytes (spelling d new) end
      → StandsOnPlace end (place_in d back.current)
      ⊎ UndoRestores (place_in d back.current) end
  undo_undone d line back new bytes end keeping is writable of next there behind room left run
      kept = by left
    where
      free : (t : HistoryText) (g : GenerationText) → IsAt bytes t g
          → g.session ≡ spelling d line → back.before ≡ [] → g.first_passed ≡ true
          → 0 < t.present → ⊥
      free t g at session none passed low =
          let so = stands_so bytes d line is of t g at session behind.0 behind.1 in
          let one : behind.0.before ≡ 1 =
          so.before ∙ ap length next.left
          ∙ ap (λ (ss : List State). length (ss ++ back.current ∷ [])) none in
          false≢true (sym behind.2
          ∙ and_from (passes_next false behind.0) (crosses false behind.0)
          (and_from (behind.0.before == 1) behind.0.first_passed
          (eq-eqb behind.0.before 1 one) (so.first_passed ∙ passed))
          (lt-ltb 0 behind.0.earlier (omega (arith, low, so.earlier))))

      as_before : end ≡ bytes → UndoRestores (place_in d back.current) end
      as_before same =
          let (t, g, at, base, session) = there in
          subst (UndoRestores (place_in d back.current)) (sym same)
          (undone d line back.before back.current bytes (record {
            is = is;
            new_of = of;
            before = next.left;
            u = t;
            h = g;
            h_at = at;
            has = record { there = there; is_database = is; writable = writable };
            h_session = session;
            free = free t g at session;
          }))

      stays : new ≡ line → UndoRestores (place_in d back.current) end
      stays same =
          as_before (kept_stays keeping bytes (spelling d new) end run
          (subst (λ (l : Line). StandsThere bytes (spelling d l)) (sym same)
          (database_text d, there)) kept)

      session_of : (text : List ℕ) (put : IsPut keeping bytes text end)
          → (put.1.database ≡ database_text d) × (put.1.session ≡ spelling d line)
      session_of text put =
          present_once laws.texts bytes put.1.database put.1.session (database_text d)
          (spelling d line) (put.0, put.1, put.3, refl, refl) there

      comes : IsLineOf d new → IsNext new line → StandsOnPlace end (place_in d back.current)
          ⊎ UndoRestores (place_in d back.current) end
      comes new_of came = elim (puts_line d new keeping bytes end is new_of run kept) [
        | inl same ↦ inr (as_before same)
        | inr p ↦
            let now = put_stands keeping bytes (spelling d p.now) end p.put in
            inl (record {
              line = p.now;
              session = spelling d p.now;
              there = (
                now.0,
                now.1,
                now.2,
                now.3 ∙ (session_of (spelling d p.now) p.put).0,
                now.4,
              );
              is_line = p.now_of;
              spells = inl refl;
              current =
                  p.current
                  ∙ (back_from line new back.before back.current next.left came).1;
            })
      ]

      between : IsLineOf d new → new.before ≡ line.before
          → StandsOnPlace end (place_in d back.current)
          ⊎ UndoRestores (place_in d back.current) end
      between new_of same = elim (puts_line d new keeping bytes end is new_of run kept) [
        | inl stood ↦ inr (as_before stood)
        | inr p ↦ inr (undone d p.now back.before back.current end
            (put_stops d line p.now back.before back.current bytes end keeping is writable p.now_of
            (p.before ∙ same ∙ next.left) there p.put
            (free p.put.0 p.put.1 p.put.3 (session_of (spelling d p.now) p.put).1)))
      ]

      by : MayDo d false line new → StandsOnPlace end (place_in d back.current)
          ⊎ UndoRestores (place_in d back.current) end
      by (inl same) = inr (stays same)
      by (inr (limit, events, report, does)) =
          let new_of = answer_keeps d line of (Undo limit events) (Ok report) new does in
          elim (undone_line d line new limit events report room does) [
            | inl same ↦ inr (stays same)
            | inr (inl came) ↦ comes new_of came
            | inr (inr same) ↦ between new_of same
          ]

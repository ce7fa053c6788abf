-- One step of an undo or a redo on the text of a history is one in the history that it gives.
use Rattle.std.proofs.Common.{◌≡◌, ◌≢◌, ◌∙◌, ◌+◌, ◌-◌, ◌<◌, inl, inr, ℕ, suc, Bool, true}
use Rattle.std.proofs.Common.{false, List, [], ◌∷◌, ◌++◌, length, All, Option, Some, Result, Ok}
use Rattle.std.proofs.Common.{slice_get, arith, refl, sym, ap, subst, length-append}
use Rattle.std.specs.Prelude.{if◌then◌else◌}
use Rattle.std.proofs.lemmas.Bool.{lt-ltb, ltb-false, ltb-true}
use Rattle.std.proofs.lemmas.List.{append-nil, length-map, nil_from_length}
use Rattle.rc_model.specs.Database.{Database, IsDatabase}
use Rattle.rc_model.specs.declared.Refusal.{Refusal}
use Rattle.rc_model.specs.Line.{Line, IsNext, states}
use Rattle.rc_model.specs.Session.{Answers, Command, IsLineOf, Redo, Reported, Undo}
use Rattle.rc_model.proofs.Lines.{next_states}
use Rattle.rc_model.proofs.Lists.{all_between}
use Rattle.rc_session.proofs.Neighbours.{one_back, one_on}
use Rattle.rc_session.proofs.States.{line_of_back, line_of_next}
use Rattle.rc_session.proofs.WaysBack.{ways_back, ways_on}
use Rattle.rc_db.specs.Database.{IsWritable}
use Rattle.rc_dbtext.specs.Spelling.{spelling as database_text}
use Rattle.rc_livetext.specs.Text.{LiveText}
use Rattle.rc_livetext.specs.Spelling.{Spells, spelling, state_text, text_with}
use Rattle.rc_history.specs.History.{Generation, History, IsHistory, IsGeneration, cursor_of}
use Rattle.rc_history.specs.History.{generations}
use Rattle.rc_history.specs.Moves.{IsAcross, MovesInside, StepsBack, StepsOn}
use Rattle.rc_history.proofs.Crossing.{same_generations}
use Rattle.rc_history.proofs.Ends.{next_first, next_last}
use Rattle.rc_historytext.specs.declared.keeping.Keeping.TheVariants.{Way}
use Rattle.rc_historytext.specs.Text.{GenerationText, HistoryText, IsHistoryText, history_text}
use Rattle.rc_historytext.specs.Moves.{crossed_back, crossed_on, with_session, with_session_at}
use Rattle.rc_historytext.specs.States.{IsSession, newest_state, oldest_state}
use Rattle.rc_historytext.specs.Present.{IsAt, IsPresent, StandingText, StandsAt, passes}
use Rattle.rc_historytext.specs.Present.{standing}
use Rattle.rc_historytext.specs.Marking.{AreMarks, is_alone}
use Rattle.rc_historytext.specs.Keeping.{IsPut, IsPutOnce, left_by}
use Rattle.rc_historytext.specs.Updating.{crossed}
use Rattle.rc_historytext.specs.Telling.{IsMovedInside, TellsStates, Tells}
use Rattle.rc_historytext.specs.Travelling.{CrossesOver, RunsInside, StandsNext, StepsTo}
use Rattle.rc_historytext.specs.Places.{GivesHistory, all_marks}
use Rattle.rc_historytext.proofs.OneFault.{text_once}
use Rattle.rc_historytext.proofs.Moving.{goes_back, goes_on, replaced}
use Rattle.rc_historytext.proofs.Presents.{at_place, place_once}
use Rattle.rc_historytext.proofs.TellingLemmas.{first_count}
use Rattle.rc_historytext.proofs.TravelledLines.{TextLaws, next_not_alone, not_alone, not_next}
use Rattle.rc_historytext.proofs.TravelledLines.{same_newest, same_oldest, says_line, some_after}
use Rattle.rc_historytext.proofs.TravelledLines.{some_before, way_leaves}
use Rattle.rc_historytext.proofs.TravelledMarks.{mark_between, mark_now, marks_kept}
use Rattle.rc_historytext.proofs.TravelledTexts.{first_told}
use Rattle.rc_historytext.proofs.TravelledTexts.{with_middle}

-- the laws of other crates that are used here
pub record Laws : Type 0 where
  pub database : (a b : Database) (x y : List ℕ) → IsDatabase a → IsWritable a → IsDatabase b
      → IsWritable b → database_text a ++ x ≡ database_text b ++ y → a ≡ b
  pub line : (d : Database) (bytes : List ℕ) (a b : Line) → IsDatabase d → IsLineOf d a
      → IsLineOf d b → Spells d bytes a → Spells d bytes b → a ≡ b
  pub texts : TextLaws
  pub on : (h next : History) → IsAcross h next → IsHistory h → IsHistory next
  pub back : (h next : History) → IsAcross h next → IsHistory next → IsHistory h
  pub inside : (h new : History) (command : Command) (answer : Result Reported Refusal)
      → IsHistory h → MovesInside h command answer new → IsHistory new

-- a history with another line in its present generation
abbrev pub with_line : History → Line → History
with_line h line = record h { present = record h.present { line = line } }

-- a text of a history, and the history
module _ (laws : Laws) (h : History) (is : IsHistory h) (marks : List Bool) (bytes : List ℕ)
    (gives : GivesHistory bytes h marks) where
  pub present_is : IsGeneration h.present
  present_is = all_between IsGeneration h.earlier h.present h.later is.each

  pub present_text : GenerationText
  present_text = (at_place gives.t.generations gives.t.present gives.is.present).0

  pub present_there : IsAt bytes gives.t present_text
  unfolding present_text
  present_there = record {
    is = gives.is;
    spelled = gives.spelled;
    there = (at_place gives.t.generations gives.t.present gives.is.present).1;
  }

  pub place_there : slice_get gives.t.generations (length h.earlier) ≡ Some present_text
  place_there =
      subst (λ (k : ℕ). slice_get gives.t.generations k ≡ Some present_text) gives.tells.place
      present_there.there

  pub present_told : TellsStates present_text h.present
  present_told =
      first_told gives.t.generations h.earlier h.present h.later present_text gives.tells.each
      place_there

  -- the present session is that of the line
  pub present_says : (s : LiveText) → IsSession present_text.session s
      → (b : Option ℕ) × (s ≡ text_with b h.present.base h.present.line)
  present_says s session =
      says_line laws.texts h.present.base h.present.line present_is.database present_is.line
      present_text.session s session present_told.session

  -- another line of the same states, put with the same marks
  left_with : (new : Line) (t : HistoryText) (session : List ℕ)
      → IsMovedInside h (with_line h new) session → states new ≡ states h.present.line
      → IsHistoryText t
      → t ≡ with_session gives.t session present_text.first_passed present_text.last_passed
      → GivesHistory (history_text t) (with_line h new) marks
  left_with new t session moved same put left =
      let first : Bool = present_text.first_passed in
      let last : Bool = present_text.last_passed in
      let Can : Generation → Type 0 = λ g. IsWritable g.base in record {
        t = t;
        is = put;
        spelled = refl;
        tells =
            subst (λ (u : HistoryText). Tells u (with_line h new)) (sym left)
            (replaced gives.t session first last h (with_line h new) gives.tells moved refl refl);
        writable =
            with_middle Can h.earlier h.present (with_line h new).present h.later
            (all_between Can h.earlier h.present h.later gives.writable) gives.writable;
        marked =
            gives.marked
            ∙ sym (marks_kept gives.t.generations h.earlier h.present (with_line h new).present
            h.later present_text session place_there same)
            ∙ ap (λ (k : ℕ). all_marks
            (with_session_at k gives.t.generations session first last)
            (generations (with_line h new))) (sym gives.tells.place)
            ∙ ap (λ (u : HistoryText). all_marks u.generations (generations (with_line h new)))
            (sym left);
      }

  -- the session that is put says the line
  put_with : (new : Line) (next : List ℕ) → IsLineOf h.present.base new
      → states new ≡ states h.present.line
      → ((b c : Option ℕ) → oldest_state (text_with b h.present.base new)
      ≡ oldest_state (text_with c h.present.base h.present.line))
      → ((b c : Option ℕ) → newest_state (text_with b h.present.base new)
      ≡ newest_state (text_with c h.present.base h.present.line))
      → ((b : Option ℕ) → is_alone (text_with b h.present.base new) ≡ false)
      → IsMovedInside h (with_line h new) (spelling h.present.base new)
      → IsPut Way bytes (spelling h.present.base new) next
      → GivesHistory next (with_line h new) marks
  put_with new next of states_are oldest newest alone moved (t, g, put, at, puts, kept) =
      let session : List ℕ = spelling h.present.base new in
      let same = place_once bytes t gives.t g present_text at present_there in
      let old : LiveText = puts.marks.0 in
      let said : LiveText = puts.marks.1 in
      let was = present_says old
      (subst (λ (x : GenerationText). IsSession x.session old) same.1 puts.marks.2) in
      let now = says_line laws.texts h.present.base new present_is.database of session said
      puts.marks.3 (inl refl) in
      let left : left_by puts.m gives.t session
      ≡ with_session gives.t session present_text.first_passed present_text.last_passed =
      way_leaves gives.t present_text session old said puts.m
      (subst (λ (x : GenerationText). AreMarks Way x old said puts.m) same.1 puts.marks.4)
      (ap oldest_state now.1 ∙ oldest now.0 was.0 ∙ sym (ap oldest_state was.1))
      (ap newest_state now.1 ∙ newest now.0 was.0 ∙ sym (ap newest_state was.1))
      (ap is_alone now.1 ∙ alone now.0) in
      subst (λ (text : List ℕ). GivesHistory text (with_line h new) marks) (sym kept)
      (left_with new put session moved states_are puts.is
      (puts.left ∙ ap (λ (u : HistoryText). left_by puts.m u session) same.0 ∙ left))

  -- it does not stand there before
  is_put : (new : Line) (next : List ℕ) → IsLineOf h.present.base new → h.present.line ≢ new
      → IsPutOnce Way bytes (spelling h.present.base new) next
      → IsPut Way bytes (spelling h.present.base new) next
  is_put new next of other (inr put) = put.1
  is_put new next of other (inl stays) =
      let there = stays.0.1 in
      let same = place_once bytes there.0 gives.t there.1 present_text there.2 present_there in
      let session : present_text.session ≡ spelling h.present.base new =
      ap (λ (x : GenerationText). x.session) (sym same.1) ∙ there.4 in
      absurd (other (laws.line h.present.base present_text.session h.present.line new
      present_is.database present_is.line of present_told.session (inl session)))

  -- texts of the present generation are those of its database and of its line
  pub base_is : (base : Database) (session : List ℕ)
      → IsPresent bytes (database_text base) session → IsDatabase base → IsWritable base
      → base ≡ h.present.base
  base_is base session there is_database writable =
      let Can : Generation → Type 0 = λ g. IsWritable g.base in
      let same = (place_once bytes there.0 gives.t there.1 present_text there.2 present_there).1 in
      laws.database base h.present.base [] [] is_database writable present_is.database
      (all_between Can h.earlier h.present h.later gives.writable)
      (ap (λ (text : List ℕ). text ++ [])
      (sym there.3 ∙ ap (λ (x : GenerationText). x.database) same ∙ present_told.database))

  pub line_is : (base : Database) (session : List ℕ) (line : Line)
      → IsPresent bytes (database_text base) session → IsDatabase base → IsWritable base
      → IsLineOf base line → Spells base session line → line ≡ h.present.line
  line_is base session line there is_database writable of begins =
      let same = (place_once bytes there.0 gives.t there.1 present_text there.2 present_there).1 in
      let base_same = base_is base session there is_database writable in
      let session_same : session ≡ present_text.session =
      sym there.4 ∙ ap (λ (x : GenerationText). x.session) same in
      laws.line h.present.base session line h.present.line present_is.database
      (subst (λ (d : Database). IsLineOf d line) base_same of) present_is.line
      (subst (λ (d : Database). Spells d session line) base_same begins)
      (subst (λ (text : List ℕ). Spells h.present.base text h.present.line) (sym session_same)
      present_told.session)

  -- a run inside is one in the present generation of that history
  module _ (on : Bool) (next : List ℕ) (run : RunsInside on bytes next) where
    run_base : run.base ≡ h.present.base
    run_base = base_is run.base run.session run.there run.is_database run.writable

    run_line : run.line ≡ h.present.line
    run_line =
        line_is run.base run.session run.line run.there run.is_database run.writable run.is_line
        run.begins

    pub run_next : StandsNext on h.present.line run.new
    run_next = subst (λ (l : Line). StandsNext on l run.new) run_line run.arrives

    pub run_kept : IsPutOnce Way bytes (spelling h.present.base run.new) next
    run_kept =
        subst (λ (d : Database). IsPutOnce Way bytes (spelling d run.new) next) run_base run.kept

  back_inside : (next : List ℕ) → RunsInside false bytes next
      → (new : History) × GivesHistory next new marks × IsHistory new × StepsBack h new
  back_inside next run =
      let line : Line = h.present.line in
      let on : IsNext run.new line = run_next false next run in
      let of = line_of_back h.present.base run.new line on present_is.line in
      let way = ways_back h.present.base line present_is.database present_is.line 0
      (some_before run.new line on) in
      let same : way.0 ≡ run.new = one_back way.0 run.new line way.1 on in
      let command : Command = Undo 0 way.2.0 in
      let answer : Result Reported Refusal = Ok way.2.1 in
      let moves : MovesInside h command answer (with_line h run.new) = record {
        answers =
            subst (λ (l : Line). Answers h.present.base line command answer l) same way.2.2;
        base = refl;
        by = refl;
        earlier = inl (sym (next_first run.new line on), refl);
        later = inl ((sym (next_last run.new line on), inl tt), refl);
      } in (
        with_line h run.new,
        put_with run.new next of (sym (next_states run.new line on))
            (λ b c. sym (same_oldest h.present.base c b run.new line on))
            (λ b c. sym (same_newest h.present.base c b run.new line on))
            (λ b. not_alone h.present.base b run.new line on)
            (record { command = command; answer = answer; moves = moves; spells = inl refl })
            (is_put run.new next of (λ equal. not_next run.new line on (sym equal))
            (run_kept false next run)),
        laws.inside h (with_line h run.new) command answer is moves,
        inr (command, answer, tt, way.2.3, moves),
      )

  on_inside : (next : List ℕ) → RunsInside true bytes next
      → (new : History) × GivesHistory next new marks × IsHistory new × StepsOn h new
  on_inside next run =
      let line : Line = h.present.line in
      let on : IsNext line run.new = run_next true next run in
      let of = line_of_next h.present.base line run.new on present_is.line in
      let way = ways_on h.present.base line present_is.database present_is.line 0
      (some_after line run.new on) in
      let same : way.0 ≡ run.new = one_on line way.0 run.new way.1 on in
      let command : Command = Redo 0 way.2.0 in
      let answer : Result Reported Refusal = Ok way.2.1 in
      let moves : MovesInside h command answer (with_line h run.new) = record {
        answers =
            subst (λ (l : Line). Answers h.present.base line command answer l) same way.2.2;
        base = refl;
        by = refl;
        earlier = inl (next_first line run.new on, refl);
        later = inl ((next_last line run.new on, inr (inl tt)), refl);
      } in (
        with_line h run.new,
        put_with run.new next of (next_states line run.new on)
            (λ b c. same_oldest h.present.base b c line run.new on)
            (λ b c. same_newest h.present.base b c line run.new on)
            (λ b. next_not_alone h.present.base b line run.new on)
            (record { command = command; answer = answer; moves = moves; spells = inl refl })
            (is_put run.new next of (not_next line run.new on) (run_kept true next run)),
        laws.inside h (with_line h run.new) command answer is moves,
        inr (command, answer, tt, way.2.3, moves),
      )

  -- where the history stands
  pub stands_so : (at : StandingText) → StandsAt bytes at
      → (s : LiveText) × IsSession present_text.session s × (at ≡ standing gives.t present_text s)
  stands_so at (t, g, s, there, session, is_so) =
      let same = place_once bytes t gives.t g present_text there present_there in (
        s,
        subst (λ (x : GenerationText). IsSession x.session s) same.1 session,
        is_so ∙ (λ i. standing (same.0 i) (same.1 i) s),
      )

  generation_count : length gives.t.generations ≡ length h.earlier + suc (length h.later)
  generation_count =
      first_count gives.t.generations (generations h) gives.tells.each
      ∙ length-append h.earlier (h.present ∷ h.later)

  module _ (at : StandingText) (stands : StandsAt bytes at) where
    said : (b : Option ℕ) × ((stands_so at stands).0 ≡ text_with b h.present.base h.present.line)
    said = present_says (stands_so at stands).0 (stands_so at stands).1

    pub earlier_are : at.earlier ≡ length h.earlier
    earlier_are =
        ap (λ (x : StandingText). x.earlier) (stands_so at stands).2 ∙ gives.tells.place

    pub later_are : at.later ≡ length h.later
    later_are =
        let is_so : at.later ≡ length gives.t.generations - gives.t.present - 1 =
        ap (λ (x : StandingText). x.later) (stands_so at stands).2 in
        omega (arith, is_so, generation_count, gives.tells.place)

    pub before_are : at.before ≡ length h.present.line.before
    before_are =
        ap (λ (x : StandingText). x.before) (stands_so at stands).2
        ∙ ap (λ (s : LiveText). length s.before) said.1
        ∙ length-map h.present.line.before (state_text h.present.base.names)

    pub after_are : at.after ≡ length h.present.line.after
    after_are =
        ap (λ (x : StandingText). x.after) (stands_so at stands).2
        ∙ ap (λ (s : LiveText). length s.after) said.1
        ∙ length-map h.present.line.after (state_text h.present.base.names)

    -- and the mark of that place
    pub mark_is : slice_get marks (cursor_of h) ≡ Some (passes at)
    mark_is =
        ap (λ (bs : List Bool). slice_get bs (cursor_of h)) gives.marked
        ∙ mark_now gives.t.generations h present_text place_there
        ∙ ap Some (λ i. mark_between (first_is i) (last_is i) (before_is i) (after_is i))
      where
        first_is : present_text.first_passed ≡ at.first_passed
        first_is = ap (λ (x : StandingText). x.first_passed) (sym (stands_so at stands).2)

        last_is : present_text.last_passed ≡ at.last_passed
        last_is = ap (λ (x : StandingText). x.last_passed) (sym (stands_so at stands).2)

        before_is : length h.present.line.before ≡ at.before
        before_is = sym before_are

        after_is : length h.present.line.after ≡ at.after
        after_is = sym after_are

  -- a border that is crossed on the text is crossed in the history
  crossed_with : (t : HistoryText) (next : History) → IsHistoryText t → Tells t next
      → t.generations ≡ gives.t.generations → generations next ≡ generations h
      → GivesHistory (history_text t) next marks
  crossed_with t next is_text tells same generations_are = record {
    t = t;
    is = is_text;
    spelled = refl;
    tells = tells;
    writable =
        subst (All (λ (g : Generation). IsWritable g.base)) (sym generations_are)
        gives.writable;
    marked = gives.marked ∙ (λ i. all_marks (sym same i) (sym generations_are i));
  }

  back_across : (next : List ℕ) → CrossesOver false bytes next
      → (new : History) × GivesHistory next new marks × IsHistory new × StepsBack h new
  back_across next ((at, stands, inside, crosses_it), (t, is_text, spelled, put, kept)) =
      let same : t ≡ gives.t = (text_once t gives.t [] [] is_text gives.is
      (append-nil (history_text t) ∙ sym spelled ∙ gives.spelled
      ∙ sym (append-nil (history_text gives.t)))).0 in
      let some : 0 < gives.t.present =
      omega (arith, ltb-true 0 at.earlier crosses_it, earlier_are at stands, gives.tells.place) in
      let moves : crossed false t ≡ crossed_back gives.t =
      ap (λ (u : HistoryText). crossed false u) same
      ∙ ap (λ (b : Bool). if b then crossed_back gives.t else gives.t)
      (lt-ltb 0 gives.t.present some) in
      let none : h.present.line.before ≡ [] =
      nil_from_length h.present.line.before
      (omega (arith, ltb-false 0 at.before inside, before_are at stands)) in
      let crossing = goes_back gives.t h is gives.tells some none in (
        crossing.0,
        subst (λ (text : List ℕ). GivesHistory text crossing.0 marks)
            (sym (kept ∙ ap history_text moves))
            (crossed_with (crossed_back gives.t) crossing.0 (subst IsHistoryText moves put)
            crossing.1 refl (sym (same_generations crossing.0 h crossing.2))),
        laws.back crossing.0 h crossing.2 is,
        inl crossing.2,
      )

  on_across : (next : List ℕ) → CrossesOver true bytes next
      → (new : History) × GivesHistory next new marks × IsHistory new × StepsOn h new
  on_across next ((at, stands, inside, crosses_it), (t, is_text, spelled, put, kept)) =
      let same : t ≡ gives.t = (text_once t gives.t [] [] is_text gives.is
      (append-nil (history_text t) ∙ sym spelled ∙ gives.spelled
      ∙ sym (append-nil (history_text gives.t)))).0 in
      let some : gives.t.present + 1 < length gives.t.generations =
      omega (
        arith,
        ltb-true 0 at.later crosses_it,
        later_are at stands,
        gives.tells.place,
        generation_count,
      ) in
      let moves : crossed true t ≡ crossed_on gives.t =
      ap (λ (u : HistoryText). crossed true u) same
      ∙ ap (λ (b : Bool). if b then crossed_on gives.t else gives.t)
      (lt-ltb (gives.t.present + 1) (length gives.t.generations) some) in
      let none : h.present.line.after ≡ [] =
      nil_from_length h.present.line.after
      (omega (arith, ltb-false 0 at.after inside, after_are at stands)) in
      let crossing = goes_on gives.t h is gives.tells some none in (
        crossing.0,
        subst (λ (text : List ℕ). GivesHistory text crossing.0 marks)
            (sym (kept ∙ ap history_text moves))
            (crossed_with (crossed_on gives.t) crossing.0 (subst IsHistoryText moves put)
            crossing.1 refl (same_generations h crossing.0 crossing.2)),
        laws.on h crossing.0 crossing.2 is,
        inl crossing.2,
      )

  -- so is each step
  pub step_back : (next : List ℕ) → StepsTo false bytes next
      → (new : History) × GivesHistory next new marks × IsHistory new × StepsBack h new
  step_back next (inl run) = back_inside next run
  step_back next (inr over) = back_across next over

  pub step_on : (next : List ℕ) → StepsTo true bytes next
      → (new : History) × GivesHistory next new marks × IsHistory new × StepsOn h new
  step_on next (inl run) = on_inside next run
  step_on next (inr over) = on_across next over

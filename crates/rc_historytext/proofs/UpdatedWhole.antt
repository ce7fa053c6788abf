-- An update on the text of a history is one of the history that it gives, and passes what is
-- between its ends.
use Rattle.std.proofs.Common.{◌≡◌, ◌∙◌, ◌⊎◌, ◌+◌, ◌-◌, ◌<◌, ◌≤◌, ◌==◌, ◌&&◌, inl, inr}
use Rattle.std.proofs.Common.{ℕ, suc, Bool, true, false, List, [], ◌∷◌, ◌++◌, length, map}
use Rattle.std.proofs.Common.{Some, slice_get, arith, refl, sym, ap, subst, append_assoc}
use Rattle.std.proofs.Common.{length-append}
use Rattle.std.proofs.lemmas.Bool.{cases_lt, or_left, or_right}
use Rattle.std.proofs.lemmas.List.{length-map}
use Rattle.std.proofs.lemmas.Option.{same_Some}
use Rattle.rc_model.specs.Names.{Has, Holds}
use Rattle.rc_model.specs.Database.{Database, IsDatabase}
use Rattle.rc_model.specs.Line.{IsBound, Line, State, states}
use Rattle.rc_model.specs.Headline.{TargetOfCommand}
use Rattle.rc_model.specs.declared.Event.{Event}
use Rattle.rc_model.specs.Plan.{Ask}
use Rattle.rc_model.specs.Session.{Change, Does, IsLineOf, Reported}
use Rattle.rc_db.specs.Database.{IsWritable}
use Rattle.rc_dbtext.specs.Spelling.{spelling as database_text}
use Rattle.rc_livetext.specs.Spelling.{spelling}
use Rattle.rc_update.specs.Carrying.{Carried, IsUnaltered, StaysUp}
use Rattle.rc_update.specs.Conversions.{Conversion}
use Rattle.rc_update.specs.Distinct.{AreDistinct}
use Rattle.rc_history.specs.History.{Generation, History, IsHistory, all_places, cursor_of}
use Rattle.rc_history.specs.History.{generations, place_in, places_of}
use Rattle.rc_history.specs.Moves.{cut_after}
use Rattle.rc_history.specs.Promises.{IsUpdate}
use Rattle.rc_history.specs.Stops.{ArePassed, IsPassedAt, IsStopBack}
use Rattle.rc_history.proofs.Ends.{few_added}
use Rattle.rc_historytext.specs.Text.{GenerationText}
use Rattle.rc_historytext.specs.Present.{IsPresent}
use Rattle.rc_historytext.specs.Places.{GivesHistory, all_marks}
use Rattle.rc_historytext.specs.Travelling.{GoesOn}
use Rattle.rc_historytext.specs.Updates.{CarriesOver, EntersOn, GivesUpdated, Lowers, Raises}
use Rattle.rc_historytext.specs.Updates.{KeepsLeft, UpdatesTo, renamed}
use Rattle.rc_historytext.specs.Updating.{IsSettled}
use Rattle.rc_historytext.proofs.Presents.{place_once}
use Rattle.rc_historytext.proofs.TravelledMarks.{mark_between}
use Rattle.rc_historytext.proofs.TravelledSteps.{base_is, line_is, present_text}
use Rattle.rc_historytext.proofs.TravelledSteps.{present_there, present_told}
use Rattle.rc_historytext.proofs.TravelledStops.{stops_back}
use Rattle.rc_historytext.proofs.UpdatedBorders.{InNew, UpdateLaws, border, cut_mark}
use Rattle.rc_historytext.proofs.UpdatedEnds.{FirstHalf, SecondHalf, first_half, second_half}
use Rattle.rc_historytext.proofs.UpdatedEnds.{settles}
use Rattle.rc_historytext.proofs.UpdatedHalves.{carried_left, left_live, left_unaltered}
use Rattle.rc_historytext.proofs.UpdatedTexts.{IsMarkedAt, mark_of}

-- how many places generations have
places_push : (xs : List Generation) (g : Generation)
    → length (all_places (xs ++ g ∷ [])) ≡ length (all_places xs) + length (states g.line)
places_push [] g =
    let long : length (places_of g ++ []) ≡ length (places_of g) + 0 =
    length-append (places_of g) [] in
    omega (arith, long, length-map (states g.line) (place_in g.base))
places_push (x ∷ xs) g =
    let both : length (all_places (x ∷ (xs ++ g ∷ [])))
    ≡ length (places_of x) + length (all_places (xs ++ g ∷ [])) =
    length-append (places_of x) (all_places (xs ++ g ∷ [])) in
    let front : length (all_places (x ∷ xs)) ≡ length (places_of x) + length (all_places xs) =
    length-append (places_of x) (all_places xs) in
    omega (arith, both, front, places_push xs g)

fewer_places : (h room : List Generation)
    → (room ≡ h) ⊎ ((gone : Generation) × (h ≡ gone ∷ room))
    → length (all_places room) ≤ length (all_places h)
fewer_places h room (inl same) =
    let long : length (all_places room) ≡ length (all_places h) =
    ap (λ (gs : List Generation). length (all_places gs)) same in omega (arith, long)
fewer_places h room (inr (gone, same)) =
    let long : length (all_places h) ≡ length (places_of gone) + length (all_places room) =
    ap (λ (gs : List Generation). length (all_places gs)) same
    ∙ length-append (places_of gone) (all_places room) in omega (arith, long)

one_state : (ss : List State) → length ss ≡ 1 → (s : State) × (ss ≡ s ∷ [])
one_state [] one = absurd (omega (arith, one))
one_state (s ∷ []) one = (s, refl)
one_state (s ∷ t ∷ ss) one = absurd (omega (arith, one))

-- the parts of an update, one behind the other
module _ (h : History) (marks : List Bool) (stop : IsStopBack marks h) (list : List Conversion)
    (d : Database) (lowers_new : Line) (lowering : Ask) (lowered : List Event)
    (first : Reported)
    (half next : List ℕ) (f : FirstHalf h marks lowers_new lowering lowered first half)
    (start : Line) (entered : List ℕ) (n : InNew f.half list d start f.own entered)
    (new : Line) (raising : Ask) (raised : List Event) (second : Reported) (session : List ℕ)
    (s : SecondHalf n.there new raising raised second (length n.room.earlier) session
    f.own.first_passed (cut_mark f.own.first_passed f.own.last_passed
    (length f.half.present.line.before) (length f.half.present.line.after)) next) where
  room : List Generation
  room = n.room.earlier

  left : Generation
  left = cut_after f.half.present

  last_mark : Bool
  last_mark = cut_mark f.own.first_passed f.own.last_passed
      (length f.half.present.line.before) (length f.half.present.line.after)

  earlier_is : s.there.earlier ≡ n.room.earlier ++ cut_after f.half.present ∷ []
  earlier_is = s.earlier ∙ n.earlier

  -- where it began
  begins_at : ℕ
  begins_at = length (all_places n.room.earlier) + length f.front

  left_long : length (states (cut_after f.half.present).line)
      ≡ length f.front + suc (length f.ends)
  left_long =
      ap length f.states_are ∙ length-append f.front (h.present.line.current ∷ f.ends)

  half_long : length f.half.present.line.before ≡ length f.front + length f.ends
  half_long =
      omega (
        arith,
        left_long,
        length-append f.half.present.line.before (f.half.present.line.current ∷ []),
      )

  earlier_long : length (all_places s.there.earlier)
      ≡ length (all_places n.room.earlier) + length f.front + suc (length f.ends)
  earlier_long =
      let one : length (all_places s.there.earlier)
      ≡ length (all_places n.room.earlier) + length (states (cut_after f.half.present).line) =
      ap (λ (gs : List Generation). length (all_places gs)) earlier_is
      ∙ places_push n.room.earlier (cut_after f.half.present) in
      omega (arith, one, left_long)

  cursor_is : cursor_of s.there
      ≡ length (all_places s.there.earlier) + length s.there.present.line.before
  cursor_is =
      length-append (all_places s.there.earlier)
      (map (place_in s.there.present.base) s.there.present.line.before)
      ∙ ap (λ (k : ℕ). length (all_places s.there.earlier) + k)
      (length-map s.there.present.line.before (place_in s.there.present.base))

  number : ℕ
  number = length f.ends + 1 + length s.there.present.line.before

  place_is : cursor_of s.there
      - (length f.ends + 1 + length s.there.present.line.before)
      ≡ length (all_places n.room.earlier) + length f.front
  place_is = omega (arith, cursor_is, earlier_long)

  -- the marks of the generation that was left
  all_is : generations s.there ≡ n.room.earlier
      ++ cut_after f.half.present ∷ s.there.present ∷ s.there.later
  all_is =
      ap (λ (gs : List Generation). gs ++ s.there.present ∷ s.there.later) earlier_is
      ∙ append_assoc n.room.earlier (cut_after f.half.present ∷ [])
      (s.there.present ∷ s.there.later)

  left_mark : (before : List State) (state : State) (after : List State)
      → states (cut_after f.half.present).line ≡ before ++ state ∷ after
      → slice_get s.now (length (all_places n.room.earlier) + length before)
      ≡ Some (mark_between f.own.first_passed
      (cut_mark f.own.first_passed f.own.last_passed (length f.half.present.line.before)
      (length f.half.present.line.after)) (length before) (length after))
  left_mark before state after same =
      ap (λ (bs : List Bool). slice_get bs (length (all_places n.room.earlier) + length before))
      (s.gives.marked
      ∙ ap (λ (gs : List Generation). all_marks s.gives.t.generations gs) all_is)
      ∙ mark_of s.gives.t.generations n.room.earlier (cut_after f.half.present)
      (s.there.present ∷ s.there.later) before state after session f.own.first_passed
      (cut_mark f.own.first_passed f.own.last_passed (length f.half.present.line.before)
      (length f.half.present.line.after)) same s.before

  begins_free : (IsPassedAt s.now (length (all_places n.room.earlier) + length f.front) → ⊥)
      ⊎ (length (all_places n.room.earlier) + length f.front ≡ 0)
  begins_free = elim stop [
    | inl free ↦ inl (λ passed.
        free (f.begins (same_Some
        (mark_between f.own.first_passed (cut_mark f.own.first_passed f.own.last_passed
        (length f.half.present.line.before) (length f.half.present.line.after))
        (length f.front) (length f.ends)) true
        (sym (left_mark f.front h.present.line.current f.ends f.states_are) ∙ passed))))
    | inr none ↦
        let fewer : length (all_places n.room.earlier) ≤ length (all_places f.half.earlier) =
        fewer_places f.half.earlier n.room.earlier n.front in
        let was : length (all_places f.half.earlier) ≤ length (all_places h.earlier) =
        elim f.earlier [
          | inl same ↦ (let long : length (all_places f.half.earlier)
              ≡ length (all_places h.earlier) =
              ap (λ (gs : List Generation). length (all_places gs)) same in omega (arith, long))
          | inr gone ↦ (let long : length (all_places f.half.earlier) ≡ 0 =
              ap (λ (gs : List Generation). length (all_places gs)) gone in omega (arith, long))
        ] in
        let cursor : cursor_of h ≡ length (all_places h.earlier) + length h.present.line.before =
        length-append (all_places h.earlier)
        (map (place_in h.present.base) h.present.line.before)
        ∙ ap (λ (k : ℕ). length (all_places h.earlier) + k)
        (length-map h.present.line.before (place_in h.present.base)) in
        inr (omega (arith, none, cursor, fewer, was, f.few))
  ]

  -- what is between
  left_passed : (k : ℕ) → length (all_places n.room.earlier) + length f.front < k
      → k < length (all_places s.there.earlier) → IsPassedAt s.now k
  left_passed k low high =
      let few = few_added h.present.line f.half.present.line (length f.ends) f.adds in
      let one : length f.ends ≡ 1 = omega (arith, low, high, earlier_long, few) in
      let here : length (all_places n.room.earlier) + length f.half.present.line.before ≡ k =
      omega (arith, low, high, earlier_long, half_long, one) in
      subst (IsPassedAt s.now) here
      (left_mark f.half.present.line.before f.half.present.line.current [] refl
      ∙ ap Some (or_right
      (length f.half.present.line.before == 0 && f.own.first_passed)
      (cut_mark f.own.first_passed f.own.last_passed (length f.half.present.line.before)
      (length f.half.present.line.after)) (f.passed one)))

  here_passed : (k : ℕ) → length (all_places s.there.earlier) ≤ k → k < cursor_of s.there
      → IsPassedAt s.now k
  here_passed k low high =
      let few = few_added n.there.present.line s.there.present.line
      (length s.there.present.line.before) s.adds in
      let one : length s.there.present.line.before ≡ 1 = omega (arith, low, high, cursor_is, few) in
      let first_one = one_state s.there.present.line.before one in
      let here : length (all_places s.there.earlier) + length {A = State} [] ≡ k =
      omega (arith, low, high, cursor_is, one) in
      let own_at : IsMarkedAt s.gives.t.generations (length s.there.earlier) s.own.session
      s.own.first_passed s.own.last_passed = record {
        text = s.own;
        there =
            subst (λ (j : ℕ). slice_get s.gives.t.generations j ≡ Some s.own)
            s.gives.tells.place s.at;
        session_is = refl;
        first_is = refl;
        last_is = refl;
      } in
      subst (IsPassedAt s.now) here
      (ap (λ (bs : List Bool). slice_get bs
      (length (all_places s.there.earlier) + length {A = State} [])) s.gives.marked
      ∙ mark_of s.gives.t.generations s.there.earlier s.there.present s.there.later []
      first_one.0 (s.there.present.line.current ∷ s.there.present.line.after) s.own.session
      s.own.first_passed s.own.last_passed
      (ap (λ (ss : List State). ss ++ s.there.present.line.current
      ∷ s.there.present.line.after) first_one.1) own_at
      ∙ ap Some (or_left (true && s.own.first_passed)
      (length (s.there.present.line.current ∷ s.there.present.line.after) == 0
      && s.own.last_passed) (s.passed one)))

  pub passed_are : ArePassed s.now s.there
      (length f.ends + 1 + length s.there.present.line.before)
  passed_are = record {
    begins = elim begins_free [
      | inl free ↦ inl (λ passed. free (subst (IsPassedAt s.now) place_is passed))
      | inr none ↦ inr (place_is ∙ none)
    ];
    between = λ k low high. elim (cases_lt k (length (all_places s.there.earlier))) [
      | inl before ↦ left_passed k (omega (arith, low, place_is)) before
      | inr behind ↦ here_passed k (omega (arith, behind)) high
    ];
  }

-- an update on the text
module _ (laws : UpdateLaws) (list : List Conversion) (d : Database) (bytes done : List ℕ)
    (h : History) (marks : List Bool) (distinct : AreDistinct list) (is : IsHistory h)
    (gives : GivesHistory bytes h marks) (goes : GoesOn false bytes false) where
  module _ (start : Line) (half entered : List ℕ)
      (lowers : Lowers list h.present.base d h.present.line bytes half)
      (enters : EntersOn list h.present.base d h.present.line start half entered) where
    own_is : (present_text laws.ways h is marks bytes gives).session
        ≡ spelling h.present.base h.present.line
    own_is =
        let there = lowers.stands.there in
        sym (ap (λ (x : GenerationText). x.session)
        (place_once bytes there.0 gives.t there.1 (present_text laws.ways h is marks bytes gives)
        there.2 (present_there laws.ways h is marks bytes gives)).1)
        ∙ there.4

    f : FirstHalf h marks lowers.new lowers.ask lowers.events lowers.report half
    f =
        first_half laws.ways h is marks bytes gives lowers.new lowers.ask lowers.events
        lowers.report half lowers.does own_is lowers.stands.there lowers.keeps

    live_is : Holds lowers.new.current.live
        (StaysUp h.present.base d list (Has h.present.line.current.live))
    live_is =
        left_live h.present.base d list h.present.line lowers.ask lowers.stands.is_database
        lowers.stands.is_line lowers.words lowers.mode lowers.named lowers.events
        lowers.new.current.live lowers.arrives

    unaltered : (s : ℕ) → Has lowers.new.current.live s
        → IsUnaltered h.present.base d list s
    unaltered =
        left_unaltered h.present.base d list h.present.line lowers.ask lowers.stands.is_database
        lowers.stands.is_line lowers.words lowers.mode lowers.named lowers.events
        lowers.new.current.live lowers.arrives
        (laws.decided h.present.base d list lowers.stands.is_database enters.is_database)

    n : InNew f.half list d start f.own entered
    unfolding f
    n =
        let g = first_half laws.ways h is marks bytes gives lowers.new lowers.ask lowers.events
        lowers.report half lowers.does own_is lowers.stands.there lowers.keeps in
        border laws g.half g.history g.now half g.gives g.own g.at g.spelled list d start entered
        distinct
        (subst (λ (l : Line). (s : ℕ) → Has l.current.live s
        → IsUnaltered g.half.present.base d list s) (sym g.line)
        (subst (λ (b : Database). (s : ℕ) → Has lowers.new.current.live s
        → IsUnaltered b d list s) (sym g.base) unaltered))
        enters.is_database enters.writable enters.before enters.after
        (subst IsBound (sym enters.bound) lowers.stands.is_line.is_line.bound) enters.table
        enters.length
        (subst (λ (l : Line). Holds start.current.live
        (Carried g.half.present.base d list (Has l.current.live))) (sym g.line)
        (subst (λ (b : Database). Holds start.current.live
        (Carried b d list (Has lowers.new.current.live))) (sym g.base)
        (carried_left h.present.base d list h.present.line lowers.ask lowers.stands.is_database
        lowers.stands.is_line lowers.words lowers.new.current.live start.current.live live_is
        enters.live)))
        enters.enters

    module _ (raises : Raises d start entered done) where
      does : Does n.there.present.base n.there.present.line (Change raises.ask raises.events)
          raises.report raises.new
      does =
          subst (λ (l : Line). Does n.there.present.base l (Change raises.ask raises.events)
          raises.report raises.new) (sym n.line)
          (subst (λ (b : Database). Does b start (Change raises.ask raises.events) raises.report
          raises.new) (sym n.base) raises.does)

      own_new : GenerationText
      own_new = present_text laws.ways n.there n.history n.marks entered n.gives

      same_own : n.text.text ≡ own_new
      unfolding own_new
      same_own =
          same_Some n.text.text
          (present_text laws.ways n.there n.history n.marks entered n.gives)
          (sym n.text.there
          ∙ (present_there laws.ways n.there n.history n.marks entered n.gives).there)

      own_text : own_new.session ≡ spelling n.there.present.base n.there.present.line
      own_text =
          ap (λ (x : GenerationText). x.session) (sym same_own) ∙ n.text.session_is
          ∙ (λ i. spelling (sym n.base i) (sym n.line i))

      told_there : own_new.database ≡ database_text n.there.present.base
      unfolding own_new
      told_there = (present_told laws.ways n.there n.history n.marks entered n.gives).database

      s : SecondHalf n.there raises.new raises.ask raises.events raises.report
          (length n.room.earlier)
          (spelling f.half.present.base (cut_after f.half.present).line) f.own.first_passed
          (cut_mark f.own.first_passed f.own.last_passed (length f.half.present.line.before)
          (length f.half.present.line.after)) done
      unfolding own_new
      s =
          second_half laws.ways n.there n.history n.marks entered n.gives raises.new raises.ask
          raises.events raises.report (length n.room.earlier)
          (spelling f.half.present.base (cut_after f.half.present).line) f.own.first_passed
          (cut_mark f.own.first_passed f.own.last_passed (length f.half.present.line.before)
          (length f.half.present.line.after)) done does
          (ap (λ (l : Line). l.before) n.line ∙ enters.before)
          (omega (arith, n.few)) n.before
          (ap (λ (x : GenerationText). x.first_passed) (sym same_own) ∙ n.text.first_is) (
            n.gives.t,
            own_new,
            present_there laws.ways n.there n.history n.marks entered n.gives,
            told_there,
            own_text,
          )
          (subst (λ (l : Line). KeepsLeft n.there.present.base l raises.new entered done)
          (sym n.line)
          (subst (λ (b : Database). KeepsLeft b start raises.new entered done) (sym n.base)
          raises.keeps))

      made : (next : List ℕ) → SecondHalf n.there raises.new raises.ask raises.events
          raises.report (length n.room.earlier)
          (spelling f.half.present.base (cut_after f.half.present).line) f.own.first_passed
          (cut_mark f.own.first_passed f.own.last_passed (length f.half.present.line.before)
          (length f.half.present.line.after)) next → GivesUpdated list d h next
      made next e =
          let update : IsUpdate h list d e.there = record {
            by = renamed list;
            half = f.half;
            room = n.room;
            entered = n.there;
            lowering = lowers.ask;
            raising = raises.ask;
            lowered = lowers.events;
            raised = raises.events;
            first = lowers.report;
            second = raises.report;
            asks = record {
              mode = lowers.mode;
              words = lowers.words;
              spared = λ t up never. elim (laws.decided h.present.base d list
                  lowers.stands.is_database enters.is_database t) [
                    | inl same ↦ same
                    | inr altered ↦ absurd (never (up, altered))
                  ];
            };
            lowers = f.moves;
            arrives =
                subst (λ (l : Line). Holds l.current.live
                (TargetOfCommand h.present.base h.present.line
                (Change lowers.ask lowers.events))) (sym f.line) lowers.arrives;
            drops = n.drops;
            enters = n.enters;
            raises = e.moves;
          } in record {
            new = e.there;
            marks = e.now;
            number = length f.ends + 1 + length e.there.present.line.before;
            gives = e.gives;
            is = e.history;
            update = update;
            said = refl;
            adds = (length f.ends, length e.there.present.line.before, f.adds, e.adds, refl);
            passed =
                passed_are h marks
                (stops_back laws.ways h is marks bytes gives goes) list d lowers.new lowers.ask
                lowers.events lowers.report half next f start entered n raises.new raises.ask
                raises.events raises.report
                (spelling f.half.present.base (cut_after f.half.present).line) e;
          }

      pub carried : GivesUpdated list d h done
      carried = made done s

      pub done_with : (next : List ℕ) → IsSettled done next → GivesUpdated list d h next
      done_with next ends =
          made next
          (settles laws.ways n.there raises.new raises.ask raises.events raises.report
          (length n.room.earlier)
          (spelling f.half.present.base (cut_after f.half.present).line) f.own.first_passed
          (cut_mark f.own.first_passed f.own.last_passed (length f.half.present.line.before)
          (length f.half.present.line.after)) done next s
          (omega (arith, n.few, n.gives.tells.place, ap length s.earlier)) ends)

-- from any text of the history
module _ (laws : UpdateLaws) (list : List Conversion) (d : Database) (bytes : List ℕ)
    (h : History) (marks : List Bool) (distinct : AreDistinct list) (is : IsHistory h)
    (gives : GivesHistory bytes h marks) (goes : GoesOn false bytes false) where
  at_present : (base : Database) (line : Line)
      (P : Database → Line → Type 0) → P base line
      → IsPresent bytes (database_text base) (spelling base line) → IsDatabase base
      → IsWritable base → IsLineOf base line → P h.present.base h.present.line
  at_present base line P p there is_database writable of =
      subst (λ (l : Line). P h.present.base l)
      (line_is laws.ways h is marks bytes gives base (spelling base line) line there is_database
      writable of (inl refl))
      (subst (λ (b : Database). P b line)
      (base_is laws.ways h is marks bytes gives base (spelling base line) there is_database
      writable) p)

  pub carries : (done : List ℕ) → CarriesOver list d bytes done → GivesUpdated list d h done
  carries done u =
      let Both : Database → Line → Type 0 = λ b l. Lowers list b d l bytes u.half
      × EntersOn list b d l u.start u.half u.entered in
      let stands = u.lowers.stands in
      let both : Both h.present.base h.present.line =
      at_present u.base u.line Both (u.lowers, u.enters) stands.there stands.is_database
      stands.writable stands.is_line in
      carried laws list d bytes done h marks distinct is gives goes u.start u.half u.entered
      both.0 both.1 u.raises

  pub updates : (next : List ℕ) → UpdatesTo list d bytes next → GivesUpdated list d h next
  updates next (done, u, ends) =
      let Both : Database → Line → Type 0 = λ b l. Lowers list b d l bytes u.half
      × EntersOn list b d l u.start u.half u.entered in
      let stands = u.lowers.stands in
      let both : Both h.present.base h.present.line =
      at_present u.base u.line Both (u.lowers, u.enters) stands.there stands.is_database
      stands.writable stands.is_line in
      done_with laws list d bytes done h marks distinct is gives goes u.start u.half u.entered
      both.0 both.1 u.raises next ends

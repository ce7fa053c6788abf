-- A database that an update enters on the text of a history is entered in the history that the text
-- gives.
use Rattle.std.proofs.Common.{◌≡◌, ◌∙◌, ◌⊎◌, ◌+◌, ◌-◌, ◌==◌, ◌&&◌, inl, inr, ℕ}
use Rattle.std.proofs.Common.{Bool, true, false, List, [], ◌∷◌, ◌++◌, length, All}
use Rattle.std.proofs.Common.{Some, slice_get, arith, refl, sym, ap, subst, if◌then◌else◌}
use Rattle.std.proofs.Common.{length-append}
use Rattle.std.proofs.lemmas.Bool.{eqb-true, eq-eqb, false≢true}
use Rattle.std.proofs.lemmas.List.{append-nil, length-map, length-take}
use Rattle.std.proofs.lemmas.List.Elements.{All-push, All-tail}
use Rattle.rc_model.specs.Names.{Has, Holds}
use Rattle.rc_model.specs.Graph.{IsClosed}
use Rattle.rc_model.specs.Database.{Database, IsDatabase}
use Rattle.rc_model.specs.Line.{IsBound, Line}
use Rattle.rc_model.specs.Session.{IsLineOf}
use Rattle.rc_session.proofs.States.{current_state}
use Rattle.rc_db.specs.Database.{IsWritable}
use Rattle.rc_update.specs.Carrying.{Carried, IsUnaltered}
use Rattle.rc_update.specs.Conversions.{Conversion}
use Rattle.rc_update.specs.Distinct.{AreDistinct}
use Rattle.rc_dbtext.specs.Spelling.{spelling as database_text}
use Rattle.rc_livetext.specs.Text.{LiveText, live_text}
use Rattle.rc_livetext.specs.Spelling.{spelling, state_text, text_of}
use Rattle.rc_history.specs.History.{Generation, History, IsHistory, generations}
use Rattle.rc_history.specs.Moves.{Enters, cut_after}
use Rattle.rc_history.specs.Promises.{DropsEnd, DropsOldest, IsEnteredBehind, MayDropOldest}
use Rattle.rc_historytext.specs.Text.{GenerationText, HistoryText, IsHistoryText, history_text}
use Rattle.rc_historytext.specs.Moves.{begun, with_session, with_session_at, without_later}
use Rattle.rc_historytext.specs.States.{Cuts, IsSession, cut_behind}
use Rattle.rc_historytext.specs.Present.{IsAt}
use Rattle.rc_historytext.specs.Updating.{IsEntered, entered, mark_of_cut}
use Rattle.rc_historytext.specs.Telling.{TellFromOldest, Tells}
use Rattle.rc_historytext.specs.Places.{GivesHistory, all_marks}
use Rattle.rc_historytext.specs.Updates.{renamed}
use Rattle.rc_historytext.proofs.Moving.{begins, begins_full}
use Rattle.rc_historytext.proofs.OneFault.{text_once}
use Rattle.rc_historytext.proofs.Presents.{place_once}
use Rattle.rc_historytext.proofs.TellingLemmas.{first_put}
use Rattle.rc_historytext.proofs.TravelledLines.{says_line, says_new}
use Rattle.rc_historytext.proofs.TravelledSteps.{Laws, present_is}
use Rattle.rc_historytext.proofs.UpdatedNames.{carried_said, distinct_said, unaltered_said}
use Rattle.rc_historytext.proofs.UpdatedSteps.{front_of, one_of}
use Rattle.rc_historytext.proofs.UpdatedTexts.{IsMarkedAt, begun_places, put_there}

-- the laws of other crates that are used here
pub record UpdateLaws : Type 0 where
  pub ways : Laws
  pub enters : (h new : History) (list : List Conversion) (d : Database) → IsHistory h
      → Enters h list d new → IsEnteredBehind h new
  pub drops : (h new : History) → DropsEnd h new → IsHistory h → IsHistory new
  pub decided : (old new : Database) (list : List Conversion) → IsDatabase old → IsDatabase new
      → (s : ℕ) → IsUnaltered old new list s ⊎ (IsUnaltered old new list s → ⊥)

-- the mark of the last state, once what comes after the current one is cut off
abbrev pub cut_mark : (first last : Bool) → (before after : ℕ) → Bool
cut_mark first last before after = if after == 0 then last else (before == 0 && first)

-- a history after it has entered a database
pub record InNew (h : History) (list : List Conversion) (d : Database) (start : Line)
    (own : GenerationText) (kept : List ℕ) : Type 0 where
  pub room : History
  pub there : History
  pub marks : List Bool
  pub gives : GivesHistory kept there marks
  pub history : IsHistory there
  pub drops : MayDropOldest h room
  pub enters : Enters room (renamed list) d there
  pub few : length room.earlier + 1 ≡ gives.t.present
  pub line : there.present.line ≡ start
  pub base : there.present.base ≡ d
  pub front : (room.earlier ≡ h.earlier) ⊎ ((gone : Generation) × (h.earlier ≡ gone ∷ room.earlier))
  pub earlier : there.earlier ≡ room.earlier ++ cut_after h.present ∷ []
  pub text : IsMarkedAt gives.t.generations gives.t.present (spelling d start) true true
  pub before : IsMarkedAt gives.t.generations (length room.earlier)
      (spelling h.present.base (cut_after h.present).line) own.first_passed
      (cut_mark own.first_passed own.last_passed (length h.present.line.before)
      (length h.present.line.after))

module _ (laws : UpdateLaws) (h : History) (is : IsHistory h) (marks : List Bool)
    (bytes : List ℕ) (gives : GivesHistory bytes h marks) (own : GenerationText)
    (at : slice_get gives.t.generations gives.t.present ≡ Some own)
    (spelled : own.session ≡ spelling h.present.base h.present.line)
    (list : List Conversion) (d : Database) (start : Line) (kept : List ℕ)
    (distinct : AreDistinct list)
    (each : (s : ℕ) → Has h.present.line.current.live s → IsUnaltered h.present.base d list s)
    (is_database : IsDatabase d) (writable : IsWritable d) (before : start.before ≡ [])
    (after : start.after ≡ []) (bound : IsBound start.bound)
    (table : start.current.table ≡ d.table)
    (long : length start.current.live ≡ length d.names)
    (live : Holds start.current.live
    (Carried h.present.base d list (Has h.present.line.current.live)))
    (enters : IsEntered bytes (database_text d) (spelling d start) list kept) where
  base_is : IsDatabase h.present.base
  base_is = (present_is laws.ways h is marks bytes gives).database

  line_is : IsLineOf h.present.base h.present.line
  line_is = (present_is laws.ways h is marks bytes gives).line

  own_there : IsAt bytes gives.t own
  own_there = record { is = gives.is; spelled = gives.spelled; there = at }

  cut : List ℕ
  cut = enters.1.2

  -- the text that is cut is that of the line up to its current state
  cut_spells : enters.1.2 ≡ spelling h.present.base (cut_after h.present).line
  unfolding spelling
  cut_spells =
      let left = enters.1 in
      let same = place_once bytes left.0 gives.t left.1 own left.3 own_there in
      let cuts : Cuts own.session left.2 =
      subst (λ (x : GenerationText). Cuts x.session left.2) same.1 left.4 in
      let said : cuts.0 ≡ text_of h.present.base h.present.line =
      says_new laws.ways.texts h.present.base h.present.line base_is line_is own.session cuts.0
      cuts.1 spelled in
      cuts.2.spelled ∙ ap (λ (s : LiveText). live_text (cut_behind s)) said

  mark : Bool
  mark = cut_mark own.first_passed own.last_passed (length h.present.line.before)
      (length h.present.line.after)

  t : HistoryText
  t = with_session gives.t enters.1.2 own.first_passed
      (cut_mark own.first_passed own.last_passed (length h.present.line.before)
      (length h.present.line.after))

  -- it is left with that
  left_is : IsHistoryText t × (enters.0 ≡ history_text t)
  unfolding t
  left_is =
      let left = enters.1.5 in
      let session : List ℕ = enters.1.2 in
      let same = place_once bytes left.0 gives.t left.1 own left.3 own_there in
      let s : LiveText = left.2 in
      let says : IsSession own.session s =
      subst (λ (x : GenerationText). IsSession x.session s) same.1 left.4 in
      let said = says_line laws.ways.texts h.present.base h.present.line base_is line_is own.session
      s says (inl spelled) in
      let text = state_text h.present.base.names in
      let before_is : length s.before ≡ length h.present.line.before =
      ap (λ (x : LiveText). length x.before) said.1 ∙ length-map h.present.line.before text in
      let after_is : length s.after ≡ length h.present.line.after =
      ap (λ (x : LiveText). length x.after) said.1 ∙ length-map h.present.line.after text in
      let mark_is : mark_of_cut own s
      ≡ cut_mark own.first_passed own.last_passed (length h.present.line.before)
      (length h.present.line.after) =
      λ i. cut_mark own.first_passed own.last_passed (before_is i) (after_is i) in
      let new : HistoryText → GenerationText → HistoryText =
      λ u x. with_session u session x.first_passed (mark_of_cut x s) in
      let whole : new left.0 left.1 ≡ with_session gives.t session own.first_passed
      (cut_mark own.first_passed own.last_passed (length h.present.line.before)
      (length h.present.line.after)) =
      (λ i. new (same.0 i) (same.1 i))
      ∙ ap (λ (b : Bool). with_session gives.t session own.first_passed b) mark_is in
      (subst IsHistoryText whole left.5, left.6 ∙ ap history_text whole)

  left_tells : Tells t (record h { present = cut_after h.present })
  unfolding t
  left_tells =
      let last : Bool = cut_mark own.first_passed own.last_passed
      (length h.present.line.before) (length h.present.line.after) in record {
        place = gives.tells.place;
        each =
            subst
            (λ (k : ℕ). TellFromOldest
            (with_session_at k gives.t.generations enters.1.2 own.first_passed last)
            (h.earlier ++ cut_after h.present ∷ h.later)) (sym gives.tells.place)
            (first_put h.present (cut_after h.present) refl refl enters.1.2 (inl cut_spells)
            own.first_passed last gives.t.generations h.earlier h.later gives.tells.each);
      }

  next : GenerationText
  next = entered (database_text d) (spelling d start) list

  behind_is : IsHistoryText (begun t next) × (kept ≡ history_text (begun t next))
  unfolding next
  behind_is =
      let put = enters.2 in
      let g : GenerationText = entered (database_text d) (spelling d start) list in
      let same : put.0 ≡ t = (text_once put.0 t [] [] put.1 left_is.0
      (append-nil (history_text put.0) ∙ sym put.2 ∙ left_is.1
      ∙ sym (append-nil (history_text t)))).0 in (
        subst (λ (u : HistoryText). IsHistoryText (begun u g)) same put.3,
        put.4 ∙ ap (λ (u : HistoryText). history_text (begun u g)) same,
      )

  in_new : Generation
  in_new = record { base = d; line = start; by = renamed list }

  Can : Generation → Type 0
  Can g = IsWritable g.base

  -- behind these generations
  module _ (xs : List Generation) where
    stands : History
    stands = record {
      earlier = xs ++ cut_after h.present ∷ [];
      present = record { base = d; line = start; by = renamed list };
      later = [];
    }

    entered_in : Enters (record h { earlier = xs }) (renamed list) d stands
    unfolding stands
    entered_in =
        let up : List Bool = h.present.line.current.live in
        let closed : IsClosed h.present.base.needs (Has up) =
        (current_state h.present.base h.present.line line_is).closed in record {
          database = is_database;
          distinct = distinct_said list distinct;
          unaltered =
              unaltered_said h.present.base d list up base_is is_database closed each;
          earlier = refl;
          later = refl;
          base = refl;
          by = refl;
          before = before;
          after = after;
          bound = bound;
          table = table;
          length = long;
          live = λ s. (
            λ has.
                (carried_said h.present.base d list up base_is is_database closed each s).0
                ((live s).0 has),
            λ on. (live s).1
                ((carried_said h.present.base d list up base_is is_database closed each s).1 on),
          );
        }

    made : MayDropOldest h (record h { earlier = xs })
        → IsHistory (record h { earlier = xs })
        → (xs ≡ h.earlier) ⊎ ((gone : Generation) × (h.earlier ≡ gone ∷ xs))
        → Tells (begun t next) stands → All Can (xs ++ cut_after h.present ∷ [])
        → InNew h list d start own kept
    unfolding stands next t Can
    made drops room_is front tells all =
        let g : GenerationText = entered (database_text d) (spelling d start) list in
        let u : HistoryText = begun t g in
        let last : Bool = cut_mark own.first_passed own.last_passed
        (length h.present.line.before) (length h.present.line.after) in
        let count : u.present ≡ length xs + 1 =
        tells.place ∙ length-append xs (cut_after h.present ∷ []) in
        let places = begun_places t g enters.1.2 own.first_passed last left_is.0.present (record {
          text = record own {
            session = enters.1.2;
            first_passed = own.first_passed;
            last_passed = last;
          };
          there =
              put_there gives.t.present gives.t.generations own enters.1.2 own.first_passed last at;
          session_is = refl;
          first_is = refl;
          last_is = refl;
        }) in
        let one : u.present - 1 ≡ length xs = omega (arith, count) in record {
          room = record h { earlier = xs };
          there = stands;
          marks = all_marks u.generations (generations stands);
          gives = record {
            t = u;
            is = behind_is.0;
            spelled = behind_is.1;
            tells = tells;
            writable =
                All-push (λ (k : Generation). IsWritable k.base) (xs ++ cut_after h.present ∷ [])
                (record { base = d; line = start; by = renamed list }) all writable;
            marked = refl;
          };
          history =
              (laws.enters (record h { earlier = xs }) stands (renamed list) d room_is
              entered_in).history;
          drops = drops;
          enters = entered_in;
          few = sym count;
          line = refl;
          base = refl;
          front = front;
          earlier = refl;
          text = record {
            text = g;
            there = places.0;
            session_is = refl;
            first_is = refl;
            last_is = refl;
          };
          before =
              subst (λ (k : ℕ). IsMarkedAt u.generations k
              (spelling h.present.base (cut_after h.present).line) own.first_passed last) one
              (subst (λ (session : List ℕ). IsMarkedAt u.generations (u.present - 1) session
              own.first_passed last) cut_spells places.1);
        }

  pub border : InNew h list d start own kept
  unfolding stands next Can
  border = by (length (without_later t).generations == 8) refl
    where
      all : All (λ (k : Generation). IsWritable k.base) (h.earlier ++ cut_after h.present ∷ [])
      all =
          front_of (λ (k : Generation). IsWritable k.base) h.earlier h.present
          (cut_after h.present) h.later
          (one_of (λ (k : Generation). IsWritable k.base) h.earlier h.present h.later
          gives.writable) gives.writable

      full : (earlier : List Generation) → h.earlier ≡ earlier
          → length (without_later t).generations ≡ 8 → InNew h list d start own kept
      full [] none eight =
          absurd (omega (
            arith,
            eight,
            left_tells.place,
            ap length none,
            length-take (t.present + 1) t.generations,
          ))
      full (gone ∷ xs) some eight =
          let room : History = record h { earlier = xs } in
          let drops : DropsOldest h room = (gone, some, refl, refl) in
          made xs (inr drops) (laws.drops h room (inl drops) is) (inr (gone, some))
          (begins_full t (entered (database_text d) (spelling d start) list) d h
          (stands h.earlier) (stands xs) left_tells (entered_in h.earlier)
          (record { database = refl; session = inl refl }) eight (
            gone,
            ap (λ (gs : List Generation). gs ++ cut_after h.present ∷ []) some,
            refl,
            refl,
          ))
          (All-tail (λ (k : Generation). IsWritable k.base) gone (xs ++ cut_after h.present ∷ [])
          (subst (λ (gs : List Generation).
          All (λ (k : Generation). IsWritable k.base) (gs ++ cut_after h.present ∷ [])) some all))

      by : (b : Bool) → (length (without_later t).generations == 8) ≡ b
          → InNew h list d start own kept
      by true eight =
          full h.earlier refl (eqb-true (length (without_later t).generations) 8 eight)
      by false other =
          made h.earlier (inl refl) is (inl refl)
          (begins t (entered (database_text d) (spelling d start) list) d h (stands h.earlier)
          left_tells (entered_in h.earlier) (record { database = refl; session = inl refl })
          (λ same. false≢true
          (sym other ∙ eq-eqb (length (without_later t).generations) 8 same))) all

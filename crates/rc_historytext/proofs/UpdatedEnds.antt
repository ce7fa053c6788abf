-- The halves of an update on the text of a history, and its end.
use Rattle.std.proofs.Common.{◌≡◌, ◌∙◌, ◌⊎◌, ◌+◌, ◌<◌, ◌≤◌, ◌==◌, ◌&&◌, ◌||◌, inl, inr}
use Rattle.std.proofs.Common.{not, ℕ, suc, Bool, true, false, List, [], ◌∷◌, ◌++◌, length}
use Rattle.std.proofs.Common.{Some, Ok, slice_get, arith, refl, sym, ap, subst, append_assoc}
use Rattle.std.proofs.Common.{if◌then◌else◌, length-append}
use Rattle.std.proofs.lemmas.Bool.{and_from, and_parts, false≢true, or_left}
use Rattle.std.proofs.lemmas.List.{length-map}
use Rattle.rc_model.specs.declared.Event.{Event}
use Rattle.rc_model.specs.Line.{Line, State}
use Rattle.rc_model.specs.Plan.{Ask}
use Rattle.rc_model.specs.Session.{Answers, Change, Does, IsLineOf, Reported}
use Rattle.rc_session.proofs.Keeping.{answer_keeps}
use Rattle.rc_dbtext.specs.Spelling.{spelling as database_text}
use Rattle.rc_livetext.specs.Text.{LiveText}
use Rattle.rc_livetext.specs.Spelling.{spelling, state_text}
use Rattle.rc_history.specs.History.{Generation, History, IsHistory, cursor_of}
use Rattle.rc_history.specs.History.{generations}
use Rattle.rc_history.specs.Moves.{MovesInside}
use Rattle.rc_history.specs.Promises.{AddsTo}
use Rattle.rc_history.specs.Stops.{IsPassedAt}
use Rattle.rc_historytext.specs.Text.{GenerationText, HistoryText, IsHistoryText, history_text}
use Rattle.rc_historytext.specs.Moves.{with_session, with_session_at}
use Rattle.rc_historytext.specs.States.{IsSession}
use Rattle.rc_historytext.specs.Present.{IsPresent}
use Rattle.rc_historytext.specs.Marking.{is_first, is_last}
use Rattle.rc_historytext.specs.Updating.{IsSettled, settled}
use Rattle.rc_historytext.specs.Telling.{TellFromOldest, TellsStates}
use Rattle.rc_historytext.specs.Places.{GivesHistory, all_marks}
use Rattle.rc_historytext.specs.Updates.{KeepsLeft, KeepsTwice}
use Rattle.rc_historytext.proofs.Presents.{place_once}
use Rattle.rc_historytext.proofs.TellingLemmas.{first_put}
use Rattle.rc_historytext.proofs.TravelledLines.{says_line}
use Rattle.rc_historytext.proofs.TravelledMarks.{mark_between, mark_now}
use Rattle.rc_historytext.proofs.TravelledSteps.{Laws, place_there, present_is, present_text}
use Rattle.rc_historytext.proofs.TravelledSteps.{present_there}
use Rattle.rc_historytext.proofs.TravelledTexts.{first_told}
use Rattle.rc_historytext.proofs.UpdatedBorders.{cut_mark}
use Rattle.rc_historytext.proofs.UpdatedSteps.{Moved, first_kept}
use Rattle.rc_historytext.proofs.UpdatedSteps.{left_kept, step_moved}
use Rattle.rc_historytext.proofs.UpdatedTexts.{IsMarkedAt, put_before, put_there}

-- a history after the first half: where it began, and the marks once the rest is cut off
pub record FirstHalf (h : History) (marks : List Bool) (new : Line) (ask : Ask)
    (events : List Event) (report : Reported) (kept : List ℕ) : Type 0 where
  pub half : History
  pub now : List Bool
  pub gives : GivesHistory kept half now
  pub history : IsHistory half
  pub base : half.present.base ≡ h.present.base
  pub line : half.present.line ≡ new
  pub moves : MovesInside h (Change ask events) (Ok report) half
  pub own : GenerationText
  pub at : slice_get gives.t.generations gives.t.present ≡ Some own
  pub spelled : own.session ≡ spelling half.present.base half.present.line
  pub front : List State
  pub ends : List State
  pub states_are : half.present.line.before ++ half.present.line.current ∷ []
      ≡ front ++ h.present.line.current ∷ ends
  pub adds : AddsTo h.present.line half.present.line (length ends)
  pub few : length front ≤ length h.present.line.before
  pub earlier : (half.earlier ≡ h.earlier) ⊎ (half.earlier ≡ [])
  pub begins : mark_between own.first_passed
      (cut_mark own.first_passed own.last_passed (length half.present.line.before)
      (length half.present.line.after)) (length front) (length ends) ≡ true
      → IsPassedAt marks (cursor_of h)
  pub passed : length ends ≡ 1 → cut_mark own.first_passed own.last_passed
      (length half.present.line.before) (length half.present.line.after) ≡ true

-- a cut of what is not passed is not passed
cut_begins : (f l : Bool) (b a : ℕ) → mark_between f (cut_mark f l b a) b 0 ≡ true
    → mark_between f l b a ≡ true
cut_begins f l b a passed = by (a == 0) refl
  where
    twice : (x : Bool) → (x || x) ≡ true → x ≡ true
    twice true is = refl
    twice false is = is

    by : (e : Bool) → (a == 0) ≡ e → mark_between f l b a ≡ true
    by true last =
        ap (λ (e : Bool). (b == 0 && f) || (e && l)) last
        ∙ sym (ap (λ (e : Bool). (b == 0 && f) || (if e then l else (b == 0 && f))) last) ∙ passed
    by false more =
        or_left (b == 0 && f) (a == 0 && l)
        (twice (b == 0 && f)
        (sym (ap (λ (e : Bool). (b == 0 && f) || (if e then l else (b == 0 && f))) more)
        ∙ passed))

-- a state that is not the last one is passed if it is the first one and that is
begins_first : (f l : Bool) (b : ℕ) → mark_between f l b 1 ≡ true → ((b == 0) ≡ true) × (f ≡ true)
begins_first f l b passed = and_parts (b == 0) f (only (b == 0 && f) passed)
  where
    only : (x : Bool) → (x || false) ≡ true → x ≡ true
    only true is = refl
    only false is = is

module _ (laws : Laws) (h : History) (is : IsHistory h) (marks : List Bool) (bytes : List ℕ)
    (gives : GivesHistory bytes h marks) (new : Line) (ask : Ask) (events : List Event)
    (report : Reported) (kept : List ℕ)
    (does : Does h.present.base h.present.line (Change ask events) report new) where
  own_text : GenerationText
  own_text = present_text laws h is marks bytes gives

  -- the mark of where it begins
  begin_mark : slice_get marks (cursor_of h)
      ≡ Some (mark_between own_text.first_passed own_text.last_passed
      (length h.present.line.before) (length h.present.line.after))
  unfolding own_text
  begin_mark =
      ap (λ (bs : List Bool). slice_get bs (cursor_of h)) gives.marked
      ∙ mark_now gives.t.generations h (present_text laws h is marks bytes gives)
      (place_there laws h is marks bytes gives)

  half_stays : new ≡ h.present.line → kept ≡ bytes
      → own_text.session ≡ spelling h.present.base h.present.line
      → FirstHalf h marks new ask events report kept
  unfolding own_text
  half_stays same stays spelled =
      let own : GenerationText = present_text laws h is marks bytes gives in
      record {
        half = h;
        now = marks;
        gives = record {
          t = gives.t;
          is = gives.is;
          spelled = stays ∙ gives.spelled;
          tells = gives.tells;
          writable = gives.writable;
          marked = gives.marked;
        };
        history = is;
        base = refl;
        line = sym same;
        moves = record {
          answers =
              subst (λ (l : Line). Answers h.present.base h.present.line (Change ask events)
              (Ok report) l) same does;
          base = refl;
          by = refl;
          earlier = inl (refl, refl);
          later = inl ((refl, inr (inr refl)), refl);
        };
        own = own;
        at = (present_there laws h is marks bytes gives).there;
        spelled = spelled;
        front = h.present.line.before;
        ends = [];
        states_are = refl;
        adds = inl (refl, refl);
        few = omega arith;
        earlier = inl refl;
        begins = λ passed. begin_mark ∙ ap Some (cut_begins own.first_passed own.last_passed
            (length h.present.line.before) (length h.present.line.after) passed);
        passed = λ one. absurd (omega (arith, one));
      }

  half_moves : Moved h gives.t own_text new ask events report kept
      → FirstHalf h marks new ask events report kept
  unfolding own_text
  half_moves m =
      let own : GenerationText = present_text laws h is marks bytes gives in
      let old : Line = h.present.line in
      let front : List State = m.grows.front in
      let line : m.half.present.line ≡ new = ap (λ (g : Generation). g.line) m.present in
      let base : m.half.present.base ≡ h.present.base =
      ap (λ (g : Generation). g.base) m.present in
      let before : new.before ≡ front ++ old.current ∷ [] =
      ap (λ (l : Line). l.before) m.grows.is in
      let none : length m.half.present.line.after ≡ 0 =
      ap (λ (l : Line). length l.after) line
      ∙ ap (λ (l : Line). length l.after) m.grows.is in
      record {
        half = m.half;
        now = m.marks;
        gives = m.gives;
        history = m.history;
        base = base;
        line = line;
        moves = m.moves;
        own = m.text.text;
        at = m.text.there;
        spelled = m.text.session_is ∙ (λ i. spelling (sym base i) (sym line i));
        front = front;
        ends = new.current ∷ [];
        states_are =
            ap (λ (l : Line). l.before ++ l.current ∷ []) line
            ∙ ap (λ (ss : List State). ss ++ new.current ∷ []) before
            ∙ append_assoc front (old.current ∷ []) (new.current ∷ []);
        adds = inr (
          (λ same. m.grows.ne (sym (ap (λ (l : Line). l.current) line) ∙ same)),
          refl,
        );
        few = elim m.grows.front_is [
          | inl same ↦ (let long : length front ≡ length old.before = ap length same in
              omega (arith, long))
          | inr drops ↦
              (let long : length front ≡ suc (length drops.more) = ap length drops.is in
              let was : length old.before ≡ suc (suc (length drops.more)) = ap length drops.was in
              omega (arith, long, was))
        ];
        earlier = elim m.behind [
          | inl stays ↦ inl stays.1.earlier
          | inr goes ↦ inr goes.1.earlier
        ];
        begins = λ passed.
            let first = begins_first m.text.text.first_passed
            (cut_mark m.text.text.first_passed m.text.text.last_passed
            (length m.half.present.line.before) (length m.half.present.line.after))
            (length front) passed in
            let was = and_parts m.keeps own.first_passed (sym m.text.first_is ∙ first.1) in
            elim m.behind [
              | inl stays ↦
                  let zero_before : (length old.before == 0) ≡ true =
                  ap (λ (ss : List State). length ss == 0) (sym stays.1.same) ∙ first.0 in
                  begin_mark ∙ ap Some (or_left (length old.before == 0 && own.first_passed)
                  (length old.after == 0 && own.last_passed)
                  (and_from (length old.before == 0) own.first_passed zero_before was.1))
              | inr goes ↦
                  absurd (false≢true (sym goes.0 ∙ was.0))
            ];
        passed = λ one.
            ap (λ (n : ℕ). cut_mark m.text.text.first_passed m.text.text.last_passed
            (length m.half.present.line.before) n) none ∙ m.text.last_is;
      }

  pub first_half : (present_text laws h is marks bytes gives).session
      ≡ spelling h.present.base h.present.line
      → IsPresent bytes (database_text h.present.base) (spelling h.present.base h.present.line)
      → KeepsTwice h.present.base h.present.line new bytes kept
      → FirstHalf h marks new ask events report kept
  unfolding own_text
  first_half spelled there keeps =
      let own = present_is laws h is marks bytes gives in
      let new_is : IsLineOf h.present.base new =
      answer_keeps h.present.base h.present.line own.line (Change ask events) (Ok report) new
      does in
      elim (left_kept laws bytes h.present.base h.present.line new own.database own.line new_is
      there ask events report does kept
      (first_kept laws bytes h.present.base h.present.line new own.database own.line there kept
      keeps)) [
        | inl stays ↦ half_stays stays.0 stays.1 spelled
        | inr moves ↦
            half_moves (step_moved laws h is marks bytes gives new ask events report kept does
            moves.0 moves.1)
      ]

-- a history after the second half, which is kept behind these generations
pub record SecondHalf (h : History) (new : Line) (ask : Ask) (events : List Event)
    (report : Reported) (place : ℕ) (session : List ℕ) (first last : Bool) (kept : List ℕ)
    : Type 0 where
  pub there : History
  pub now : List Bool
  pub gives : GivesHistory kept there now
  pub history : IsHistory there
  pub moves : MovesInside h (Change ask events) (Ok report) there
  pub earlier : there.earlier ≡ h.earlier
  pub adds : AddsTo h.present.line there.present.line (length there.present.line.before)
  pub before : IsMarkedAt gives.t.generations place session first last
  pub own : GenerationText
  pub at : slice_get gives.t.generations gives.t.present ≡ Some own
  pub passed : length there.present.line.before ≡ 1 → own.first_passed ≡ true

module _ (laws : Laws) (h : History) (is : IsHistory h) (marks : List Bool) (bytes : List ℕ)
    (gives : GivesHistory bytes h marks) (new : Line) (ask : Ask) (events : List Event)
    (report : Reported) (place : ℕ) (session : List ℕ) (first last : Bool) (kept : List ℕ)
    (does : Does h.present.base h.present.line (Change ask events) report new)
    (start : h.present.line.before ≡ []) (low : place < gives.t.present)
    (before : IsMarkedAt gives.t.generations place session first last) where
  present_own : GenerationText
  present_own = present_text laws h is marks bytes gives

  second_stays : new ≡ h.present.line → kept ≡ bytes
      → SecondHalf h new ask events report place session first last kept
  second_stays same stays =
      let none : length h.present.line.before ≡ 0 = ap length start in
      record {
        there = h;
        now = marks;
        gives = record {
          t = gives.t;
          is = gives.is;
          spelled = stays ∙ gives.spelled;
          tells = gives.tells;
          writable = gives.writable;
          marked = gives.marked;
        };
        history = is;
        moves = record {
          answers =
              subst (λ (l : Line). Answers h.present.base h.present.line (Change ask events)
              (Ok report) l) same does;
          base = refl;
          by = refl;
          earlier = inl (refl, refl);
          later = inl ((refl, inr (inr refl)), refl);
        };
        earlier = refl;
        adds = inl (refl, none);
        before = before;
        own = present_text laws h is marks bytes gives;
        at = (present_there laws h is marks bytes gives).there;
        passed = λ one. absurd (omega (arith, one, none));
      }

  second_moves : present_own.first_passed ≡ true
      → Moved h gives.t present_own new ask events report kept
      → SecondHalf h new ask events report place session first last kept
  unfolding present_own
  second_moves passed m =
      let line : m.half.present.line ≡ new = ap (λ (g : Generation). g.line) m.present in
      elim m.behind [
        | inl stays ↦
            let front : length m.grows.front ≡ 0 = ap length (stays.1.same ∙ start) in
            let one : length m.half.present.line.before ≡ 1 =
            ap (λ (l : Line). length l.before) line
            ∙ ap (λ (l : Line). length l.before) m.grows.is
            ∙ length-append m.grows.front (h.present.line.current ∷ [])
            ∙ ap (λ (n : ℕ). n + 1) front in
            record {
              there = m.half;
              now = m.marks;
              gives = m.gives;
              history = m.history;
              moves = m.moves;
              earlier = stays.1.earlier;
              adds = inr (
                (λ same. m.grows.ne (sym (ap (λ (l : Line). l.current) line) ∙ same)),
                one,
              );
              before = stays.1.places place session first last low before;
              own = m.text.text;
              at = m.text.there;
              passed = λ _. m.text.first_is ∙ and_from m.keeps
                  (present_text laws h is marks bytes gives).first_passed stays.0 passed;
            }
        | inr goes ↦
            let was : 0 ≡ suc (suc (length goes.1.drops.more)) =
            sym (ap length start) ∙ ap length goes.1.drops.was in
            absurd (omega (arith, was))
      ]

  pub second_half : (present_text laws h is marks bytes gives).first_passed ≡ true
      → IsPresent bytes (database_text h.present.base) (spelling h.present.base h.present.line)
      → KeepsLeft h.present.base h.present.line new bytes kept
      → SecondHalf h new ask events report place session first last kept
  unfolding present_own
  second_half passed there keeps =
      let own = present_is laws h is marks bytes gives in
      let new_is : IsLineOf h.present.base new =
      answer_keeps h.present.base h.present.line own.line (Change ask events) (Ok report) new
      does in
      elim (left_kept laws bytes h.present.base h.present.line new own.database own.line new_is
      there ask events report does kept keeps) [
        | inl stays ↦ second_stays stays.0 stays.1
        | inr moves ↦
            second_moves passed (step_moved laws h is marks bytes gives new ask events report kept
            does moves.0 moves.1)
      ]

-- its state is made a stop
pub settles : (laws : Laws) (h : History) (new : Line) (ask : Ask) (events : List Event)
    (report : Reported) (place : ℕ) (session : List ℕ) (first last : Bool) (done next : List ℕ)
    (s : SecondHalf h new ask events report place session first last done)
    → place < length s.there.earlier → IsSettled done next
    → SecondHalf h new ask events report place session first last next
settles laws h new ask events report place session first last done next s low (
  t,
  g,
  said,
  at,
  says,
  put,
  kept,
) =
    let gives = s.gives in
    let own : GenerationText = s.own in
    let there : History = s.there in
    let same = place_once done t gives.t g own at
    (record { is = gives.is; spelled = gives.spelled; there = s.at }) in
    let first_by : Bool = own.first_passed && not (is_first said) in
    let last_by : Bool = own.last_passed && not (is_last said) in
    let made : HistoryText = with_session gives.t own.session first_by last_by in
    let whole : settled t g said ≡ made = λ i. settled (same.0 i) (same.1 i) said in
    let told : TellsStates own there.present =
    first_told gives.t.generations there.earlier there.present there.later own gives.tells.each
    (subst (λ (k : ℕ). slice_get gives.t.generations k ≡ Some own) gives.tells.place s.at) in
    let is = present_is laws there s.history s.now done gives in
    let line : Line = there.present.line in
    let text = says_line laws.texts there.present.base line is.database is.line own.session said
    (subst (λ (x : GenerationText). IsSession x.session said) same.1 says) told.session in
    let count : length said.before ≡ length line.before =
    ap (λ (x : LiveText). length x.before) text.1
    ∙ length-map line.before (state_text there.present.base.names) in
    record {
      there = there;
      now = all_marks made.generations (generations there);
      gives = record {
        t = made;
        is = subst IsHistoryText whole put;
        spelled = kept ∙ ap history_text whole;
        tells = record {
          place = gives.tells.place;
          each =
              subst
              (λ (k : ℕ). TellFromOldest
              (with_session_at k gives.t.generations own.session first_by last_by)
              (generations there)) (sym gives.tells.place)
              (first_put there.present there.present refl refl own.session told.session first_by
              last_by gives.t.generations there.earlier there.later gives.tells.each);
        };
        writable = gives.writable;
        marked = refl;
      };
      history = s.history;
      moves = s.moves;
      earlier = s.earlier;
      adds = s.adds;
      before = record {
        text = s.before.text;
        there =
            put_before gives.t.present place gives.t.generations own.session first_by last_by
            (omega (arith, low, gives.tells.place))
            ∙ s.before.there;
        session_is = s.before.session_is;
        first_is = s.before.first_is;
        last_is = s.before.last_is;
      };
      own = record own { first_passed = first_by; last_passed = last_by };
      at = put_there gives.t.present gives.t.generations own own.session first_by last_by s.at;
      passed = λ one.
          and_from own.first_passed (not (is_first said)) (s.passed one)
          (ap (λ (n : ℕ). not (n == 0)) (count ∙ one));
    }

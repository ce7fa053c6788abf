-- A step of an update that is kept in the text of a history is one in the history that it gives.
use Rattle.std.proofs.Common.{◌≡◌, ◌≢◌, ◌∙◌, ◌⊎◌, ◌+◌, ◌<◌, ◌&&◌, inl, inr, ℕ, Bool, true, false}
use Rattle.std.proofs.Common.{List, [], ◌∷◌, ◌++◌, length, map, All, Option, Ok}
use Rattle.std.proofs.Common.{arith, refl, sym, ap, subst}
use Rattle.std.proofs.lemmas.List.Elements.{All-cons, All-head, All-nil, All-tail}
use Rattle.rc_model.specs.declared.Event.{Event}
use Rattle.rc_model.specs.Database.{Database, IsDatabase}
use Rattle.rc_model.specs.Line.{Line, State}
use Rattle.rc_model.specs.Plan.{Ask}
use Rattle.rc_model.specs.Session.{Change, Does, IsLineOf, Reported}
use Rattle.rc_session.proofs.Keeping.{answer_keeps}
use Rattle.rc_db.specs.Database.{IsWritable}
use Rattle.rc_dbtext.specs.Spelling.{spelling as database_text}
use Rattle.rc_livetext.specs.Text.{live_text}
use Rattle.rc_livetext.specs.Spelling.{spelling, state_text, text_with}
use Rattle.rc_history.specs.History.{Generation, History, IsHistory, generations}
use Rattle.rc_history.specs.Moves.{MovesInside}
use Rattle.rc_historytext.specs.declared.keeping.Keeping.TheVariants.{Step}
use Rattle.rc_historytext.specs.Text.{GenerationText, HistoryText, IsHistoryText, history_text}
use Rattle.rc_historytext.specs.Moves.{with_session, without_earlier}
use Rattle.rc_historytext.specs.Moves.{without_later}
use Rattle.rc_historytext.specs.States.{Cuts, cut_behind}
use Rattle.rc_historytext.specs.Present.{IsPresent}
use Rattle.rc_historytext.specs.Keeping.{IsKept, IsPut, IsPutOnce, PutsInto, StandsThere}
use Rattle.rc_historytext.specs.Telling.{IsMovedInside}
use Rattle.rc_historytext.specs.Places.{GivesHistory, all_marks}
use Rattle.rc_historytext.specs.Updates.{KeepsLeft, KeepsTwice}
use Rattle.rc_historytext.proofs.Moving.{replaced_alone, replaced_last}
use Rattle.rc_historytext.proofs.Presents.{place_once, session_once}
use Rattle.rc_historytext.proofs.TravelledLines.{says_line}
use Rattle.rc_historytext.proofs.TravelledSteps.{Laws, present_is, present_says, present_text}
use Rattle.rc_historytext.proofs.TravelledSteps.{present_there}
use Rattle.rc_historytext.proofs.UpdatedLines.{Drops, Grows, StepMarks, first_lost, first_stays}
use Rattle.rc_historytext.proofs.UpdatedLines.{goes_marked, grown, grown_after, left_lost}
use Rattle.rc_historytext.proofs.UpdatedLines.{left_same, stays_marked}
use Rattle.rc_historytext.proofs.UpdatedTexts.{IsMarkedAt, dropped_there, put_before, put_there}
use Rattle.rc_historytext.proofs.UpdatedTexts.{taken_there}

-- the text of a line without states after the current one is not cut
pub not_cut : (laws : Laws) (d : Database) (line : Line) (cut : List ℕ) → IsDatabase d
    → IsLineOf d line → line.after ≡ [] → Cuts (spelling d line) cut → cut ≡ spelling d line
not_cut laws d line cut is of none (s, session, cut_session) =
    let said = says_line laws.texts d line is of (spelling d line) s session (inl refl) in
    let same : cut_behind s ≡ s =
    ap cut_behind said.1
    ∙ sym (ap (λ (ss : List State). record (text_with said.0 d line) {
      after = map (state_text d.names) ss;
    }) none)
    ∙ sym said.1 in
    cut_session.spelled ∙ ap live_text same ∙ sym session.spelled

-- what stands in a history, and what is kept there of a step
module _ (laws : Laws) (bytes : List ℕ) (d : Database) (line new : Line) (is : IsDatabase d)
    (of : IsLineOf d line) (new_of : IsLineOf d new)
    (there : IsPresent bytes (database_text d) (spelling d line)) where
  stands_not : new ≢ line → StandsThere bytes (spelling d new) → ⊥
  stands_not other (database, present) =
      let same : spelling d new ≡ spelling d line =
      session_once bytes database (spelling d new) (database_text d) (spelling d line) present
      there in
      other (laws.line d (spelling d new) new line is new_of of (inl refl) (inl same))

  pub puts_grown : Grows line new → (kept : List ℕ) → IsKept Step bytes (spelling d new) kept
      → IsPut Step bytes (spelling d new) kept
  puts_grown grows kept (inl stays) =
      absurd (stands_not (λ same. grows.ne (ap (λ (l : Line). l.current) same)) stays.0)
  puts_grown grows kept (inr (none, cut, cuts, once)) =
      let same : cut ≡ spelling d new =
      not_cut laws d new cut is new_of (grown_after line new grows) cuts in
      elim (subst (λ (text : List ℕ). IsPutOnce Step bytes text kept) same once) [
        | inl stays ↦ absurd (none stays.0)
        | inr put ↦ put.1
      ]

  -- a line that is kept where it stands leaves the history as it was
  pub kept_same : new ≡ line → (kept : List ℕ) → IsKept Step bytes (spelling d new) kept
      → kept ≡ bytes
  kept_same same kept (inl stays) = stays.1
  kept_same same kept (inr other) =
      absurd (other.0
      (subst (λ (l : Line). StandsThere bytes (spelling d l)) (sym same)
      (database_text d, there)))

  pub left_kept : (ask : Ask) (events : List Event) (report : Reported)
      → Does d line (Change ask events) report new → (kept : List ℕ)
      → KeepsLeft d line new bytes kept
      → ((new ≡ line) × (kept ≡ bytes))
      ⊎ ((grows : Grows line new) × IsPut Step bytes (spelling d new) kept)
  left_kept ask events report does kept keeps =
      by (grown d line new ask events report of does) keeps
    where
      by : (new ≡ line) ⊎ Grows line new → KeepsLeft d line new bytes kept
          → ((new ≡ line) × (kept ≡ bytes))
          ⊎ ((grows : Grows line new) × IsPut Step bytes (spelling d new) kept)
      by (inl same) (inl stays) = inl stays
      by (inl same) (inr put) = inl (same, kept_same same kept put)
      by (inr grows) (inl stays) =
          absurd (grows.ne (ap (λ (l : Line). l.current) stays.0))
      by (inr grows) (inr put) = inr (grows, puts_grown grows kept put)

-- the first of both leaves the history as it was
pub first_kept : (laws : Laws) (bytes : List ℕ) (d : Database) (line new : Line) → IsDatabase d
    → IsLineOf d line → IsPresent bytes (database_text d) (spelling d line) → (kept : List ℕ)
    → KeepsTwice d line new bytes kept → KeepsLeft d line new bytes kept
first_kept laws bytes d line new is of there kept (first, one, two) =
    subst (λ (text : List ℕ). KeepsLeft d line new text kept)
    (kept_same laws bytes d line line is of of there refl first one) two

-- generations up to one of them
pub front_of : (P : Generation → Type 0) (xs : List Generation) (y z : Generation)
    (ys : List Generation) → P z → All P (xs ++ y ∷ ys) → All P (xs ++ z ∷ [])
front_of P [] y z ys is all = All-cons P z [] is (All-nil P)
front_of P (x ∷ xs) y z ys is all =
    All-cons P x (xs ++ z ∷ []) (All-head P x (xs ++ y ∷ ys) all)
    (front_of P xs y z ys is (All-tail P x (xs ++ y ∷ ys) all))

pub one_of : (P : Generation → Type 0) (xs : List Generation) (y : Generation)
    (ys : List Generation) → All P (xs ++ y ∷ ys) → P y
one_of P [] y ys all = All-head P y ys all
one_of P (x ∷ xs) y ys all = one_of P xs y ys (All-tail P x (xs ++ y ∷ ys) all)

-- what such a step makes of the generations before the present one: none of them goes, or all go
-- with the oldest state
pub record StaysBehind (h half : History) (front : List State) (old new : HistoryText)
    : Type 0 where
  pub same : front ≡ h.present.line.before
  pub earlier : half.earlier ≡ h.earlier
  pub places : (k : ℕ) (session : List ℕ) (first last : Bool) → k < old.present
      → IsMarkedAt old.generations k session first last
      → IsMarkedAt new.generations k session first last

pub record GoesBehind (h half : History) (front : List State) : Type 0 where
  pub drops : Drops h.present.line front
  pub earlier : half.earlier ≡ []

-- a history after a step that moved something
pub record Moved (h : History) (t : HistoryText) (g : GenerationText) (new : Line) (ask : Ask)
    (events : List Event) (report : Reported) (kept : List ℕ) : Type 0 where
  pub grows : Grows h.present.line new
  pub half : History
  pub marks : List Bool
  pub gives : GivesHistory kept half marks
  pub history : IsHistory half
  pub present : half.present ≡ record h.present { line = new }
  pub later : half.later ≡ []
  pub moves : MovesInside h (Change ask events) (Ok report) half
  pub place : gives.t.present ≡ length half.earlier
  pub keeps : Bool
  pub text : IsMarkedAt gives.t.generations gives.t.present (spelling h.present.base new)
      (keeps && g.first_passed) true
  pub behind : ((keeps ≡ true) × StaysBehind h half grows.front t gives.t)
      ⊎ ((keeps ≡ false) × GoesBehind h half grows.front)

module _ (laws : Laws) (h : History) (is : IsHistory h) (marks : List Bool) (bytes : List ℕ)
    (gives : GivesHistory bytes h marks) (new : Line) (ask : Ask) (events : List Event)
    (report : Reported) (kept : List ℕ)
    (does : Does h.present.base h.present.line (Change ask events) report new)
    (grows : Grows h.present.line new)
    (put : IsPut Step bytes (spelling h.present.base new) kept) where
  text : GenerationText
  text = present_text laws h is marks bytes gives

  session : List ℕ
  session = spelling h.present.base new

  new_is : IsLineOf h.present.base new
  new_is =
      answer_keeps h.present.base h.present.line
      (present_is laws h is marks bytes gives).line (Change ask events) (Ok report) new does

  same_place : (put.0 ≡ gives.t) × (put.1 ≡ text)
  unfolding text
  same_place =
      place_once bytes put.0 gives.t put.1 (present_text laws h is marks bytes gives) put.3
      (present_there laws h is marks bytes gives)

  puts : PutsInto Step gives.t text session put.2
  unfolding session
  puts =
      subst (λ (u : HistoryText). PutsInto Step u text (spelling h.present.base new) put.2)
      same_place.0
      (subst (λ (x : GenerationText). PutsInto Step put.0 x (spelling h.present.base new) put.2)
      same_place.1 put.4)

  was : (b : Option ℕ) × (puts.marks.0 ≡ text_with b h.present.base h.present.line)
  unfolding text
  was = present_says laws h is marks bytes gives puts.marks.0 puts.marks.2

  now : (b : Option ℕ) × (puts.marks.1 ≡ text_with b h.present.base new)
  unfolding session
  now =
      says_line laws.texts h.present.base new
      (present_is laws h is marks bytes gives).database new_is (spelling h.present.base new)
      puts.marks.1 puts.marks.3 (inl refl)

  stays_put : grows.front ≡ h.present.line.before
      → Moved h gives.t text new ask events report kept
  unfolding session text
  stays_put same =
      let own : GenerationText = present_text laws h is marks bytes gives in
      let first : Bool = own.first_passed in
      let base : Database = h.present.base in
      let at : List ℕ = spelling base new in
      let half : History = record {
        earlier = h.earlier;
        present = record h.present { line = new };
        later = [];
      } in
      let moves : MovesInside h (Change ask events) (Ok report) half = record {
        answers = does;
        base = refl;
        by = refl;
        earlier = inl (first_stays h.present.line new grows same, refl);
        later = inr (
          (λ stays. elim stays.1 [
            | inl undo ↦ undo
            | inr rest ↦ elim rest [
              | inl redo ↦ redo
              | inr stood ↦ grows.ne (ap (λ (l : Line). l.current) stood)
            ]
          ]),
          refl,
        );
      } in
      let moved : IsMovedInside h half at = record {
        command = Change ask events;
        answer = Ok report;
        moves = moves;
        spells = inl refl;
      } in
      let m : StepMarks puts.m own true =
      stays_marked laws.line base h.present.line new
      (present_is laws h is marks bytes gives).database
      (present_is laws h is marks bytes gives).line grows own puts.marks.0 puts.marks.1 puts.m
      puts.marks.4 was now same in
      let next : HistoryText = without_later (with_session gives.t at first true) in
      let left : put.2 ≡ next = puts.left ∙ left_same gives.t at puts.m own m in
      let Can : Generation → Type 0 = λ g. IsWritable g.base in
      let gives_next : GivesHistory kept half (all_marks next.generations (generations half)) =
      record {
        t = next;
        is = subst IsHistoryText left puts.is;
        spelled = put.5 ∙ ap history_text left;
        tells = replaced_last gives.t at first true h half gives.tells moved refl refl;
        writable =
            front_of Can h.earlier h.present half.present h.later
            (one_of Can h.earlier h.present h.later gives.writable) gives.writable;
        marked = refl;
      } in record {
        grows = grows;
        half = half;
        marks = all_marks next.generations (generations half);
        gives = gives_next;
        history = laws.inside h half (Change ask events) (Ok report) is moves;
        present = refl;
        later = refl;
        moves = moves;
        place = gives.tells.place;
        keeps = true;
        text = record {
          text = record own { session = at; first_passed = first; last_passed = true };
          there =
              taken_there (gives.t.present + 1) gives.t.present
              (with_session gives.t at first true).generations (omega arith)
              ∙ put_there gives.t.present gives.t.generations own at first true
              (present_there laws h is marks bytes gives).there;
          session_is = refl;
          first_is = refl;
          last_is = refl;
        };
        behind = inl (
          refl,
          record {
            same = same;
            earlier = refl;
            places = λ k session first_k last_k low marked. record {
              text = marked.text;
              there =
                  taken_there (gives.t.present + 1) k
                  (with_session gives.t at first true).generations (omega (arith, low))
                  ∙ put_before gives.t.present k gives.t.generations at first true low
                  ∙ marked.there;
              session_is = marked.session_is;
              first_is = marked.first_is;
              last_is = marked.last_is;
            };
          },
        );
      }

  goes_put : Drops h.present.line grows.front → Moved h gives.t text new ask events report kept
  unfolding session text
  goes_put drops =
      let own : GenerationText = present_text laws h is marks bytes gives in
      let base : Database = h.present.base in
      let at : List ℕ = spelling base new in
      let half : History = record {
        earlier = [];
        present = record h.present { line = new };
        later = [];
      } in
      let moves : MovesInside h (Change ask events) (Ok report) half = record {
        answers = does;
        base = refl;
        by = refl;
        earlier = inr (
          first_lost h.present.line new grows base
              (present_is laws h is marks bytes gives).line drops,
          refl,
        );
        later = inr (
          (λ stays. elim stays.1 [
            | inl undo ↦ undo
            | inr rest ↦ elim rest [
              | inl redo ↦ redo
              | inr stood ↦ grows.ne (ap (λ (l : Line). l.current) stood)
            ]
          ]),
          refl,
        );
      } in
      let moved : IsMovedInside h half at = record {
        command = Change ask events;
        answer = Ok report;
        moves = moves;
        spells = inl refl;
      } in
      let m : StepMarks puts.m own false =
      goes_marked laws.line base h.present.line new
      (present_is laws h is marks bytes gives).database
      (present_is laws h is marks bytes gives).line grows own puts.marks.0 puts.marks.1 puts.m
      puts.marks.4 was now drops in
      let cut : HistoryText = without_later (with_session gives.t at false true) in
      let next : HistoryText = without_earlier cut in
      let left : put.2 ≡ next = puts.left ∙ left_lost gives.t at puts.m own m in
      let Can : Generation → Type 0 = λ g. IsWritable g.base in
      let gives_next : GivesHistory kept half (all_marks next.generations (generations half)) =
      record {
        t = next;
        is = subst IsHistoryText left puts.is;
        spelled = put.5 ∙ ap history_text left;
        tells = replaced_alone gives.t at false true h half gives.tells moved refl refl;
        writable =
            All-cons Can half.present [] (one_of Can h.earlier h.present h.later gives.writable)
            (All-nil Can);
        marked = refl;
      } in record {
        grows = grows;
        half = half;
        marks = all_marks next.generations (generations half);
        gives = gives_next;
        history = laws.inside h half (Change ask events) (Ok report) is moves;
        present = refl;
        later = refl;
        moves = moves;
        place = refl;
        keeps = false;
        text =
            dropped_there gives.t.present cut.generations at false true (record {
              text = record own { session = at; first_passed = false; last_passed = true };
              there =
                  taken_there (gives.t.present + 1) gives.t.present
                  (with_session gives.t at false true).generations (omega arith)
                  ∙ put_there gives.t.present gives.t.generations own at false true
                  (present_there laws h is marks bytes gives).there;
              session_is = refl;
              first_is = refl;
              last_is = refl;
            });
        behind = inr (refl, record { drops = drops; earlier = refl });
      }

  pub step_moved : Moved h gives.t (present_text laws h is marks bytes gives) new ask events
      report kept
  unfolding text
  step_moved = elim grows.front_is [
    | inl same ↦ stays_put same
    | inr drops ↦ goes_put drops
  ]

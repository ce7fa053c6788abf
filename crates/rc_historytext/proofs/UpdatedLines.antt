-- A line after a change that moved something, as its text has it, and the marks of a step.
use Rattle.std.proofs.Common.{◌≡◌, ◌≢◌, ◌∙◌, ◌⊎◌, ◌+◌, ◌≤◌, ◌<◌, ◌&&◌, inl, inr, ℕ, Bool}
use Rattle.std.proofs.Common.{true, false, not, List, [], ◌∷◌, ◌++◌, length, map, All, Option, Some}
use Rattle.std.proofs.Common.{arith, refl, sym, ap, subst, length-append, if◌then◌else◌}
use Rattle.std.specs.Prelude.{ltb, nat_lt}
use Rattle.std.proofs.lemmas.Bool.{false_from_ne_true, le-ltb, ltb-true}
use Rattle.std.proofs.lemmas.List.{length-map}
use Rattle.std.proofs.lemmas.List.Elements.{All-cons, All-head, All-nil, All-tail}
use Rattle.rc_model.specs.declared.Event.{Event}
use Rattle.rc_model.specs.Database.{Database, IsDatabase, IsTable}
use Rattle.rc_model.specs.Line.{DifferInTurn, IsNext, Line, State, put_last, shorter}
use Rattle.rc_model.specs.Line.{states, within_bound}
use Rattle.rc_model.specs.Plan.{Ask}
use Rattle.rc_model.specs.Session.{Change, Does, IsLineOf, IsStateOf, Reported}
use Rattle.rc_model.proofs.Fitting.{fitted_current}
use Rattle.rc_model.proofs.Lines.{states_one}
use Rattle.rc_livetext.specs.Text.{LiveText, StateText, live_text}
use Rattle.rc_livetext.specs.Spelling.{Spells, spelling, state_text, text_with}
use Rattle.rc_history.specs.History.{first_state}
use Rattle.rc_history.proofs.Ends.{first_push}
use Rattle.rc_historytext.specs.declared.keeping.Keeping.TheVariants.{Step}
use Rattle.rc_historytext.specs.declared.marks.Marks.{Marks}
use Rattle.rc_historytext.specs.Text.{GenerationText, HistoryText}
use Rattle.rc_historytext.specs.Moves.{with_session, without_earlier, without_later}
use Rattle.rc_historytext.specs.States.{first_of, oldest_state}
use Rattle.rc_historytext.specs.Marking.{AreMarks, first_of_two, is_alone, last_of_two, mark_alone}
use Rattle.rc_historytext.specs.Keeping.{cut_earlier, cut_later, left_by}
use Rattle.rc_historytext.proofs.TravelledLines.{next_not_alone, oldest_pushed}

-- the oldest of at least two states is dropped before the current one
pub record Drops (line : Line) (front : List State) : Type 0 where
  pub gone : State
  pub first : State
  pub more : List State
  pub was : line.before ≡ gone ∷ first ∷ more
  pub is : front ≡ first ∷ more

-- a line with one state more behind the current one, and none after it
pub record Grows (line new : Line) : Type 0 where
  pub ne : new.current ≢ line.current
  pub front : List State
  pub is : new ≡ record {
    before = front ++ line.current ∷ [];
    current = new.current;
    after = [];
    bound = line.bound;
  }
  pub front_is : (front ≡ line.before) ⊎ Drops line front

-- one state beyond the bound
pub record Shortened (before : List State) (current end : State) (bound : ℕ) : Type 0 where
  gone : State
  first : State
  more : List State
  was : before ≡ gone ∷ first ∷ more
  is : shorter (before ++ current ∷ []) (record {
    before = before ++ current ∷ [];
    current = end;
    after = [];
    bound = bound;
  }) ≡ record {
    before = (first ∷ more) ++ current ∷ [];
    current = end;
    after = [];
    bound = bound;
  }

pub shortened : (before : List State) (current end : State) (bound : ℕ) → 3 ≤ bound
    → bound < length ((before ++ current ∷ []) ++ end ∷ [])
    → Shortened before current end bound
shortened [] current end bound few many = let low : bound < 2 = many in
    absurd (omega (arith, few, low))
shortened (b ∷ []) current end bound few many = let low : bound < 3 = many in
    absurd (omega (arith, few, low))
shortened (b ∷ r ∷ rs) current end bound few many =
    record { gone = b; first = r; more = rs; was = refl; is = refl }

grows_by : (line new : Line) (end : State) → 3 ≤ line.bound → end ≢ line.current
    → new ≡ within_bound (put_last line end) → Grows line new
grows_by line new end few other is =
    by (ltb line.bound (length (states (put_last line end)))) refl
  where
    current : new.current ≡ end
    current = ap (λ (l : Line). l.current) is ∙ fitted_current (put_last line end)

    ends : (front : List State) → new ≡ record {
      before = front ++ line.current ∷ [];
      current = end;
      after = [];
      bound = line.bound;
    } → new ≡ record {
      before = front ++ line.current ∷ [];
      current = new.current;
      after = [];
      bound = line.bound;
    }
    ends front same = same ∙ ap (λ (c : State). record {
      before = front ++ line.current ∷ [];
      current = c;
      after = [];
      bound = line.bound;
    }) (sym current)

    differs : new.current ≢ line.current
    differs same = other (sym current ∙ same)

    by : (b : Bool) → ltb line.bound (length (states (put_last line end))) ≡ b → Grows line new
    by false fits = record {
      ne = differs;
      front = line.before;
      is =
          ends line.before (is ∙ ap (λ (b : Bool). if b
          then shorter (put_last line end).before (put_last line end) else put_last line end) fits);
      front_is = inl refl;
    }
    by true more =
        let s = shortened line.before line.current end line.bound few
        (ltb-true line.bound (length (states (put_last line end))) more) in record {
          ne = differs;
          front = s.first ∷ s.more;
          is =
              ends (s.first ∷ s.more) (is ∙ ap (λ (b : Bool). if b
              then shorter (put_last line end).before (put_last line end)
              else put_last line end) more ∙ s.is);
          front_is = inr (record {
            gone = s.gone;
            first = s.first;
            more = s.more;
            was = s.was;
            is = refl;
          });
        }

-- a change leaves a line as it was, or puts a state behind the current one
pub grown : (d : Database) (line new : Line) (ask : Ask) (events : List Event) (report : Reported)
    → IsLineOf d line → Does d line (Change ask events) report new
    → (new ≡ line) ⊎ Grows line new
grown d line new ask events report of (inr edit) = absurd edit.altered
grown d line new ask events report of (inl run) = elim run.moved [
  | inl stays ↦ inl stays.1
  | inr moves ↦ inr (grows_by line new _ of.is_line.bound.0 moves.0 moves.1)
]

module _ (line new : Line) (grows : Grows line new) where
  -- the line with the cursor one back
  back_line : Line
  back_line = record {
    before = grows.front;
    current = line.current;
    after = new.current ∷ [];
    bound = new.bound;
  }

  back_next : IsNext back_line new
  unfolding back_line
  back_next = record {
    left = ap (λ (l : Line). l.before) grows.is;
    reached = ap (λ (l : Line). new.current ∷ l.after) (sym grows.is);
    bound = refl;
  }

  pub grown_before : new.before ≡ grows.front ++ line.current ∷ []
  grown_before = ap (λ (l : Line). l.before) grows.is

  pub grown_after : new.after ≡ []
  grown_after = ap (λ (l : Line). l.after) grows.is

  pub grown_bound : new.bound ≡ line.bound
  grown_bound = ap (λ (l : Line). l.bound) grows.is

  pub grown_not_alone : (d : Database) (b : Option ℕ) → is_alone (text_with b d new) ≡ false
  grown_not_alone d b = next_not_alone d b back_line new back_next

  -- the first state is still there, where none is dropped
  pub first_stays : grows.front ≡ line.before → first_state new ≡ first_state line
  first_stays same =
      ap (λ (ss : List State). first_in ss new.current) grown_before
      ∙ first_push grows.front line.current new.current
      ∙ ap (λ (ss : List State). first_in ss line.current) same
    where
      first_in : List State → State → State
      first_in ss s = first_state (record { before = ss; current = s; after = []; bound = 0 })

  pub first_goes : (d : Database) → IsLineOf d line → (drops : Drops line grows.front)
      → drops.gone ≢ drops.first
  first_goes d of drops =
      let differ : DifferInTurn (states line) = of.is_line.held.differ in
      (subst (λ (ss : List State). DifferInTurn (ss ++ line.current ∷ line.after)) drops.was
      differ).0

  pub first_lost : (d : Database) → IsLineOf d line → Drops line grows.front
      → first_state new ≢ first_state line
  first_lost d of drops same =
      first_goes d of drops
      (sym (ap (λ (ss : List State). first_in ss line.current) drops.was)
      ∙ sym same
      ∙ ap (λ (ss : List State). first_in ss new.current) grown_before
      ∙ ap (λ (ss : List State). first_in (ss ++ line.current ∷ []) new.current) drops.is)
    where
      first_in : List State → State → State
      first_in ss s = first_state (record { before = ss; current = s; after = []; bound = 0 })

-- the texts of states of a database tell which they are
single : (d : Database) (s : State) → IsStateOf d s → IsTable s.table
    → IsLineOf d (record { before = []; current = s; after = []; bound = 3 })
single d s is table = record {
  is_line = record {
    held = states_one (length s.live) s refl table;
    bound = (omega arith, omega arith);
    few = omega arith;
  };
  each = All-cons (IsStateOf d) s [] is (All-nil (IsStateOf d));
}

abbrev pub OneLine : Type 0
OneLine = (d : Database) (bytes : List ℕ) (a b : Line) → IsDatabase d → IsLineOf d a
    → IsLineOf d b → Spells d bytes a → Spells d bytes b → a ≡ b

pub state_once : OneLine → (d : Database) (a b : State) → IsDatabase d → IsStateOf d a
    → IsTable a.table → IsStateOf d b → IsTable b.table
    → state_text d.names a ≡ state_text d.names b → a ≡ b
unfolding spelling
state_once once d a b is one one_table other other_table same =
    let alone : State → Line = λ s. record { before = []; current = s; after = []; bound = 3 } in
    ap (λ (l : Line). l.current)
    (once d (spelling d (alone a)) (alone a) (alone b) is (single d a one one_table)
    (single d b other other_table) (inl refl)
    (inl (ap (λ (s : StateText). live_text (record {
      services = d.names;
      bound = Some 3;
      before = [];
      current = s;
      after = [];
    })) same)))

-- the marks of a step that moved something
pub record StepMarks (m : Marks) (g : GenerationText) (keeps : Bool) : Type 0 where
  pub keeps_first : m.keeps_first ≡ keeps
  pub keeps_last : m.keeps_last ≡ false
  pub first : m.first_passed ≡ (keeps && g.first_passed)
  pub last : m.last_passed ≡ true

module _ (once : OneLine) (d : Database) (line new : Line) (is : IsDatabase d)
    (of : IsLineOf d line) (grows : Grows line new) (g : GenerationText) (old said : LiveText)
    (m : Marks) (are : AreMarks Step g old said m)
    (was : (b : Option ℕ) × (old ≡ text_with b d line))
    (now : (b : Option ℕ) × (said ≡ text_with b d new)) where
  alone : is_alone said ≡ false
  alone = ap is_alone now.1 ∙ grown_not_alone line new grows d now.0

  last_goes : m.keeps_last ≡ false
  last_goes = false_from_ne_true m.keeps_last are.keeps_last.0

  first_by : (keeps : Bool) → m.keeps_first ≡ keeps
      → m.first_passed ≡ (keeps && g.first_passed)
  first_by keeps same =
      are.first
      ∙ ap (λ (b : Bool). if b then mark_alone Step m g old said else first_of_two Step m g old)
      alone
      ∙ ap (λ (b : Bool). b && g.first_passed) same

  last_by : (keeps : Bool) → m.keeps_first ≡ keeps
      → m.last_passed ≡ not (keeps && nat_lt (length said.before) (length old.before))
  last_by keeps same =
      are.last
      ∙ ap (λ (b : Bool). if b then mark_alone Step m g old said
      else last_of_two Step m g old said) alone
      ∙ ap (λ (b : Bool). not (b && nat_lt (length said.before) (length old.before))) same

  pub stays_marked : grows.front ≡ line.before → StepMarks m g true
  stays_marked same =
      let text = state_text d.names in
      let oldest : oldest_state said ≡ oldest_state old =
      ap oldest_state now.1
      ∙ ap (λ (ss : List State). first_of (map text ss) (text new.current))
      (grown_before line new grows)
      ∙ oldest_pushed text grows.front line.current new.current
      ∙ ap (λ (ss : List State). first_of (map text ss) (text line.current)) same
      ∙ sym (ap oldest_state was.1) in
      let keeps : m.keeps_first ≡ true = are.keeps_first.1 oldest in
      let long : length said.before ≡ length new.before =
      ap (λ (s : LiveText). length s.before) now.1 ∙ length-map new.before text in
      let short : length old.before ≡ length line.before =
      ap (λ (s : LiveText). length s.before) was.1 ∙ length-map line.before text in
      let grown_long : length new.before ≡ length grows.front + 1 =
      ap length (grown_before line new grows)
      ∙ length-append grows.front (line.current ∷ []) in
      let front : length grows.front ≡ length line.before = ap length same in
      let on : nat_lt (length said.before) (length old.before) ≡ false =
      le-ltb (length said.before) (length old.before)
      (omega (arith, long, short, grown_long, front)) in record {
        keeps_first = keeps;
        keeps_last = last_goes;
        first = first_by true keeps;
        last = last_by true keeps ∙ ap not on;
      }

  pub goes_marked : Drops line grows.front → StepMarks m g false
  goes_marked drops =
      let text = state_text d.names in
      let front : states line ≡ drops.gone ∷ drops.first ∷ (drops.more ++ line.current
      ∷ line.after) = ap (λ (ss : List State). ss ++ line.current ∷ line.after) drops.was in
      let rest : List State = drops.more ++ line.current ∷ line.after in
      let each : All (IsStateOf d) (drops.gone ∷ drops.first ∷ rest) =
      subst (All (IsStateOf d)) front of.each in
      let Table : State → Type 0 = λ s. IsTable s.table in
      let tables : All Table (drops.gone ∷ drops.first ∷ rest) =
      subst (All Table) front of.is_line.held.tables in
      let differs = first_goes line new grows d of drops in
      let goes : m.keeps_first ≡ false = false_from_ne_true m.keeps_first (λ stays.
      let oldest : oldest_state said ≡ oldest_state old = are.keeps_first.0 stays in
      let same : text drops.first ≡ text drops.gone =
      sym (ap oldest_state now.1
      ∙ ap (λ (ss : List State). first_of (map text ss) (text new.current))
      (grown_before line new grows)
      ∙ ap (λ (ss : List State). first_of (map text (ss ++ line.current ∷ []))
      (text new.current)) drops.is)
      ∙ oldest ∙ ap oldest_state was.1
      ∙ ap (λ (ss : List State). first_of (map text ss) (text line.current)) drops.was in
      differs (state_once once d drops.gone drops.first is
      (All-head (IsStateOf d) drops.gone (drops.first ∷ rest) each)
      (All-head Table drops.gone (drops.first ∷ rest) tables)
      (All-head (IsStateOf d) drops.first rest
      (All-tail (IsStateOf d) drops.gone (drops.first ∷ rest) each))
      (All-head Table drops.first rest
      (All-tail Table drops.gone (drops.first ∷ rest) tables)) (sym same))) in record {
        keeps_first = goes;
        keeps_last = last_goes;
        first = first_by false goes;
        last = last_by false goes;
      }

-- what such a step makes of a text
pub left_same : (t : HistoryText) (session : List ℕ) (m : Marks) (g : GenerationText)
    → StepMarks m g true
    → left_by m t session ≡ without_later (with_session t session g.first_passed true)
left_same t session m g marks i =
    cut_earlier (marks.keeps_first i)
    (cut_later (marks.keeps_last i) (with_session t session (marks.first i) (marks.last i)))

pub left_lost : (t : HistoryText) (session : List ℕ) (m : Marks) (g : GenerationText)
    → StepMarks m g false
    → left_by m t session ≡ without_earlier (without_later (with_session t session false true))
left_lost t session m g marks i =
    cut_earlier (marks.keeps_first i)
    (cut_later (marks.keeps_last i) (with_session t session (marks.first i) (marks.last i)))

-- A line after a change that moved something, and the line before that.
use Rattle.std.proofs.Common.{◌≡◌, ◌≢◌, ◌∙◌, ◌⊎◌, ◌≤◌, ◌<◌, inl, inr, ℕ, Bool, true, false, All}
use Rattle.std.proofs.Common.{List, [], ◌∷◌, ◌++◌, length, arith, refl, sym, ap, subst}
use Rattle.std.proofs.Common.{if◌then◌else◌, length-append}
use Rattle.std.specs.Prelude.{ltb}
use Rattle.std.proofs.lemmas.Bool.{le-ltb, ltb-true}
use Rattle.std.proofs.lemmas.List.Elements.{All-cons, All-head, All-nil, All-tail}
use Rattle.rc_model.specs.declared.Event.{Event}
use Rattle.rc_model.specs.Database.{Database, IsTable}
use Rattle.rc_model.specs.Line.{DifferInTurn, IsNext, Line, MovesByRedo, MovesByUndo, State}
use Rattle.rc_model.specs.Line.{put_between, put_last, shorter, states, with_live, within_bound}
use Rattle.rc_model.specs.Plan.{Ask}
use Rattle.rc_model.specs.Session.{Change, Does, IsLineOf, IsStateOf, Redo, Reported, Undo}
use Rattle.rc_launch.specs.WayCrashes.{LineHasRoom}
use Rattle.rc_model.proofs.Fitting.{fitted_short}
use Rattle.rc_model.proofs.Lines.{all_to, differ_front}

-- a line with one state more behind the current one, and none after it; the oldest may be dropped,
-- but one stays before the current one if there was one
pub record EndsBehind (line new : Line) : Type 0 where
  pub front : List State
  pub before : new.before ≡ front ++ line.current ∷ []
  pub after : new.after ≡ []
  pub first : front ≡ [] → line.before ≡ []

-- one state beyond the bound
record LosesFirst (before : List State) (current end : State) (bound : ℕ) : Type 0 where
  front : List State
  is : shorter (before ++ current ∷ []) (record {
    before = before ++ current ∷ [];
    current = end;
    after = [];
    bound = bound;
  }) ≡ record {
    before = front ++ current ∷ [];
    current = end;
    after = [];
    bound = bound;
  }
  some : front ≢ []

shortened : (before : List State) (current end : State) (bound : ℕ) → 3 ≤ bound
    → bound < length ((before ++ current ∷ []) ++ end ∷ [])
    → LosesFirst before current end bound
shortened [] current end bound few many =
    let low : bound < 2 = many in absurd (omega (arith, few, low))
shortened (b ∷ []) current end bound few many =
    let low : bound < 3 = many in absurd (omega (arith, few, low))
shortened (b ∷ r ∷ rs) current end bound few many =
    record { front = r ∷ rs; is = refl; some = λ none. absurd (omega (arith, ap length none)) }

grows_by : (line new : Line) (end : State) → 3 ≤ line.bound
    → new ≡ within_bound (put_last line end) → EndsBehind line new
grows_by line new end few is =
    by (ltb line.bound (length (states (put_last line end)))) refl
  where
    by : (b : Bool) → ltb line.bound (length (states (put_last line end))) ≡ b → EndsBehind line new
    by false fits =
        let same : new ≡ put_last line end = is ∙ ap (λ (b : Bool). if b
        then shorter (put_last line end).before (put_last line end) else put_last line end) fits in
        record {
          front = line.before;
          before = ap (λ (l : Line). l.before) same;
          after = ap (λ (l : Line). l.after) same;
          first = λ none. none;
        }
    by true more =
        let s = shortened line.before line.current end line.bound few
        (ltb-true line.bound (length (states (put_last line end))) more) in
        let same = is ∙ ap (λ (b : Bool). if b
        then shorter (put_last line end).before (put_last line end) else put_last line end) more
        ∙ s.is in
        record {
          front = s.front;
          before = ap (λ (l : Line). l.before) same;
          after = ap (λ (l : Line). l.after) same;
          first = λ none. absurd (s.some none);
        }

-- a change leaves a line as it was, or puts a state behind the current one
pub grown : (d : Database) (line new : Line) (ask : Ask) (events : List Event) (report : Reported)
    → IsLineOf d line → Does d line (Change ask events) report new
    → (new ≡ line) ⊎ EndsBehind line new
grown d line new ask events report of (inr edit) = absurd edit.altered
grown d line new ask events report of (inl run) = elim run.moved [
  | inl stays ↦ inl stays.1
  | inr moves ↦ inr (grows_by line new _ of.is_line.bound.0 moves.1)
]

abbrev end_of : List State → State → State
end_of [] s = s
end_of (x ∷ xs) s = end_of xs x

abbrev front_of : List State → List State
front_of [] = []
front_of (x ∷ []) = []
front_of (x ∷ y ∷ xs) = x ∷ front_of (y ∷ xs)

end_pushed : (xs : List State) (y s : State) → end_of (xs ++ y ∷ []) s ≡ y
end_pushed [] y s = refl
end_pushed (x ∷ xs) y s = end_pushed xs y x

front_pushed : (xs : List State) (y : State) → front_of (xs ++ y ∷ []) ≡ xs
front_pushed [] y = refl
front_pushed (x ∷ []) y = refl
front_pushed (x ∷ z ∷ xs) y = ap (λ (ss : List State). x ∷ ss) (front_pushed (z ∷ xs) y)

pub none_long : (xs : List State) → length xs ≡ 0 → xs ≡ []
none_long [] none = refl
none_long (x ∷ xs) none = absurd (omega (arith, none))

-- the line before stands on the last of the states before
pub back_from : (new back : Line) (front : List State) (a : State)
    → new.before ≡ front ++ a ∷ [] → IsNext back new
    → (back.before ≡ front) × (back.current ≡ a)
back_from new back front a before next =
    let same : back.before ++ back.current ∷ [] ≡ front ++ a ∷ [] = sym next.left ∙ before in (
      sym (front_pushed back.before back.current) ∙ ap front_of same ∙ front_pushed front a,
      sym (end_pushed back.before back.current a) ∙ ap (λ (ss : List State). end_of ss a) same
          ∙ end_pushed front a a,
    )

-- a line without what comes after its current state
abbrev pub cut_line : Line → Line
cut_line line = record line { after = [] }

pub cut_of : (d : Database) (line : Line) → IsLineOf d line → IsLineOf d (cut_line line)
cut_of d line of = record {
  is_line = record {
    held = record {
      differ = differ_front line.before line.current line.after of.is_line.held.differ;
      bounds =
          all_to (λ s. length s.live ≡ length line.current.live) line.before line.current
          line.after of.is_line.held.bounds;
      tables =
          all_to (λ s. IsTable s.table) line.before line.current line.after
          of.is_line.held.tables;
    };
    bound = of.is_line.bound;
    few = omega (
      arith,
      of.is_line.few,
      length-append line.before (line.current ∷ line.after),
      length-append line.before (line.current ∷ []),
    );
  };
  each = all_to (IsStateOf d) line.before line.current line.after of.each;
}

-- an undo leaves a line as it was, or comes to the state before, or puts a state between
pub undone_line : (d : Database) (line new : Line) (limit : ℕ) (events : List Event)
    (report : Reported) → LineHasRoom line → Does d line (Undo limit events) report new
    → (new ≡ line) ⊎ IsNext new line ⊎ (new.before ≡ line.before)
undone_line d line new limit events report room (inr edit) = absurd edit.altered
undone_line d line new limit events report room (inl run) = by run.moved
  where
    by : MovesByUndo line run.live new
        → (new ≡ line) ⊎ IsNext new line ⊎ (new.before ≡ line.before)
    by (back, next, inl (same, is)) =
        inr (inl (subst (λ (l : Line). IsNext l line) (sym is) next))
    by (back, next, inr (inl (other, same, is))) = inl is
    by (back, next, inr (inr (other, differs, is))) =
        let put : Line = put_between back (with_live line run.live) line in
        let many : length (states put) ≤ put.bound =
        omega (
          arith,
          room,
          next.bound,
          length-append line.before (line.current ∷ line.after),
          length-append line.before (with_live line run.live ∷ back.after),
          ap length next.reached,
        ) in
        inr (inr (ap (λ (l : Line). l.before) (is ∙ fitted_short put many)))

-- a redo leaves a line as it was, or puts a state behind the current one or comes to the next
pub redone_line : (d : Database) (line new : Line) (limit : ℕ) (events : List Event)
    (report : Reported) → LineHasRoom line → Does d line (Redo limit events) report new
    → (new ≡ line) ⊎ (new.before ≡ line.before ++ line.current ∷ [])
redone_line d line new limit events report room (inr edit) = absurd edit.altered
redone_line d line new limit events report room (inl run) = by run.moved
  where
    by : MovesByRedo line run.live new
        → (new ≡ line) ⊎ (new.before ≡ line.before ++ line.current ∷ [])
    by (on, next, inl (same, is)) = inr (ap (λ (l : Line). l.before) is ∙ next.left)
    by (on, next, inr (inl (other, same, is))) = inl is
    by (on, next, inr (inr (other, differs, is))) =
        let put : Line = put_between line (with_live line run.live) on in
        let many : length (states put) ≤ put.bound =
        omega (
          arith,
          room,
          length-append line.before (line.current ∷ line.after),
          length-append on.before (with_live line run.live ∷ line.after),
          ap length next.left,
          length-append line.before (line.current ∷ []),
        ) in
        inr (ap (λ (l : Line). l.before) (is ∙ fitted_short put many) ∙ next.left)

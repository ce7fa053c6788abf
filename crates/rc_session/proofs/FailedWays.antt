-- What a redo leaves that fails midway, and how an undo or redo goes on after one that failed.
use Rattle.std.proofs.Common.{◌≡◌, ◌≢◌, ◌∙◌, ◌⊎◌, ◌≤◌, ◌<◌, suc, Bool, List, [], ◌∷◌, ◌++◌, length}
use Rattle.std.proofs.Common.{length-append, Ok, inl, inr, refl, ap, sym, subst, arith}
use Rattle.rc_model.specs.Database.{IsTable, Database, IsDatabase}
use Rattle.rc_model.specs.Line.{State, Entry, IsEntry, Line, IsLine, IsNext, IsEntryBefore}
use Rattle.rc_model.specs.Line.{IsEntryAfter, states, within_bound, MovesByUndo, MovesByRedo}
use Rattle.rc_model.specs.Line.{put_between, with_live}
use Rattle.rc_model.proofs.Walking.{current_table}
use Rattle.rc_model.proofs.Lines.{cons_head, cons_tail}
use Rattle.rc_model.proofs.Fitting.{Loses, Oldest, Last, fitted_cases, fitted_back, fitted_on}
use Rattle.rc_model.proofs.Fitting.{fitted_current}
use Rattle.rc_line.proofs.Closings.{last_same}
use Rattle.rc_model.specs.Session.{Command, Change, Undo, Redo, Add, Delete, Reported, Does}
use Rattle.rc_model.specs.Session.{IsLineOf}
use Rattle.rc_model.specs.Headline.{LeavesAhead, RedosLeaveWhatRemains, IsFull, AreLeftBefore}
use Rattle.rc_model.specs.Headline.{AreLeftAfter, UndosGoOn, RedosGoOn, IsUndo, IsRedo}
use Rattle.rc_session.proofs.Keeping.{answer_keeps}
use Rattle.rc_session.proofs.Neighbours.{one_back, one_on, push_front}
use Rattle.rc_session.proofs.Entries.{entry_there, entry_ahead}
use Rattle.rc_session.proofs.Undos.{undo_well, redo_well}

-- what a redo leaves that altered nothing
stays : (on line new : Line) → IsNext line on → IsTable line.current.table → new ≡ line
    → LeavesAhead on line new
stays on line new h is_table same = record {
  bundles = ap (λ l. l.current.table) same;
  remains =
      subst (λ l. (entry : Entry) × IsEntryAfter l entry × IsEntry l.current on.current entry)
      (sym same) (entry_ahead line on h is_table);
  redone = inl same;
}

-- and one whose end was put between the two
splits : (on line new : Line) (live : List Bool) → 3 ≤ line.bound → IsTable line.current.table
    → IsNext line on → live ≢ line.current.live
    → new ≡ within_bound (put_between line (with_live line live) on) → LeavesAhead on line new
splits on line new live three is_table h differs same =
    let full : Line = put_between line (with_live line live) on in
    let current : new.current ≡ with_live line live =
    ap (λ l. l.current) same ∙ fitted_current full in
    let behind : Line = record {
      before = line.before;
      current = line.current;
      after = full.current ∷ full.after;
      bound = line.bound;
    } in
    let ahead : Line = record {
      before = full.before ++ full.current ∷ [];
      current = on.current;
      after = on.after;
      bound = line.bound;
    } in
    let left =
    fitted_back full behind three (record { left = h.left; reached = refl; bound = refl }) in
    let right =
    fitted_on full ahead three (record { left = refl; reached = h.reached; bound = refl }) in
    let is_behind : IsNext left.0 new = subst (IsNext left.0) (sym same) left.1 in
    let is_ahead : IsNext new right.0 = subst (λ l. IsNext l right.0) (sym same) right.1 in
    record {
      bundles = ap (λ s. s.table) current;
      remains =
          subst (λ s. (entry : Entry) × IsEntryAfter new entry × IsEntry new.current s entry)
          right.2
          (entry_ahead new right.0 is_ahead
          (subst IsTable (sym (ap (λ (s : State). s.table) current)) is_table));
      redone = inr (
        (λ as_before. differs (sym (ap (λ s. s.live) current) ∙ ap (λ s. s.live) as_before)),
        subst (λ s. (entry : Entry) × IsEntryBefore new entry × IsEntry s new.current entry) left.2
            (entry_there left.0 new is_behind
            (subst (λ (s : State). IsTable s.table) (sym left.2) is_table)),
      );
    }

left_ahead : (on line new : Line) (live : List Bool) → 3 ≤ line.bound → IsTable line.current.table
    → IsNext line on → MovesByRedo line live new → (new ≡ on) ⊎ LeavesAhead on line new
left_ahead on line new live three is_table h r =
    let same : r.0 ≡ on = one_on line r.0 on r.1 h in elim r.2 [
      | inl there ↦ inl (there.1 ∙ same)
      | inr other ↦ inr (elim other [
        | inl here ↦ stays on line new h is_table here.2
        | inr between ↦
            splits on line new live three is_table h between.1
            (between.2 ∙ ap (λ l. within_bound (put_between line (with_live line live) l)) same)
      ])
    ]

pub redo_leaves : (d : Database) (line : Line) → IsLineOf d line → RedosLeaveWhatRemains d line
redo_leaves d line of on new limit events told h does = elim does [
  | inl run ↦
      left_ahead on line new run.live of.is_line.bound.0 (current_table line of.is_line) h run.moved
  | inr edit ↦ absurd edit.altered
]

-- a line that would have one state more than it may is full
full_of : (line full : Line) → IsLine line → length (states full) ≡ suc (length (states line))
    → full.bound ≡ line.bound → full.bound < length (states full) → IsFull line
full_of line full is one_more bound many = omega (arith, is.few, one_more, bound, many)

-- one state more stands between
size_back : (back line : Line) (end : State) → IsNext back line
    → length (states (put_between back end line)) ≡ suc (length (states line))
size_back back line end h =
    omega (
      arith,
      length-append line.before (end ∷ back.after),
      length-append line.before (line.current ∷ line.after),
      ap length h.reached,
    )

size_on : (line on : Line) (end : State) → IsNext line on
    → length (states (put_between line end on)) ≡ suc (length (states line))
size_on line on end h =
    omega (
      arith,
      length-append on.before (end ∷ line.after),
      length-append line.before (line.current ∷ line.after),
      ap length h.left,
      length-append line.before (line.current ∷ []),
    )

-- where a state was put between that is not the current one, the line is another
moves : (line full there : Line) → full.current ≢ line.current → there ≡ within_bound full
    → there ≢ line
moves line full there differs made stays =
    differs (sym (fitted_current full) ∙ ap (λ (l : Line). l.current) (sym made ∙ stays))

-- the state before the current one, and those before it, where that one stands after a state that
-- was put between
back_there : (back line there new : Line) (end : State) → IsLine line → end ≢ line.current
    → IsNext back line → there ≡ within_bound (put_between back end line) → IsNext new there
    → (new.current ≡ back.current) × AreLeftBefore line there back.before new.before
back_there back line there new end is differs h made next =
    let full : Line = put_between back end line in
    let three : 3 ≤ full.bound = omega (arith, is.bound.0, h.bound) in
    elim (fitted_cases full three) [
      | inl all ↦
          let same : new.before ++ new.current ∷ [] ≡ back.before ++ back.current ∷ [] =
          sym next.left ∙ ap (λ l. l.before) (made ∙ all) ∙ h.left in (
            last_same new.before back.before new.current back.current same,
            inl (push_front new.before back.before new.current back.current same),
          )
      | inr (many, loses) ↦ back_lost back line there new end is differs h made next many loses
    ]
  where
    back_lost : (back line there new : Line) (end : State) → IsLine line → end ≢ line.current
        → IsNext back line → there ≡ within_bound (put_between back end line) → IsNext new there
        → back.bound < length (states (put_between back end line))
        → Loses (put_between back end line) (within_bound (put_between back end line))
        → (new.current ≡ back.current) × AreLeftBefore line there back.before new.before
    back_lost back line there new end is differs h made next many
        (Oldest gone second rest front left) =
        let same : (gone ∷ new.before) ++ new.current ∷ [] ≡ back.before ++ back.current ∷ [] =
        ap (λ (l : List State). gone ∷ l) (sym next.left ∙ ap (λ l. l.before) (made ∙ left))
        ∙ sym front ∙ h.left in (
          last_same (gone ∷ new.before) back.before new.current back.current same,
          inr (
            moves line (put_between back end line) there differs made,
            full_of line (put_between back end line) is (size_back back line end h)
                (sym h.bound) many,
            (gone, sym (push_front (gone ∷ new.before) back.before new.current back.current same)),
          ),
        )
    back_lost back line there new end is differs h made next many
        (Last gone on rest after left few) =
        let same : new.before ++ new.current ∷ [] ≡ back.before ++ back.current ∷ [] =
        sym next.left ∙ ap (λ l. l.before) (made ∙ left) ∙ h.left in (
          last_same new.before back.before new.current back.current same,
          inl (push_front new.before back.before new.current back.current same),
        )

-- after where an undo that did not come to the state before has put the line stands that state
back_again : (back line there new : Line) (live : List Bool) → IsLine line → IsNext back line
    → MovesByUndo line live there → there ≢ back → IsNext new there
    → (new.current ≡ back.current) × AreLeftBefore line there back.before new.before
back_again back line there new live is h u other next = elim u.2 [
  | inl reached ↦ absurd (other (reached.1 ∙ one_back u.0 back line u.1 h))
  | inr rest ↦ elim rest [
    | inl here ↦
        let same : new ≡ back = one_back new back line (subst (IsNext new) here.2 next) h in
        (ap (λ l. l.current) same, inl (ap (λ l. l.before) same))
    | inr between ↦
        back_there back line there new (with_live line live) is
        (λ same. between.1 (ap (λ (s : State). s.live) same)) h
        (between.2 ∙ ap (λ l. within_bound (put_between l (with_live line live) line))
        (one_back u.0 back line u.1 h)) next
  ]
]

-- the state after the current one, and those after it, where that one stands ahead of a state that
-- was put between
on_there : (on line there new : Line) (end : State) → IsLine line → end ≢ line.current
    → IsNext line on → there ≡ within_bound (put_between line end on) → IsNext there new
    → (new.current ≡ on.current) × AreLeftAfter line there on.after new.after
on_there on line there new end is differs h made next =
    elim (fitted_cases (put_between line end on) is.bound.0) [
      | inl all ↦ on_kept on line there new end h (ap (λ l. l.after) (made ∙ all)) next
      | inr (many, loses) ↦ on_lost on line there new end is differs h made next many loses
    ]
  where
    on_kept : (on line there new : Line) (end : State) → IsNext line on → there.after ≡ line.after
        → IsNext there new → (new.current ≡ on.current) × AreLeftAfter line there on.after new.after
    on_kept on line there new end h after next =
        let same : new.current ∷ new.after ≡ on.current ∷ on.after =
        sym next.reached ∙ after ∙ h.reached in (
          cons_head new.current on.current new.after on.after same,
          inl (cons_tail new.current on.current new.after on.after same),
        )

    on_lost : (on line there new : Line) (end : State) → IsLine line → end ≢ line.current
        → IsNext line on → there ≡ within_bound (put_between line end on) → IsNext there new
        → line.bound < length (states (put_between line end on))
        → Loses (put_between line end on) (within_bound (put_between line end on))
        → (new.current ≡ on.current) × AreLeftAfter line there on.after new.after
    on_lost on line there new end is differs h made next many (Oldest gone second rest front left) =
        on_kept on line there new end h (ap (λ l. l.after) (made ∙ left)) next
    on_lost on line there new end is differs h made next many
        (Last gone first rest after left few) =
        let there_is : new.current ∷ new.after ≡ first ∷ rest =
        sym next.reached ∙ ap (λ l. l.after) (made ∙ left) in
        let same : new.current ∷ (new.after ++ gone ∷ []) ≡ on.current ∷ on.after =
        ap (λ (l : List State). l ++ gone ∷ []) there_is ∙ sym after ∙ h.reached in (
          cons_head new.current on.current (new.after ++ gone ∷ []) on.after same,
          inr (
            moves line (put_between line end on) there differs made,
            full_of line (put_between line end on) is (size_on line on end h) refl many,
            (gone, sym (cons_tail new.current on.current (new.after ++ gone ∷ []) on.after same)),
          ),
        )

-- and ahead of where such a redo has put it stands the state after
on_again : (on line there new : Line) (live : List Bool) → IsLine line → IsNext line on
    → MovesByRedo line live there → there ≢ on → IsNext there new
    → (new.current ≡ on.current) × AreLeftAfter line there on.after new.after
on_again on line there new live is h r other next = elim r.2 [
  | inl reached ↦ absurd (other (reached.1 ∙ one_on line r.0 on r.1 h))
  | inr rest ↦ elim rest [
    | inl here ↦
        let same : new ≡ on = one_on line new on (subst (λ l. IsNext l new) here.2 next) h in
        (ap (λ l. l.current) same, inl (ap (λ l. l.after) same))
    | inr between ↦
        on_there on line there new (with_live line live) is
        (λ same. between.1 (ap (λ (s : State). s.live) same)) h
        (between.2 ∙ ap (λ l. within_bound (put_between line (with_live line live) l))
        (one_on line r.0 on r.1 h)) next
  ]
]

module _ (d : Database) (is_db : IsDatabase d) (line : Line) (of : IsLineOf d line) where
  after_undo : (back there new : Line) (first : Command) (told : Reported) → IsUndo first
      → IsNext back line → Does d line first told there → there ≢ back → IsNext new there
      → (new.current ≡ back.current) × AreLeftBefore line there back.before new.before
  after_undo back there new (Undo limit events) told undo h does other next = elim does [
    | inl run ↦ back_again back line there new run.live of.is_line h run.moved other next
    | inr edit ↦ absurd edit.altered
  ]
  after_undo back there new (Change ask events) told undo h does other next = absurd undo
  after_undo back there new (Redo limit events) told undo h does other next = absurd undo
  after_undo back there new (Add name contents force) told undo h does other next = absurd undo
  after_undo back there new (Delete words force) told undo h does other next = absurd undo

  after_redo : (on there new : Line) (first : Command) (told : Reported) → IsRedo first
      → IsNext line on → Does d line first told there → there ≢ on → IsNext there new
      → (new.current ≡ on.current) × AreLeftAfter line there on.after new.after
  after_redo on there new (Redo limit events) told redo h does other next = elim does [
    | inl run ↦ on_again on line there new run.live of.is_line h run.moved other next
    | inr edit ↦ absurd edit.altered
  ]
  after_redo on there new (Change ask events) told redo h does other next = absurd redo
  after_redo on there new (Undo limit events) told redo h does other next = absurd redo
  after_redo on there new (Add name contents force) told redo h does other next = absurd redo
  after_redo on there new (Delete words force) told redo h does other next = absurd redo

  pub undos_go_on : UndosGoOn d line
  undos_go_on back there new first next told answer undo undo_next well h does other answers =
      let there_of : IsLineOf d there = answer_keeps d line of first (Ok told) there does in
      after_undo back there new first told undo h does other
      (undo_well d is_db there new next answer there_of undo_next well answers)

  pub redos_go_on : RedosGoOn d line
  redos_go_on on there new first next told answer redo redo_next well h does other answers =
      let there_of : IsLineOf d there = answer_keeps d line of first (Ok told) there does in
      after_redo on there new first told redo h does other
      (redo_well d is_db there new next answer there_of redo_next well answers)

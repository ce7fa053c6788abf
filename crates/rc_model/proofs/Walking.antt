-- Lines stay lines when the cursor moves, when a state is put in, and at an undo or redo.
use Rattle.std.proofs.Common.{◌≡◌, ◌≢◌, ◌⊎◌, ◌∙◌, ◌+◌, ◌≤◌, ℕ, suc, arith, length-append, Bool}
use Rattle.std.proofs.Common.{List, [], ◌∷◌, ◌++◌, length, take, drop, inl, inr, refl, ap, sym}
use Rattle.std.proofs.Common.{subst}
use Rattle.rc_model.specs.Database.{IsTable}
use Rattle.rc_model.specs.Line.{State, Line, IsNext, IsLine, AreStates, states, cursor}
use Rattle.rc_model.specs.Line.{within_bound, MovesTo, MovesByUndo, MovesByRedo, put_between}
use Rattle.rc_model.specs.Line.{put_last, with_live}
use Rattle.rc_model.proofs.Fitting.{fitted_is_line, fitted_current}
use Rattle.rc_model.proofs.Lines.{take_front, drop_front, next_states, next_cursor}
use Rattle.rc_model.proofs.Lines.{states_front, states_back, states_join, states_one, states_more}
use Rattle.rc_model.proofs.Lines.{states_first}
use Rattle.rc_model.proofs.Lists.{push_append}

-- a line is one whether the cursor is on one state or on the next
held_next : (line next : Line) → IsNext line next
    → AreStates (length line.current.live) (states line)
    → AreStates (length next.current.live) (states next)
held_next line next h held =
    let moved : AreStates (length line.current.live) (states next) =
    subst (AreStates (length line.current.live)) (sym (next_states line next h)) held in
    let bound : length next.current.live ≡ length line.current.live =
    (states_first (length line.current.live) next.current next.after
    (states_back (length line.current.live) next.before next.current next.after moved)).0 in
    subst (λ n. AreStates n (states next)) (sym bound) moved

held_back : (line next : Line) → IsNext line next
    → AreStates (length next.current.live) (states next)
    → AreStates (length line.current.live) (states line)
held_back line next h held =
    let moved : AreStates (length next.current.live) (states line) =
    subst (AreStates (length next.current.live)) (next_states line next h) held in
    let bound : length line.current.live ≡ length next.current.live =
    (states_first (length next.current.live) line.current line.after
    (states_back (length next.current.live) line.before line.current line.after moved)).0 in
    subst (λ n. AreStates n (states line)) (sym bound) moved

pub line_next : (line next : Line) → IsNext line next → IsLine line → IsLine next
line_next line next h is_line = record {
  held = held_next line next h is_line.held;
  bound = (omega (arith, h.bound, is_line.bound.0), omega (arith, h.bound, is_line.bound.1));
  few = omega (arith, h.bound, is_line.few, ap length (next_states line next h));
}

pub line_back : (line next : Line) → IsNext line next → IsLine next → IsLine line
line_back line next h is_line = record {
  held = held_back line next h is_line.held;
  bound = (omega (arith, h.bound, is_line.bound.0), omega (arith, h.bound, is_line.bound.1));
  few = omega (arith, h.bound, is_line.few, ap length (next_states line next h));
}

-- the states of a line with one more between two neighbours
pub split_states : (line next : Line) (end : State) → IsNext line next
    → states (put_between line end next) ≡ line.before ++ line.current ∷ end ∷ line.after
split_states line next end h =
    ap (λ before. before ++ end ∷ line.after) h.left
    ∙ push_append line.before line.current (end ∷ line.after)

split_size : (line next : Line) (end : State) → IsNext line next
    → length (states (put_between line end next)) ≡ length (states line) + 1
split_size line next end h =
    omega (
      arith,
      ap length (split_states line next end h),
      length-append line.before (line.current ∷ end ∷ line.after),
      length-append line.before (line.current ∷ line.after),
    )

-- a line stays one with a state more between two neighbours, within its bound
split_keeps : (line next : Line) (end : State) → IsNext line next → IsLine line
    → length end.live ≡ length line.current.live → IsTable end.table → end ≢ line.current
    → end ≢ next.current → IsLine (within_bound (put_between line end next))
split_keeps line next end h is_line same table left right =
    let bound : ℕ = length line.current.live in
    let behind : AreStates bound (line.current ∷ line.after) =
    states_back bound line.before line.current line.after is_line.held in
    let first = states_first bound line.current line.after behind in
    let rest : AreStates bound (next.current ∷ next.after) = states_back bound (line.current ∷ [])
    next.current next.after
    (subst (λ after. AreStates bound (line.current ∷ after)) h.reached behind) in
    let on : AreStates bound (end ∷ line.after) = subst (λ after. AreStates bound (end ∷ after))
    (sym h.reached) (states_more bound end next.current next.after same table right rest) in
    let all : AreStates bound (line.before ++ line.current ∷ end ∷ line.after) =
    states_join bound line.before line.current (end ∷ line.after)
    (states_front bound line.before line.current line.after is_line.held)
    (states_more bound line.current end line.after first.0 first.1 (λ e. left (sym e)) on) in
    fitted_is_line (put_between line end next)
    (subst (λ n. AreStates n (states (put_between line end next))) (sym same)
    (subst (AreStates bound) (sym (split_states line next end h)) all))
    is_line.bound.0 is_line.bound.1 (omega (arith, split_size line next end h, is_line.few))

-- the bundles of the current state are a table
pub current_table : (line : Line) → IsLine line → IsTable line.current.table
current_table line is_line =
    (states_first (length line.current.live) line.current line.after
    (states_back (length line.current.live) line.before line.current line.after is_line.held)).1

-- what is left of a line with one state more after the current one
last_size : (line : Line) (end : State)
    → length (states (put_last line end)) ≤ length (states line) + 1
last_size line end =
    omega (
      arith,
      ap length (push_append line.before line.current (end ∷ [])),
      length-append line.before (line.current ∷ end ∷ []),
      length-append line.before (line.current ∷ line.after),
    )

pub ends_keep : (line new : Line) (end : State) → IsLine line
    → length end.live ≡ length line.current.live → IsTable end.table
    → MovesTo line end new → IsLine new
ends_keep line new end is_line same table ends = elim ends [
  | inl stays ↦ subst IsLine (sym stays.1) is_line
  | inr adds ↦
      let bound : ℕ = length line.current.live in
      let first = states_first bound line.current line.after
      (states_back bound line.before line.current line.after is_line.held) in
      let two : AreStates bound (line.current ∷ end ∷ []) = states_more bound line.current end []
      first.0 first.1 (λ e. adds.0 (sym e)) (states_one bound end same table) in
      let all : AreStates bound (line.before ++ line.current ∷ end ∷ []) =
      states_join bound line.before line.current (end ∷ [])
      (states_front bound line.before line.current line.after is_line.held) two in
      subst IsLine (sym adds.1) (fitted_is_line (put_last line end)
      (subst (λ n. AreStates n ((line.before ++ line.current ∷ []) ++ end ∷ [])) (sym same)
      (subst (AreStates bound) (sym (push_append line.before line.current (end ∷ []))) all))
      is_line.bound.0 is_line.bound.1 (omega (arith, last_size line end, is_line.few)))
]

pub undo_keeps : (line new : Line) (live : List Bool) → IsLine line
    → length live ≡ length line.current.live → MovesByUndo line live new → IsLine new
undo_keeps line new live is_line same u = let back : Line = u.0 in
    let is_back : IsLine back = line_back back line u.1 is_line in elim u.2 [
      | inl there ↦ subst IsLine (sym there.1) is_back
      | inr other ↦ elim other [
        | inl here ↦ subst IsLine (sym here.2) is_line
        | inr between ↦
            let next_bound : length line.current.live ≡ length back.current.live =
            (states_first (length back.current.live) line.current line.after
            (states_back (length back.current.live) line.before line.current line.after
            (subst (AreStates (length back.current.live)) (sym (next_states back line u.1))
            is_back.held))).0 in
            subst IsLine (sym between.2)
            (split_keeps back line (with_live line live) u.1 is_back (same ∙ next_bound)
            (current_table line is_line) (λ e. between.0 (ap (λ s. s.live) e))
            (λ e. between.1 (ap (λ s. s.live) e)))
      ]
    ]

pub redo_keeps : (line new : Line) (live : List Bool) → IsLine line
    → length live ≡ length line.current.live → MovesByRedo line live new → IsLine new
redo_keeps line new live is_line same r = let on : Line = r.0 in elim r.2 [
  | inl there ↦ subst IsLine (sym there.1) (line_next line on r.1 is_line)
  | inr other ↦ elim other [
    | inl here ↦ subst IsLine (sym here.2) is_line
    | inr between ↦
        subst IsLine (sym between.2)
        (split_keeps line on (with_live line live) r.1 is_line same (current_table line is_line)
        (λ e. between.1 (ap (λ s. s.live) e)) (λ e. between.0 (ap (λ s. s.live) e)))
  ]
]

-- the states with one more, by the place of the next one
split_at : (line next : Line) (end : State) → IsNext line next
    → states (put_between line end next) ≡ take (cursor next) (states next) ++ end
    ∷ drop (cursor next) (states next)
split_at line next end h =
    let front : take (cursor next) (states next) ≡ next.before =
    take_front next.before (next.current ∷ next.after) in
    let rest : drop (cursor next) (states next) ≡ line.after =
    drop_front next.before (next.current ∷ next.after) ∙ sym h.reached in
    ap (λ before. before ++ end ∷ line.after) (sym front)
    ∙ ap (λ after. take (cursor next) (states next) ++ end ∷ after) (sym rest)

pub undo_by_place : (line new : Line) (live : List Bool) → MovesByUndo line live new →
    ((states new ≡ states line) × (cursor line ≡ suc (cursor new)))
    ⊎ (new ≡ line)
    ⊎ ((full : Line)
    × (states full ≡ take (cursor line) (states line) ++ new.current ∷ drop (cursor line)
    (states line)) × (cursor full ≡ cursor line) × (full.bound ≡ line.bound)
    × (new ≡ within_bound full))
undo_by_place line new live u = let back : Line = u.0 in elim u.2 [
  | inl there ↦
      inl (
        ap states there.1 ∙ sym (next_states back line u.1),
        next_cursor back line u.1 ∙ ap (λ l. suc (cursor l)) (sym there.1),
      )
  | inr other ↦ elim other [
    | inl here ↦ inr (inl here.2)
    | inr between ↦
        let full : Line = put_between back (with_live line live) line in
        let current : new.current ≡ with_live line live =
        ap (λ l. l.current) between.2 ∙ fitted_current full in
        inr (inr (
          full,
          split_at back line (with_live line live) u.1
              ∙ ap (λ end. take (cursor line) (states line) ++ end ∷ drop (cursor line)
              (states line)) (sym current),
          refl,
          sym u.1.bound,
          between.2,
        ))
  ]
]

pub redo_by_place : (line new : Line) (live : List Bool) → MovesByRedo line live new →
    ((states new ≡ states line) × (cursor new ≡ suc (cursor line)))
    ⊎ (new ≡ line)
    ⊎ ((full : Line)
    × (states full ≡ take (suc (cursor line)) (states line) ++ new.current
    ∷ drop (suc (cursor line)) (states line)) × (cursor full ≡ suc (cursor line))
    × (full.bound ≡ line.bound) × (new ≡ within_bound full))
redo_by_place line new live r = let on : Line = r.0 in elim r.2 [
  | inl there ↦
      inl (ap states there.1 ∙ next_states line on r.1, ap cursor there.1 ∙ next_cursor line on r.1)
  | inr other ↦ elim other [
    | inl here ↦ inr (inl here.2)
    | inr between ↦
        let full : Line = put_between line (with_live line live) on in
        let current : new.current ≡ with_live line live =
        ap (λ l. l.current) between.2 ∙ fitted_current full in
        inr (inr (
          full,
          split_at line on (with_live line live) r.1
              ∙ ap (λ all. take (cursor on) all ++ with_live line live ∷ drop (cursor on) all)
              (next_states line on r.1)
              ∙ ap (λ k. take k (states line) ++ with_live line live ∷ drop k (states line))
              (next_cursor line on r.1)
              ∙ ap (λ end. take (suc (cursor line)) (states line) ++ end ∷ drop (suc (cursor line))
              (states line)) (sym current),
          next_cursor line on r.1,
          refl,
          between.2,
        ))
  ]
]

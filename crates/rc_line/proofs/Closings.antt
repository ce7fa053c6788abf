-- Each way to end a change or an edit: what the stacks show then is the move, and they fit.
use Rattle.std.proofs.Common.{ℕ, ◌≡◌, ◌≢◌, ◌∙◌, ◌+◌, ◌≤◌, List, [], ◌∷◌, ◌++◌, reverse, Bool, true}
use Rattle.std.proofs.Common.{false, length, length-append, inl, inr, refl, ap, subst, sym}
use Rattle.std.proofs.Common.{arith}
use Rattle.rc_model.specs.Database.{Bundles, IsTable}
use Rattle.rc_model.specs.Line.{Alteration, IsEdit, State, Entry, IsGained, Line, IsBound, IsNext}
use Rattle.rc_model.specs.Line.{states, cursor, but_last, shorter, within_bound, MovesTo}
use Rattle.rc_model.specs.Line.{MovesByChange, MovesByEdit, put_last, with_live, with_table, Lists}
use Rattle.rc_model.proofs.Fitting.{fitted_short, fitted_long, shorter_first, shorter_last}
use Rattle.rc_model.proofs.Fitting.{but_last_push}
use Rattle.rc_line.specs.declared.aim.Aim.{Aim}
use Rattle.rc_line.specs.declared.aim.Aim.TheVariants.{Change}
use Rattle.rc_line.specs.Opening.{Opening, table_or, target_of, AimsAt}
use Rattle.rc_line.specs.Keeping.{IsStep, Behind, Ahead, line_of, Fits, IsFit, IsKept}
use Rattle.rc_line.specs.Keeping.{state, near_room}
use Rattle.rc_model.proofs.Lines.{length_push, cons_head, one_cut}
use Rattle.rc_line.proofs.Rewriting.{no_edit, leads_ahead}
use Rattle.rc_line.proofs.Writing.{leads_nowhere}
use Rattle.rc_line.proofs.Steps.{live_step, edit_step}
use Rattle.rc_line.proofs.Stacks.{size_is, cursor_is, after_is, before_is}
use Rattle.rc_line.proofs.Stacks.{behind_push, behind_short}
use Rattle.rc_line.proofs.Stacks.{ahead_short, before_short, after_short}

-- stacks that fit, and hold no more than there may be
abbrev pub IsHeld : ℕ → List Entry → List Entry → State → Type 0
IsHeld most done undone s = Fits done undone s × (length done + length undone + 1 ≤ most)

-- what a test that failed denies
pub apart_by : {A : Type 0} (a b : A) → (a ≡ b → false ≡ true) → a ≢ b
apart_by a b denied same = let bad : false ≡ true = denied same in cc

-- a line that is not open needs no room
pub kept_closed : (most : ℕ) → (done undone : List Entry) (s : State) (done_most undone_most : ℕ)
    → IsBound most → IsHeld most done undone s
    → IsKept most done undone s false done_most undone_most
kept_closed most done undone s done_most undone_most bound held = record {
  fits = held.0;
  bound = bound;
  few = held.1;
  done_room = λ e. (let bad : false ≡ true = e in cc);
  undone_room = λ e. (let bad : false ≡ true = e in cc);
}

pub same_line : (a b : Line) → a.before ≡ b.before → a.current ≡ b.current → a.after ≡ b.after
    → a.bound ≡ b.bound → a ≡ b
same_line a b before current after bound =
    λ k. record { before = before k; current = current k; after = after k; bound = bound k }

-- stacks that are fit show what the line is within its bound
pub fit_shown : (most : ℕ) (done undone new_done new_undone : List Entry) (s : State) → 3 ≤ most
    → length done + length undone ≤ most → Fits done undone s
    → IsFit most done undone new_done new_undone
    → Fits new_done new_undone s
    × (line_of most new_done new_undone s ≡ within_bound (line_of most done undone s))
    × (length new_done + length new_undone + 1 ≤ most)
fit_shown most done undone new_done new_undone s three few fits fit = elim fit [
  | inl all ↦ (
    subst (λ (ds : List Entry). Fits ds new_undone s) (sym all.1)
        (subst (λ (us : List Entry). Fits done us s) (sym all.2) fits),
    ap (λ (ds : List Entry). line_of most ds new_undone s) all.1
        ∙ ap (λ (us : List Entry). line_of most done us s) all.2
        ∙ sym (fitted_short (line_of most done undone s)
        (omega (arith, size_is most done undone s, all.0))),
    omega (arith, all.0, ap length all.1, ap length all.2),
  )
  | inr less ↦ elim less [
    | inl first ↦
        let gone : Entry = first.3.0 in
        let is : done ≡ gone ∷ new_done = first.3.1 in
        let full : Line = line_of most done undone s in
        let apart = before_short most gone new_done undone s in
        let front : full.before ≡ apart.0 ∷ (line_of most new_done undone s).before =
        ap (λ (ds : List Entry). (line_of most ds undone s).before) is ∙ apart.1 in
        let some : 1 ≤ length (line_of most new_done undone s).before =
        omega (arith, cursor_is most new_done undone s, ap length is, first.1) in (
          record {
            behind =
                behind_short gone new_done s
                (subst (λ (ds : List Entry). Behind (reverse ds) s) is fits.behind);
            ahead = subst (λ (us : List Entry). Ahead (reverse us) s) (sym first.2) fits.ahead;
            table = fits.table;
          },
          ap (λ (us : List Entry). line_of most new_done us s) first.2
              ∙ sym (fitted_long full (omega (arith, size_is most done undone s, first.0))
              ∙ ap (λ (b : List State). shorter b full) front
              ∙ shorter_first full apart.0 (line_of most new_done undone s).before some),
          omega (arith, few, ap length is, ap length first.2),
        )
    | inr last ↦
        let gone : Entry = last.3.0 in
        let is : undone ≡ gone ∷ new_undone = last.3.1 in
        let full : Line = line_of most done undone s in
        let apart = after_short most gone done new_undone s in
        let rest : full.after ≡ (line_of most done new_undone s).after ++ apart.0 ∷ [] =
        ap (λ (us : List Entry). (line_of most done us s).after) is ∙ apart.1 in (
          record {
            behind = subst (λ (ds : List Entry). Behind (reverse ds) s) (sym last.2) fits.behind;
            ahead =
                ahead_short gone new_undone s
                (subst (λ (us : List Entry). Ahead (reverse us) s) is fits.ahead);
            table = fits.table;
          },
          ap (λ (ds : List Entry). line_of most ds new_undone s) last.2
              ∙ sym (fitted_long full (omega (arith, size_is most done undone s, last.0))
              ∙ shorter_last full full.before (omega (arith, cursor_is most done undone s, last.1))
              ∙ ap (λ (l : List State). record full { after = l })
              (ap but_last rest ∙ but_last_push (line_of most done new_undone s).after apart.0)),
          omega (arith, few, ap length is, ap length last.2),
        )
  ]
]

-- the last of two equal lists
pub last_same : (xs ys : List State) (x y : State) → xs ++ x ∷ [] ≡ ys ++ y ∷ [] → x ≡ y
last_same xs ys x y same =
    let size : length (xs ++ x ∷ []) ≡ length (ys ++ y ∷ []) = ap length same in
    (one_cut xs ys x y [] [] (omega (arith, length_push xs x, length_push ys y)) same).1

-- the state before the current one, and the one after it, are determined
pub same_back : (line a b : Line) → IsNext a line → IsNext b line → a.current ≡ b.current
same_back line a b at_a at_b =
    last_same a.before b.before a.current b.current (sym at_a.left ∙ at_b.left)

pub same_on : (line a b : Line) → IsNext line a → IsNext line b → a.current ≡ b.current
same_on line a b at_a at_b =
    cons_head a.current b.current a.after b.after (sym at_a.reached ∙ at_b.reached)

-- a change has room for all services in the entry that leads to where it ends
pub change_room : (line : Line) (opening : Opening) → opening.aim ≡ Change
    → AimsAt opening.aim line (target_of opening line.current)
    → near_room opening.aim (length opening.live) ≡ length line.current.live
change_room line opening aim opened =
    ap (λ (a : Aim). near_room a (length opening.live)) aim
    ∙ (subst (λ (a : Aim). AimsAt a line (target_of opening line.current)) aim opened).0

-- a line that two stacks and a state show
module _ (most : ℕ) (done undone : List Entry) (s : State) (line : Line)
    (shown : line_of most done undone s ≡ line) where
  pub most_shown : most ≡ line.bound
  most_shown = ap (λ (l : Line). l.bound) shown

  pub current_shown : s ≡ line.current
  current_shown = ap (λ (l : Line). l.current) shown

  pub size_shown : length done + length undone + 1 ≡ length (states line)
  size_shown = sym (size_is most done undone s) ∙ ap (λ (l : Line). length (states l)) shown

  pub cursor_shown : length done ≡ cursor line
  cursor_shown = sym (cursor_is most done undone s) ∙ ap cursor shown

  pub after_shown : length undone ≡ length line.after
  after_shown = sym (after_is most done undone s) ∙ ap (λ (l : Line). length l.after) shown

  pub bound_shown : (live : List Bool) → length live ≡ length line.current.live
      → length live ≡ length s.live
  bound_shown live bound = bound ∙ ap (λ (t : State). length t.live) (sym current_shown)

  live_here : (live : List Bool) → state live s.table ≡ with_live line live
  live_here live = ap (λ (t : State). state live t.table) current_shown

  -- a change or edit that ends elsewhere
  ends_elsewhere : (near : Entry) (end : State) (new_done new_undone : List Entry)
      → IsBound most → IsHeld most done undone s → IsStep s end near
      → IsFit most (done ++ near ∷ []) [] new_done new_undone
      → IsHeld most new_done new_undone end
      × MovesTo line end (line_of most new_done new_undone end)
  ends_elsewhere near end new_done new_undone bound held step fit =
      let fits : Fits (done ++ near ∷ []) [] end = record {
        behind = behind_push done near s end held.0.behind step;
        ahead = tt;
        table =
            step.to_table;
      } in
      let fs = fit_shown most (done ++ near ∷ []) [] new_done new_undone end bound.0
      (omega (arith, held.1, length-append done (near ∷ []))) fits fit in (
        (fs.0, fs.2),
        inr (
          (λ same. step.differ (current_shown ∙ sym same)),
          fs.1 ∙ ap within_bound
              (same_line (line_of most (done ++ near ∷ []) [] end) (put_last line end)
              (before_is most done [] near s end step
              ∙ ap (λ (l : Line). l.before ++ l.current ∷ []) shown) refl refl most_shown),
        ),
      )

  -- one that ends in the current state
  pub ends_here : (end : State) → end ≡ line.current → MovesTo line end (line_of most done undone s)
  ends_here end same = inl (same, shown)

  pub change_elsewhere : (near : Entry) (live : List Bool) (new_done new_undone : List Entry)
      → IsBound most → IsHeld most done undone s → length live ≡ length s.live → s.live ≢ live
      → Lists (IsGained s.live live) near.raised → Lists (IsGained live s.live) near.lowered
      → near.edit ≡ [] → IsFit most (done ++ near ∷ []) [] new_done new_undone
      → IsHeld most new_done new_undone (state live s.table)
      × MovesByChange line live (line_of most new_done new_undone (state live s.table))
  change_elsewhere near live new_done new_undone bound held same differ raised lowered edit fit =
      let end : State = state live s.table in
      let step : IsStep s end near = live_step s end near same differ held.0.table held.0.table
      raised lowered (subst (IsEdit s.table s.table) (sym edit) (no_edit s.table)) in
      let ends = ends_elsewhere near end new_done new_undone bound held step fit in (
        ends.0,
        subst (λ (t : State). MovesTo line t (line_of most new_done new_undone end))
            (live_here live) ends.1,
      )

  pub change_here : (live : List Bool) → s.live ≡ live
      → MovesByChange line live (line_of most done undone s)
  change_here live same =
      ends_here (with_live line live)
      (ap (λ (v : List Bool). state v line.current.table)
      (sym same ∙ ap (λ (t : State). t.live) current_shown))

  -- the table that an edit aims at
  pub table_here : (opening : Opening)
      → table_or opening.table s.table ≡ (target_of opening line.current).table
  table_here opening = ap (λ (t : State). table_or opening.table t.table) current_shown

  -- an edit to another table
  pub edit_elsewhere : (e : Entry) (table : Bundles) (new_done new_undone : List Entry)
      → IsBound most → IsHeld most done undone s → IsTable table
      → IsEdit line.current.table table e.edit → e.edit ≢ [] → e.raised ≡ [] → e.lowered ≡ []
      → IsFit most (done ++ e ∷ []) [] new_done new_undone
      → IsHeld most new_done new_undone (state s.live table)
      × MovesByEdit line table (line_of most new_done new_undone (state s.live table))
  edit_elsewhere e table new_done new_undone bound held is_table edit some raised lowered fit =
      let here : IsEdit s.table table e.edit =
      subst (λ (t : State). IsEdit t.table table e.edit) (sym current_shown) edit in
      let step : IsStep s (state s.live table) e =
      edit_step s table e here some raised lowered held.0.table is_table in
      let ends = ends_elsewhere e (state s.live table) new_done new_undone bound held step fit in (
        ends.0,
        subst
            (λ (t : State). MovesTo line t (line_of most new_done new_undone (state s.live table)))
            (ap (λ (t : State). state t.live table) current_shown) ends.1,
      )

  pub edit_here : (edit : List Alteration) (table : Bundles) → Fits done undone s → IsTable table
      → IsEdit line.current.table table edit → length edit ≡ 0
      → MovesByEdit line table (line_of most done undone s)
  edit_here edit table fits is_table is empty =
      let here : IsTable line.current.table =
      subst (λ (t : State). IsTable t.table) current_shown fits.table in
      let same : line.current.table ≡ table = leads_nowhere true edit line.current.table table empty
      here (leads_ahead line.current.table table edit is is_table) in
      ends_here (with_table line table) (ap (λ (t : Bundles). state line.current.live t) (sym same))

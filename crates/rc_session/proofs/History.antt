-- Whatever is done to a line keeps its history: it loses no state but by its bound, or what could
-- be redone.
use Rattle.std.proofs.Common.{◌≡◌, ◌∙◌, ◌≤◌, ℕ, Bool, List, [], ◌∷◌, ◌++◌, ◌⊎◌, length}
use Rattle.std.proofs.Common.{length-append, inl, inr, refl, ap, sym, subst, arith}
use Rattle.rc_model.specs.declared.Event.{Event}
use Rattle.rc_model.specs.Database.{Database}
use Rattle.rc_model.specs.Line.{State, Line, IsNext, cursor, within_bound, MovesTo, MovesByUndo}
use Rattle.rc_model.specs.Line.{MovesByRedo, put_between, put_last, with_live, with_table}
use Rattle.rc_line.proofs.Closings.{same_line}
use Rattle.rc_model.proofs.Fitting.{Loses, Oldest, Last, fitted_cases, fitted_bound, fitted_current}
use Rattle.rc_model.specs.Session.{Command, Change, Undo, Redo, Add, Delete, Reported, DoesByRun}
use Rattle.rc_model.specs.Session.{DoesByEdit, IsLineOf}
use Rattle.rc_model.specs.Headline.{LosesOne, Keeps, IsUndo, IsRedo, KeepsHistory, HistoryIsKept}

-- a line that loses a state is the one that it was but for that, where one stands before the
-- current one
loses : (full new : Line) → 1 ≤ cursor full → Loses full new → LosesOne full new
loses full new some (Oldest gone second rest front made) = (
  gone,
  inl (
    ap (λ (b : List State). record full { before = b }) front
        ∙ sym (ap (λ (l : Line). record l { before = gone ∷ l.before }) made),
    omega (arith, ap cursor made),
  ),
)
loses full new some (Last gone on rest back made few) = (
  gone,
  inr (
    ap (λ (a : List State). record full { after = a }) back
        ∙ sym (ap (λ (l : Line). record l { after = l.after ++ gone ∷ [] }) made),
    omega (arith, ap cursor made, some, few),
  ),
)

-- and so does one that is fitted to its bound
fits : (all full new : Line) → 3 ≤ full.bound → 1 ≤ cursor full → full ≡ all
    → new ≡ within_bound full → Keeps all new
fits all full new three some is same =
    subst (λ (l : Line). Keeps l new) is
    (subst (Keeps full) (sym same) (elim (fitted_cases full three) [
      | inl whole ↦ inl whole
      | inr (many, lost) ↦
          inr (omega (arith, many, fitted_bound full), loses full (within_bound full) some lost)
    ]))

-- the bound stays
added_bound : (line new : Line) (end : State) → MovesTo line end new → new.bound ≡ line.bound
added_bound line new end ends = elim ends [
  | inl stays ↦ ap (λ (l : Line). l.bound) stays.1
  | inr adds ↦ ap (λ (l : Line). l.bound) adds.1 ∙ fitted_bound (put_last line end)
]

undone_bound : (line new : Line) (live : List Bool) → MovesByUndo line live new
    → new.bound ≡ line.bound
undone_bound line new live u = elim u.2 [
  | inl there ↦ ap (λ (l : Line). l.bound) there.1 ∙ sym u.1.bound
  | inr other ↦ elim other [
    | inl here ↦ ap (λ (l : Line). l.bound) here.2
    | inr between ↦
        ap (λ (l : Line). l.bound) between.2
        ∙ fitted_bound (put_between u.0 (with_live line live) line) ∙ sym u.1.bound
  ]
]

redone_bound : (line new : Line) (live : List Bool) → MovesByRedo line live new
    → new.bound ≡ line.bound
redone_bound line new live r = elim r.2 [
  | inl there ↦ ap (λ (l : Line). l.bound) there.1 ∙ r.1.bound
  | inr other ↦ elim other [
    | inl here ↦ ap (λ (l : Line). l.bound) here.2
    | inr between ↦
        ap (λ (l : Line). l.bound) between.2
        ∙ fitted_bound (put_between line (with_live line live) r.0)
  ]
]

-- what a line becomes by a command, where this is it with the new state
abbrev Leads : Line → Command → Line → Line → Type 0
Leads line command all new = (new ≡ line) ⊎ (IsUndo command × IsNext new line)
    ⊎ (IsRedo command × IsNext line new) ⊎ Keeps all new

-- a change or edit stays, or adds its end after the current state
added : (command : Command) (line new : Line) (end : State) → 3 ≤ line.bound → MovesTo line end new
    → Leads line command (put_last line new.current) new
added command line new end three ends = elim ends [
  | inl stays ↦ inl stays.1
  | inr adds ↦
      let full : Line = put_last line end in
      let current : new.current ≡ end = ap (λ l. l.current) adds.1 ∙ fitted_current full in
      inr
      (inr
      (inr (fits (put_last line new.current) full new three
      (omega (arith, length-append line.before (line.current ∷ [])))
      (ap (put_last line) (sym current)) adds.1)))
]

-- an undo goes back, stays, or puts its end in front of the current state
undone : (limit : ℕ) (events : List Event) (line new : Line) (live : List Bool) → 3 ≤ line.bound
    → MovesByUndo line live new →
    Leads line (Undo limit events)
    (record line { current = new.current; after = line.current ∷ line.after }) new
undone limit events line new live three u = elim u.2 [
  | inl there ↦ inr (inl (tt, subst (λ (l : Line). IsNext l line) (sym there.1) u.1))
  | inr other ↦ elim other [
    | inl here ↦ inl here.2
    | inr between ↦
        let full : Line = put_between u.0 (with_live line live) line in
        let all : Line = record line { current = new.current; after = line.current ∷ line.after } in
        let current : new.current ≡ with_live line live =
        ap (λ l. l.current) between.2 ∙ fitted_current full in
        inr
        (inr
        (inr (fits all full new (omega (arith, three, u.1.bound))
        (omega (arith, ap length u.1.left, length-append u.0.before (u.0.current ∷ [])))
        (same_line full all refl (sym current) u.1.reached (sym u.1.bound)) between.2)))
  ]
]

-- a redo goes on, stays, or puts its end after the current state
redone : (limit : ℕ) (events : List Event) (line new : Line) (live : List Bool) → 3 ≤ line.bound
    → MovesByRedo line live new →
    Leads line (Redo limit events)
    (record line { before = line.before ++ line.current ∷ []; current = new.current }) new
redone limit events line new live three r = elim r.2 [
  | inl there ↦ inr (inr (inl (tt, subst (IsNext line) (sym there.1) r.1)))
  | inr other ↦ elim other [
    | inl here ↦ inl here.2
    | inr between ↦
        let full : Line = put_between line (with_live line live) r.0 in
        let all : Line =
        record line { before = line.before ++ line.current ∷ []; current = new.current } in
        let current : new.current ≡ with_live line live =
        ap (λ l. l.current) between.2 ∙ fitted_current full in
        inr
        (inr
        (inr (fits all full new three
        (omega (arith, ap length r.1.left, length-append line.before (line.current ∷ [])))
        (same_line full all r.1.left (sym current) refl refl) between.2)))
  ]
]

module _ (d : Database) (line : Line) (of : IsLineOf d line) where
  run_keeps : (command : Command) (told : Reported) (new : Line) → DoesByRun d line command told new
      → KeepsHistory line command new
  run_keeps (Change ask events) told new run =
      record {
        bound = added_bound line new (with_live line run.live) run.moved;
        history =
            added (Change ask events) line new (with_live line run.live)
            of.is_line.bound.0 run.moved;
      }
  run_keeps (Undo limit events) told new run =
      record {
        bound = undone_bound line new run.live run.moved;
        history =
            undone limit events line new run.live of.is_line.bound.0 run.moved;
      }
  run_keeps (Redo limit events) told new run =
      record {
        bound = redone_bound line new run.live run.moved;
        history =
            redone limit events line new run.live of.is_line.bound.0 run.moved;
      }
  run_keeps (Add name contents force) told new run = absurd run.task
  run_keeps (Delete words force) told new run = absurd run.task

  edit_keeps : (command : Command) (told : Reported) (new : Line)
      → DoesByEdit d line command told new → KeepsHistory line command new
  edit_keeps (Add name contents force) told new edit =
      record {
        bound = added_bound line new (with_table line edit.table) edit.moved;
        history =
            added (Add name contents force) line new (with_table line edit.table)
            of.is_line.bound.0 edit.moved;
      }
  edit_keeps (Delete words force) told new edit =
      record {
        bound = added_bound line new (with_table line edit.table) edit.moved;
        history =
            added (Delete words force) line new (with_table line edit.table)
            of.is_line.bound.0 edit.moved;
      }
  edit_keeps (Change ask events) told new edit = absurd edit.altered
  edit_keeps (Undo limit events) told new edit = absurd edit.altered
  edit_keeps (Redo limit events) told new edit = absurd edit.altered

  -- whatever is done keeps history
  pub history_kept : HistoryIsKept d line
  history_kept command told new does = elim does [
    | inl run ↦ run_keeps command told new run
    | inr edit ↦ edit_keeps command told new edit
  ]

-- Each command is refused, or some events carry it out with nothing failing.
use Rattle.std.proofs.Common.{◌≡◌, ◌≢◌, ◌⊎◌, ℕ, suc, inl, inr, Bool, true, false, List, [], ◌∷◌}
use Rattle.std.proofs.Common.{length, slice_index_or, All, Contains, refl, ap, arith}
use Rattle.std.proofs.lemmas.Bool.{cases_lt}
use Rattle.rc_model.specs.Names.{IsName}
use Rattle.rc_model.proofs.ByteOrder.{same_or_other}
use Rattle.rc_model.specs.Database.{Bundles, names_of, IsTable, Database, IsDatabase, IsKnown}
use Rattle.rc_model.specs.Database.{IsBundle}
use Rattle.rc_model.specs.declared.Mode.{Mode}
use Rattle.rc_model.specs.declared.Mode.TheVariants.{Up, Down, DownAll}
use Rattle.rc_model.specs.Plan.{Ask, CanPlan}
use Rattle.rc_model.specs.Line.{MayBeDefined, CanAdd, CanDelete, State, Line, within_bound, MovesTo}
use Rattle.rc_model.specs.Line.{put_last, with_live, with_table}
use Rattle.rc_model.specs.declared.Event.{Event}
use Rattle.rc_model.specs.Run.{course_of}
use Rattle.rc_model.proofs.Walking.{current_table}
use Rattle.rc_model.specs.declared.Refusal.{Refusal}
use Rattle.rc_model.specs.declared.Refusal.TheVariants.{PruneNeedsUp, Unknown, IsAtomic, Exists}
use Rattle.rc_model.specs.declared.Refusal.TheVariants.{Missing, Full, NothingToUndo, NothingToRedo}
use Rattle.rc_model.specs.Session.{Command, Change, Undo, Redo, Add, Delete, edit_report}
use Rattle.rc_model.specs.Session.{deadline_of, IsLineOf, EditsTable, IsOwnFault}
use Rattle.rc_session.specs.Commands.{with_events}
use Rattle.rc_session.specs.Existence.{CanGoWell, EachIsAnswered}
use Rattle.rc_session.proofs.CarriedOut.{goes_through}
use Rattle.rc_session.proofs.Courses.{task_is_course}
use Rattle.rc_session.proofs.Deciding.{Decided, both, not, member_decided, list_decided}
use Rattle.rc_session.proofs.Deciding.{flag_decided}
use Rattle.rc_session.proofs.Planning.{first_or_none, known_or_first, plan_of, selected_set}
use Rattle.rc_session.proofs.States.{current_state}
use Rattle.rc_session.proofs.TablesExist.{define, remove}
use Rattle.rc_session.proofs.WaysBack.{ways_back, ways_on}

empty_or_not : {X : Type 0} (xs : List X) → (xs ≡ []) ⊎ (xs ≢ [])
empty_or_not [] = inl refl
empty_or_not (x ∷ xs) = inr (λ e. let bad : x ∷ xs ≡ [] = e in cc)

up_decided : (mode : Mode) → Decided (mode ≡ Up)
up_decided Up = inl refl
up_decided Down = inr (λ e. let bad : Down ≡ Up = e in cc)
up_decided DownAll = inr (λ e. let bad : DownAll ≡ Up = e in cc)

bundle_decided : (a b : List ℕ × List Bool) → Decided (a ≡ b)
bundle_decided a b =
    elim (both (a.0 ≡ b.0) (a.1 ≡ b.1) (same_or_other a.0 b.0)
    (list_decided a.1 b.1 flag_decided)) [
      | inl same ↦ inl (λ n. (same.0 n, same.1 n))
      | inr apart ↦
          inr (λ e. apart (
            ap (λ (x : List ℕ × List Bool). x.0) e,
            ap (λ (x : List ℕ × List Bool). x.1) e,
          ))
    ]

state_decided : (a b : State) → Decided (a ≡ b)
state_decided a b =
    elim (both (a.live ≡ b.live) (a.table ≡ b.table) (list_decided a.live b.live flag_decided)
    (list_decided a.table b.table bundle_decided)) [
      | inl same ↦ inl (λ n. record { live = same.0 n; table = same.1 n })
      | inr apart ↦ inr (λ e. apart (ap (λ (s : State). s.live) e, ap (λ (s : State). s.table) e))
    ]

-- a change or an edit leads somewhere, wherever it ends
ends_somewhere : (line : Line) (end : State) → (new : Line) × MovesTo line end new
ends_somewhere line end = elim (state_decided end line.current) [
  | inl same ↦ (line, inl (same, refl))
  | inr other ↦ (within_bound (put_last line end), inr (other, refl))
]

-- what an answer to a command is
abbrev IsMet : Database → Line → Command → Type 0
IsMet d line command = ((refusal : Refusal) × IsOwnFault d line command refusal)
    ⊎ ((new : Line) × CanGoWell d line command new)

module _ (d : Database) (line : Line) (is_db : IsDatabase d) (of : IsLineOf d line) where
  -- a change that can be planned goes well
  planned : (ask : Ask) (events : List Event) → CanPlan d.names line.current.table ask
      → IsMet d line (Change ask events)
  planned ask events can =
      let now = current_state d line of in
      let plan = plan_of d is_db line.current.table now.sets line.current.live now.bound ask in
      let deadline = deadline_of 0 ask.limit in
      let c = course_of d.needs plan.0 deadline in
      let through =
      goes_through c plan.0
      (task_is_course d line (Change ask events) 0 plan.0 deadline is_db of (can, plan.1, refl)) in
      let new = ends_somewhere line (with_live line through.live) in
      inr (
        new.0,
        (
          through.events,
          through.told,
          inl (record {
            plan = plan.0;
            deadline = deadline;
            live = through.live;
            task = (can, plan.1, refl);
            ends = through.ends;
            moved = new.1;
            is_report = through.is_report;
          }),
          (through.failed, through.stopped),
        ),
      )

  change : (ask : Ask) (events : List Event) → IsMet d line (Change ask events)
  change ask events =
      elim (both (ask.prune ≡ true) (ask.mode ≢ Up) (flag_decided ask.prune true)
      (not (ask.mode ≡ Up) (up_decided ask.mode))) [
        | inl wrong ↦ inl (PruneNeedsUp, wrong)
        | inr right ↦ elim (known_or_first d.names line.current.table ask.words) [
          | inr found ↦ inl (Unknown found.0, (right, found.1))
          | inl known ↦ planned ask events (record { prunes = right; known = known })
        ]
      ]

  undo : (limit : ℕ) (events : List Event) → IsMet d line (Undo limit events)
  undo limit events = elim (empty_or_not line.before) [
    | inl none ↦ inl (NothingToUndo, none)
    | inr some ↦ let way = ways_back d line is_db of limit some in inr (way.0, way.2)
  ]

  redo : (limit : ℕ) (events : List Event) → IsMet d line (Redo limit events)
  redo limit events = elim (empty_or_not line.after) [
    | inl none ↦ inl (NothingToRedo, none)
    | inr some ↦ let way = ways_on d line is_db of limit some in inr (way.0, way.2)
  ]

  -- an edit that may be made is made
  edited : (command : Command) (table : Bundles) → IsTable table
      → EditsTable d line.current.table (with_events command []) table → IsMet d line command
  edited command table is_table altered =
      let new = ends_somewhere line (with_table line table) in
      inr (
        new.0,
        (
          [],
          edit_report line.current.live,
          inr (record {
            table = table;
            is_table = is_table;
            altered = altered;
            moved = new.1;
            is_report = refl;
          }),
          (refl, refl),
        ),
      )

  defined : (name : List ℕ) (contents : List (List ℕ)) (force : Bool) → IsName name
      → CanAdd d.names line.current.table name contents force
      → IsMet d line (Add name contents force)
  defined name contents force good can =
      let now = current_state d line of in
      let set = selected_set d.names line.current.table now.sets contents in
      let table =
      define line.current.table name set.0 (current_table line of.is_line) good can.place in
      edited (Add name contents force) table.0 table.1
      (can, record { set = set.0; bound = set.1; services = set.2; change = table.2 })

  may_be_added : (name : List ℕ) (contents : List (List ℕ)) (force : Bool) → IsName name
      → MayBeDefined d.names line.current.table name force
      → All (IsKnown d.names line.current.table) contents → IsMet d line (Add name contents force)
  may_be_added name contents force good may known =
      elim (member_decided (names_of line.current.table) name same_or_other) [
        | inl there ↦
            defined name contents force good
            (record { name_may = may; known = known; place = λ full. there })
        | inr new ↦ elim (cases_lt (length line.current.table) 4096) [
          | inl room ↦
              defined name contents force good
              (record { name_may = may; known = known; place = λ full. absurd (omega arith) })
          | inr full ↦ inl (Full, (may, known, new, omega arith))
        ]
      ]

  add : (name : List ℕ) (contents : List (List ℕ)) (force : Bool) → IsName name
      → IsMet d line (Add name contents force)
  add name contents force good = elim (member_decided d.names name same_or_other) [
    | inl there ↦ inl (IsAtomic 0, (refl, there))
    | inr free ↦
        elim (both (force ≡ false) (IsBundle line.current.table name) (flag_decided force false)
        (member_decided (names_of line.current.table) name same_or_other)) [
          | inl exists ↦ inl (Exists, (free, exists.0, exists.1))
          | inr fresh ↦
              let may : MayBeDefined d.names line.current.table name force =
              record { no_service = free; fresh = λ unforced there. fresh (unforced, there) } in
              elim (known_or_first d.names line.current.table contents) [
                | inr found ↦ inl (Unknown (suc found.0), (may, (found.0, refl, found.1)))
                | inl known ↦ may_be_added name contents force good may known
              ]
        ]
  ]

  removed : (words : List (List ℕ)) (force : Bool)
      → CanDelete d.names line.current.table words force → IsMet d line (Delete words force)
  removed words force can =
      let table = remove line.current.table words (current_table line of.is_line) in
      edited (Delete words force) table.0 table.1 (can, table.2)

  delete : (words : List (List ℕ)) (force : Bool) → IsMet d line (Delete words force)
  delete words force =
      elim (first_or_none (Contains d.names) (λ word. member_decided d.names word same_or_other)
      words) [
        | inr found ↦ inl (IsAtomic found.0, found.1)
        | inl free ↦ elim (flag_decided force false) [
          | inr forced ↦
              removed words force
              (record { no_service = free; there = λ unforced. absurd (forced unforced) })
          | inl unforced ↦
              elim (first_or_none (λ word. IsBundle line.current.table word → ⊥)
              (λ word. not (IsBundle line.current.table word)
              (member_decided (names_of line.current.table) word same_or_other)) words) [
                | inr found ↦ inl (Missing found.0, (free, unforced, found.1))
                | inl none ↦ removed words force (record {
                  no_service = free;
                  there =
                      λ is k word within.
                      elim (member_decided (names_of line.current.table)
                      (slice_index_or words k word) same_or_other) [
                        | inl there ↦ there
                        | inr missing ↦ absurd (none k word within missing)
                      ];
                })
              ]
        ]
      ]

  pub each_answered : EachIsAnswered d line
  each_answered (Change ask events) has = change ask events
  each_answered (Undo limit events) has = undo limit events
  each_answered (Redo limit events) has = redo limit events
  each_answered (Add name contents force) has = add name contents force has
  each_answered (Delete words force) has = delete words force

-- A crash within the writes of an undo or a redo.
use Rattle.std.proofs.Common.{◌≡◌, ◌∙◌, ◌⊎◌, inl, inr, ℕ, zero, suc, Bool, true, false, List, []}
use Rattle.std.proofs.Common.{◌∷◌, ◌++◌, Ok, refl, sym, ap, subst}
use Rattle.rc_model.specs.declared.Event.{Event}
use Rattle.rc_model.specs.Database.{Database}
use Rattle.rc_model.specs.Line.{IsNext, Line}
use Rattle.rc_model.specs.Session.{Command, IsLineOf}
use Rattle.rc_session.proofs.Keeping.{answer_keeps}
use Rattle.rc_dbtext.specs.Spelling.{spelling as database_text}
use Rattle.rc_livetext.specs.Spelling.{spelling}
use Rattle.rc_history.specs.History.{Place, place_in}
use Rattle.rc_historytext.specs.declared.keeping.Keeping.{Keeping}
use Rattle.rc_historytext.specs.declared.keeping.Keeping.TheVariants.{Way}
use Rattle.rc_historytext.specs.Halting.{MayDo}
use Rattle.rc_historytext.specs.Keeping.{IsKept}
use Rattle.rc_historytext.specs.Present.{IsPresent}
use Rattle.rc_historytext.specs.Travelling.{CrossesOver, GoesOn, PassesTo, way_command}
use Rattle.rc_historytext.specs.Updates.{StandsOn}
use Rattle.rc_recovery.specs.Files.{AfterCrash, Files, Write}
use Rattle.rc_recovery.specs.Logging.{Logged}
use Rattle.rc_recovery.specs.Recoveries.{IsLineAfter}
use Rattle.rc_launch.specs.Keeping.{is_way, keeping_by, keeping_of}
use Rattle.rc_launch.specs.HistoryRecoveries.{EndsWithHistory}
use Rattle.rc_launch.specs.HistoryCrashes.{EndsInOneHistory, IsOfRun}
use Rattle.rc_launch.specs.UpdateCrashes.{IsTakenBack, StandsOnPlace, UndoRestores}
use Rattle.rc_launch.specs.WayCrashes.{LeavesStep, LeavesWay, WritesInside, WritesPasses, WritesRun}
use Rattle.rc_launch.specs.WayCrashes.{LineHasRoom, StopsBehind, WritesStep, WritesWay}
use Rattle.rc_launch.proofs.Writing.{after_all, after_both, at_rest, files, one_write}
use Rattle.rc_launch.proofs.Writing.{run_written, split}
use Rattle.rc_launch.proofs.HistoryEnds.{run_keeping}
use Rattle.rc_launch.proofs.HistoryCrashed.{CrashLaws, crashed}
use Rattle.rc_launch.proofs.UndoneOnce.{UndoLaws, redo_undone, undo_undone}

-- what was logged of an undo or a redo is entered as one
does_way : (on : Bool) (d : Database) (line end : Line) (limit : ℕ) (old events : List Event)
    → IsLineAfter d line (way_command on limit old) events end → MayDo d on line end
does_way on d line end limit old [] same = inl same
does_way true d line end limit old (first ∷ more) (report, inl (obeys, settled)) =
    inr (1, _, report, obeys.1)
does_way true d line end limit old (first ∷ more) (report, inr (unsettled, is, tried, obeys)) =
    inr (1, _, report, obeys.1)
does_way false d line end limit old (first ∷ more) (report, inl (obeys, settled)) =
    inr (1, _, report, obeys.1)
does_way false d line end limit old (first ∷ more) (report, inr (unsettled, is, tried, obeys)) =
    inr (1, _, report, obeys.1)

-- a line that an undo or a redo leaves is one of the database
way_of : (on : Bool) (d : Database) (line new : Line) → IsLineOf d line → MayDo d on line new
    → IsLineOf d new
way_of on d line new of (inl same) = subst (IsLineOf d) (sym same) of
way_of on d line new of (inr (limit, events, report, does)) =
    answer_keeps d line of (way_command on limit events) (Ok report) new does

-- what a crash of a run leaves: a line that it may leave is kept as the run keeps its own, or as
-- its log says
pub record RunLeaves (on : Bool) (keeping : Keeping) (marked : Bool) (d : Database) (line : Line)
    (bytes end : List ℕ) : Type 0 where
  pub new : Line
  pub left : MayDo d on line new
  pub kept : IsKept keeping bytes (spelling d new) end
      ⊎ IsKept (keeping_by marked true) bytes (spelling d new) end

-- the command is an undo or a redo
way_is : (on : Bool) (limit : ℕ) (old : List Event) → is_way (way_command on limit old) ≡ true
way_is true limit old = refl
way_is false limit old = refl

module _ (laws : CrashLaws) where
  -- a run inside the present generation
  module _ (on : Bool) (keeping : Keeping) (marked : Bool) (d : Database) (line new : Line)
      (bytes next : List ℕ) (writes : List Write) (stands : StandsOn bytes d line)
      (left : MayDo d on line new) (run : IsOfRun keeping)
      (kept_is : IsKept keeping bytes (spelling d new) next) (g : Files) (end : List ℕ)
      (crash : AfterCrash writes (files bytes []) g) (ends : EndsWithHistory g end) where
    whole : end ≡ next → RunLeaves on keeping marked d line bytes end
    whole same = record {
      new = new;
      left = left;
      kept = inl (subst (IsKept keeping bytes (spelling d new)) (sym same) kept_is);
    }

    found : (limit : ℕ) (old : List Event) (l : Logged) (events : List Event) (last : Line)
        → l.command ≡ way_command on limit old → l.marked ≡ marked
        → IsLineAfter d line l.command events last
        → IsKept (keeping_of l) bytes (spelling d last) end
        → RunLeaves on keeping marked d line bytes end
    found limit old l events last command mark after kept =
        let way : is_way l.command ≡ true = ap is_way command ∙ way_is on limit old in
        record {
          new = last;
          left = does_way on d line last limit old events
              (subst (λ (c : Command). IsLineAfter d line c events last) command after);
          kept =
              inr (subst (λ (k : Keeping). IsKept k bytes (spelling d last) end)
              (λ i. keeping_by (mark i) (way i)) kept);
        }

    pub run_ends : WritesRun marked on d line next writes
        → (end ≡ bytes) ⊎ RunLeaves on keeping marked d line bytes end
    run_ends (inr unlogged) =
        elim (one_write laws.ends bytes next end g
        (subst (λ (ws : List Write). AfterCrash ws (files bytes []) g) unlogged crash) ends) [
          | inl same ↦ inl same
          | inr same ↦ inr (whole same)
        ]
    run_ends (inl (l, limit, old, command, mark, logged, written)) =
        let all : EndsInOneHistory d line l next (files bytes []) g =
        crashed laws d line new keeping l next (files bytes []) g (record {
          stands = stands;
          logged = logged;
          new_of = way_of on d line new stands.is_line left;
          of_run = run;
          kept_is = kept_is;
          rest = laws.ends.empty d (spelling d line);
          crash =
              subst (λ (ws : List Write). AfterCrash ws (files bytes []) g) written crash;
        }) in
        elim (all.ends end ends) [
          | inl (same, file, log) ↦ inl same
          | inr (inr (same, file)) ↦ inr (whole same)
          | inr (inl (events, holds, file, (last, of, after, inl (stays, same)))) ↦ inl same
          | inr (inl (events, holds, file, (last, of, after, inr kept))) ↦
              inr (found limit old l events last command mark after kept)
        ]

  inside_ends : (on : Bool) (bytes next : List ℕ) (writes : List Write)
      → WritesInside on bytes next writes → (g : Files) (end : List ℕ)
      → AfterCrash writes (files bytes []) g → EndsWithHistory g end → LeavesStep on bytes end
  inside_ends on bytes next writes w g end crash ends =
      let e = w.ends in
      let there : IsPresent bytes (database_text e.base) (spelling e.base e.line) =
      subst (λ (s : List ℕ). IsPresent bytes (database_text e.base) s) w.spelled e.there in
      elim (run_ends on Way false e.base e.line e.new bytes next writes (record {
        there = there;
        is_database = e.is_database;
        writable = e.writable;
        is_line = e.is_line;
      }) e.left tt e.kept g end crash ends w.is) [
        | inl same ↦ inl (inl same)
        | inr r ↦ inl (inr (record {
          base = e.base;
          line = e.line;
          new = r.new;
          session = spelling e.base e.line;
          there = there;
          is_database = e.is_database;
          writable = e.writable;
          is_line = e.is_line;
          begins = inl refl;
          left = r.left;
          kept = elim r.kept [ inl own ↦ own | inr way ↦ way ];
        }))
      ]

  step_ends : (on : Bool) (bytes next : List ℕ) (writes : List Write)
      → WritesStep on bytes next writes → (g : Files) (end : List ℕ)
      → AfterCrash writes (files bytes []) g → EndsWithHistory g end → LeavesStep on bytes end
  step_ends on bytes next writes (inl w) g end crash ends =
      inside_ends on bytes next writes w g end crash ends
  step_ends on bytes next writes (inr (over, is)) g end crash ends =
      elim (one_write laws.ends bytes next end g
      (subst (λ (ws : List Write). AfterCrash ws (files bytes []) g) is crash) ends) [
        | inl same ↦ inl (inl same)
        | inr same ↦ inr (subst (CrossesOver on bytes) (sym same) over)
      ]

-- what a step writes leaves its history, and an empty log
step_written : (on : Bool) (bytes next : List ℕ) (writes : List Write)
    → WritesStep on bytes next writes → after_all writes (files bytes []) ≡ files next []
step_written on bytes next writes (inr (over, is)) =
    ap (λ (ws : List Write). after_all ws (files bytes [])) is
step_written on bytes next writes (inl w) = elim w.is [
  | inl (l, limit, events, command, mark, logged, is) ↦
      ap (λ (ws : List Write). after_all ws (files bytes [])) is
      ∙ run_written (spelling w.ends.base w.ends.line) l bytes next
  | inr is ↦ ap (λ (ws : List Write). after_all ws (files bytes [])) is
]

passes_written : (n : ℕ) (on : Bool) (bytes next : List ℕ) (writes : List Write)
    → WritesPasses n on bytes next writes
    → (after_all writes (files bytes []) ≡ files next []) × PassesTo n on bytes next
passes_written zero on bytes next writes (same, none) = (
  ap (λ (ws : List Write). after_all ws (files bytes [])) none
      ∙ ap (λ (x : List ℕ). files x []) (sym same),
  same,
)
passes_written (suc n) on bytes next writes
    (between, first, second, passes, step, steps, goes, is) =
    let before = passes_written n on bytes between first passes in (
      ap (λ (ws : List Write). after_all ws (files bytes [])) is
          ∙ after_both first second (files bytes [])
          ∙ ap (after_all second) before.0 ∙ step_written on between next second step,
      (between, before.1, steps, goes),
    )

module _ (laws : CrashLaws) (on : Bool) (bytes : List ℕ) (g : Files) (end : List ℕ)
    (ends : EndsWithHistory g end) where
  -- a crash comes within the whole steps, or within the one behind them
  both_end : (n : ℕ) (between next : List ℕ) (first second writes : List Write)
      → WritesPasses n on bytes between first → WritesStep on between next second
      → writes ≡ first ++ second
      → (AfterCrash first (files bytes []) g → LeavesWay on bytes end)
      → AfterCrash writes (files bytes []) g → LeavesWay on bytes end
  both_end n between next first second writes passes step is before crash =
      let done = passes_written n on bytes between first passes in
      elim (split first second (files bytes []) g
      (subst (λ (ws : List Write). AfterCrash ws (files bytes []) g) is crash)) [
        | inl early ↦ before early
        | inr late ↦ (
          n,
          between,
          done.1,
          step_ends laws on between next second step g end
              (subst (λ (f : Files). AfterCrash second f g) done.0 late) ends,
        )
      ]

  passes_end : (n : ℕ) (next : List ℕ) (writes : List Write)
      → WritesPasses n on bytes next writes → AfterCrash writes (files bytes []) g
      → LeavesWay on bytes end
  passes_end zero next writes (same, none) crash = (
    0,
    bytes,
    refl,
    inl (inl (at_rest laws.ends bytes end g
        (subst (λ (ws : List Write). AfterCrash ws (files bytes []) g) none crash) ends)),
  )
  passes_end (suc n) next writes (between, first, second, passes, step, steps, goes, is) crash =
      both_end n between next first second writes passes step is
      (passes_end n between first passes) crash

  pub way_end : (next : List ℕ) (writes : List Write) → WritesWay on bytes next writes
      → AfterCrash writes (files bytes []) g → LeavesWay on bytes end
  way_end next writes (n, between, first, second, passes, step, is) crash =
      both_end n between next first second writes passes step is
      (passes_end n between first passes) crash

-- what one undo restores after a crash of one run
pub record WayLaws : Type 0 where
  pub crash : CrashLaws
  pub undo : UndoLaws

module _ (laws : WayLaws) (d : Database) (line new : Line) (keeping : Keeping) (marked : Bool)
    (bytes kept : List ℕ) (writes : List Write) (stands : StandsOn bytes d line)
    (room : LineHasRoom line) (run : IsOfRun keeping)
    (kept_is : IsKept keeping bytes (spelling d new) kept) (g : Files) (end : List ℕ)
    (crash : AfterCrash writes (files bytes []) g) (ends : EndsWithHistory g end) where
  pub redo_taken : GoesOn false bytes false → MayDo d true line new
      → WritesRun marked true d line kept writes → IsTakenBack bytes (place_in d line.current) end
  redo_taken goes left w =
      elim (run_ends laws.crash true keeping marked d line new bytes kept writes stands left run
      kept_is g end crash ends w) [
        | inl same ↦ inl same
        | inr r ↦ elim r.kept [
          | inl own ↦ by r.new keeping run r.left own
          | inr said ↦
              by r.new (keeping_by marked true) (run_keeping marked true) r.left said
        ]
      ]
    where
      by : (last : Line) (own : Keeping) → IsOfRun own → MayDo d true line last
          → IsKept own bytes (spelling d last) end
          → IsTakenBack bytes (place_in d line.current) end
      by last own runs does is =
          redo_undone laws.undo d line last bytes end own stands.is_database stands.writable
          stands.is_line stands.there goes room does runs is

  pub undo_taken : (back : Line) → IsNext back line → StopsBehind bytes → MayDo d false line new
      → WritesRun marked false d line kept writes → StandsOnPlace end (place_in d back.current)
      ⊎ UndoRestores (place_in d back.current) end
  undo_taken back next behind left w =
      elim (run_ends laws.crash false keeping marked d line new bytes kept writes stands left run
      kept_is g end crash ends w) [
        | inl same ↦ by line Way tt (inl refl)
            (inl ((database_text d, stands.there), same))
        | inr r ↦ elim r.kept [
          | inl own ↦ by r.new keeping run r.left own
          | inr said ↦
              by r.new (keeping_by marked true) (run_keeping marked true) r.left said
        ]
      ]
    where
      by : (last : Line) (own : Keeping) → IsOfRun own → MayDo d false line last
          → IsKept own bytes (spelling d last) end
          → StandsOnPlace end (place_in d back.current)
          ⊎ UndoRestores (place_in d back.current) end
      by last own runs does is =
          undo_undone laws.undo d line back last bytes end own stands.is_database
          stands.writable stands.is_line next stands.there behind room does runs is

-- whole steps, and whole steps behind them
chain : (on : Bool) (bytes between next : List ℕ) (n m : ℕ) → PassesTo n on bytes between
    → PassesTo m on between next → (k : ℕ) × PassesTo k on bytes next
chain on bytes between next n zero first same =
    (n, subst (PassesTo n on bytes) (sym same) first)
chain on bytes between next n (suc m) first (last, passes, steps, goes) =
    let before = chain on bytes between last n m first passes in
    (suc before.0, (last, before.1, steps, goes))

-- an undo from where whole steps led comes to where one from their beginning does
pub leads_on : (place : Place) (bytes between : List ℕ) (n : ℕ) → UndoRestores place bytes
    → PassesTo n false bytes between → UndoRestores place between
leads_on place bytes between n restores first back (m, last, passes, step, goes) =
    let all = chain false bytes between last n m first passes in
    restores back (all.0, last, all.1, step, goes)

-- An end that is appended to the log of a command that was cut short.
use Rattle.std.proofs.Common.{◌≡◌, ◌≢◌, ◌∙◌, ◌⊎◌, ◌↔◌, inl, inr, ℕ, List, [], ◌∷◌, ◌++◌, Contains}
use Rattle.std.proofs.Common.{All, Bool, Option, Some, IfSome, map, true, false, slice_index_or}
use Rattle.std.proofs.Common.{arith, refl, ap, sym, subst, append_assoc}
use Rattle.std.specs.List.{AllZip, concat, fold, list_any}
use Rattle.std.proofs.lemmas.Bool.{cases_Bool, cond-false, cond-true}
use Rattle.std.proofs.lemmas.List.{append-nil}
use Rattle.std.proofs.lemmas.List.Elements.{All-nil, All-push, Contains-append_right}
use Rattle.std.proofs.lemmas.List.Elements.{Contains-push_cases, recursion_from_All}
use Rattle.rc_model.specs.declared.Event.{Event}
use Rattle.rc_model.specs.declared.Event.TheVariants.{Take, Done, Stop}
use Rattle.rc_model.specs.declared.Outcome.TheVariants as outcome
use Rattle.rc_model.specs.declared.Standing.{Standing}
use Rattle.rc_model.specs.declared.Standing.TheVariants.{Down, Up, Sinking}
use Rattle.rc_model.specs.Database.{Database}
use Rattle.rc_model.specs.Line.{Line}
use Rattle.rc_model.specs.Names.{Has}
use Rattle.rc_model.specs.Run.{Course, IsHeldBy, IsLegal, IsLive, IsRun, IsStopped, after_end}
use Rattle.rc_model.specs.Run.{after_take, course_of, standing_of}
use Rattle.rc_model.proofs.RunLemmas.{legal_within, run_push}
use Rattle.rc_model.proofs.StandingLemmas.{standing_done_here, standing_done_other}
use Rattle.rc_model.proofs.StandingLemmas.{standing_first_down, standing_first_up}
use Rattle.rc_core.proofs.Stories.{held_stands}
use Rattle.rc_model.specs.Session.{IsLineOf}
use Rattle.rc_livetext.specs.Spelling.{Spells, spelling}
use Rattle.rc_script.specs.RunLines.{IsEventLine}
use Rattle.rc_recovery.specs.RunLog.{EndsWhole}
use Rattle.rc_recovery.specs.Files.{AfterCrash, Append, Empty, Files, Replace, Write, after}
use Rattle.rc_recovery.specs.Logged.{AreLogged}
use Rattle.rc_recovery.specs.Logging.{BeginsRun, HoldEvents, IsLogged, Logged, log_of, writes_of}
use Rattle.rc_recovery.specs.Recoveries.{IsCrash}
use Rattle.rc_recovery.specs.Ends.{ends}
use Rattle.rc_recovery.specs.UnderWay.{AreUnderWay, IsMore, IsWayOf, MayLog, unended}
use Rattle.rc_recovery.specs.UnderWay.{with_taken}
use Rattle.rc_recovery.specs.declared.ways.UnderWay.{UnderWay}
use Rattle.rc_recovery.proofs.Bytes.{concat_more, whole_is_all}
use Rattle.rc_recovery.proofs.Cut.{front_begins}
use Rattle.rc_recovery.proofs.Ending.{any_false}
use Rattle.rc_recovery.proofs.Reading.{ends_line}
use Rattle.rc_recovery.proofs.Resting.{files}

push : (names : List (List ℕ)) (es : List Event) (ls : List (List ℕ)) (x : Event) (y : List ℕ)
    → AllZip (IsEventLine names) es ls → IsEventLine names x y
    → AllZip (IsEventLine names) (es ++ x ∷ []) (ls ++ y ∷ [])
push names [] [] x y so is = (is, tt)
push names [] (b ∷ ls) x y so is = absurd so
push names (a ∷ es) [] x y so is = absurd so
push names (a ∷ es) (b ∷ ls) x y so is = (so.0, push names es ls x y so.1 is)

-- lines are appended one after the other, and a crash comes within the last of them
through : (lines : List (List ℕ)) (text : List ℕ) (next : Write) (rest : List Write)
    (file log : List ℕ) (h : Files)
    → AfterCrash (Append text ∷ []) (files file (log ++ concat lines)) h
    → AfterCrash (map Append (lines ++ text ∷ []) ++ next ∷ rest) (files file log) h
through [] text next rest file log h crash =
    let here : AfterCrash (Append text ∷ []) (files file log) h =
    subst (λ (x : List ℕ). AfterCrash (Append text ∷ []) (files file x) h) (append-nil log) crash
    in
    elim here [
      | inl same ↦ inl same
      | inr (inl torn) ↦ inr (inl torn)
      | inr (inr whole) ↦ inr (inr (inl whole))
    ]
through (line ∷ lines) text next rest file log h crash =
    inr (inr (through lines text next rest file (log ++ line) h
    (subst (λ (x : List ℕ). AfterCrash (Append text ∷ []) (files file x) h)
    (sym (append_assoc log line (concat lines))) crash)))

-- a worker that holds a service was one of those that there are
ends_legal : (c : Course) (events : List Event) (w s : ℕ) → IsRun c events → IsHeldBy events w s
    → IsLegal c events (Done w s outcome.Ok)
ends_legal c events w s run held =
    let taken = legal_within c events (Take w s) run held.0 in (taken.2.0, held)

not_stopped : (events : List Event) (w s : ℕ) → (IsStopped events → ⊥)
    → IsStopped (events ++ Done w s outcome.Ok ∷ []) → ⊥
not_stopped events w s fresh (v, m, has) =
    elim (Contains-push_cases events (Done w s outcome.Ok) (Stop v m) has) [
      | inl before ↦ fresh (v, m, before)
      | inr now ↦ absurd (let bad : Done w s outcome.Ok ≡ Stop v m = now in cc)
    ]

module _ (d : Database) (line new : Line) (l : Logged) (events : List Event) (w s : ℕ)
    (text : List ℕ) (f g : Files) (c : IsCrash d line new l f g)
    (held : HoldEvents d line l events g) (ends : EndsWhole g.log) (holds : IsHeldBy events w s)
    (is : IsEventLine d.names (Done w s outcome.Ok) text) where
  abbrev the_events : List Event
  the_events = events ++ Done w s outcome.Ok ∷ []

  abbrev the_lines : List (List ℕ)
  the_lines = held.lines ++ text ∷ []

  abbrev one_more : Logged
  one_more = record {
    command = l.command;
    marked = l.marked;
    step = l.step;
    events = the_events;
    lines = the_lines;
    part = [];
  }

  abbrev the_log : List (List ℕ) → List ℕ
  the_log lines = log_of (spelling d line) l.step lines

  begins : BeginsRun d line l.command the_events
  begins =
      let (start, plan, deadline, task, run, fresh) =
      front_begins d line l.command l.events events held.left held.front c.logged.begins in (
        start,
        plan,
        deadline,
        task,
        run_push (course_of d.needs plan deadline) events (Done w s outcome.Ok) run
            (ends_legal (course_of d.needs plan deadline) events w s run holds),
        not_stopped events w s fresh,
      )

  are : AllZip (IsEventLine d.names) the_events the_lines
  are = push d.names events held.lines (Done w s outcome.Ok) text held.lines_are is

  is_logged : IsLogged d line one_more
  is_logged = record {
    database = c.logged.database;
    line_of = c.logged.line_of;
    begins = begins;
    step_is = c.logged.step_is;
    lines_are = are;
    torn = All-nil (λ byte. byte ≢ 10);
  }

  -- nothing of a further line stands behind those of the events
  none : held.part ≡ []
  none = whole_is_all (the_log held.lines) held.part g.log
      (sym (ap (λ (x : Files). x.log) held.files)) ends
      (recursion_from_All (λ byte. byte ≢ 10) held.part held.torn)

  there : g ≡ files (spelling d line) (the_log held.lines)
  there = held.files ∙ ap (λ (x : List ℕ). files (spelling d line) (the_log held.lines ++ x)) none
      ∙ ap (files (spelling d line)) (append-nil (the_log held.lines))

  from : g ≡ files f.file ((spelling d line ++ l.step) ++ concat held.lines)
  from = there
      ∙ ap (files (spelling d line)) (sym (append_assoc (spelling d line) l.step
      (concat held.lines)))
      ∙ ap (λ (x : List ℕ). files x ((spelling d line ++ l.step) ++ concat held.lines))
      (sym c.file)

  crashes : (h : Files) → AfterCrash (Append text ∷ []) g h
      → AfterCrash (writes_of (spelling d line) one_more (spelling d new)) f h
  crashes h crash = inr (inr (inr (inr (through held.lines text (Append [])
      (Replace (spelling d new) ∷ Empty ∷ []) f.file
      (spelling d line ++ l.step) h
      (subst (λ (x : Files). AfterCrash (Append text ∷ []) x h) from crash)))))

  more_log : the_log held.lines ++ text ≡ the_log the_lines
  more_log = append_assoc (spelling d line) (l.step ++ concat held.lines) text
      ∙ ap (λ (x : List ℕ). spelling d line ++ x) (append_assoc l.step (concat held.lines) text
      ∙ ap (λ (x : List ℕ). l.step ++ x) (sym (concat_more held.lines text)))

  there_is : after g (Append text) ≡ files (spelling d line) (the_log the_lines ++ [])
  there_is = ap (λ (x : Files). after x (Append text)) there
      ∙ ap (files (spelling d line)) (more_log ∙ sym (append-nil (the_log the_lines)))

  pub more : (next : Logged) × IsMore d line new l the_events text f g next
  more = (
    one_more,
    record {
      command = refl;
      logged = refl;
      cut = λ h crash. record {
        logged = is_logged;
        new_of = c.new_of;
        file = c.file;
        rest = c.rest;
        crash = crashes h crash;
      };
      holds = record {
        left = [];
        lines = the_lines;
        part = [];
        front = sym (append-nil the_events);
        lines_are = are;
        torn = All-nil (λ byte. byte ≢ 10);
        files = there_is;
      };
      whole = ends_line g.log text is.0 is.1;
    },
  )

ends_here : (c : Course) (events : List Event) (w s : ℕ) → IsRun c events → IsHeldBy events w s
    → standing_of c (events ++ Done w s outcome.Ok ∷ []) s
    ≡ after_end true (after_take (standing_of c [] s))
ends_here c events w s run held =
    standing_done_here c events w s outcome.Ok
    ∙ ap (after_end true) (held_stands c events w s run held)

down_not_live : (c : Course) (events : List Event) (s : ℕ) → standing_of c events s ≡ Down
    → IsLive c events s → ⊥
down_not_live c events s down (inl up) = let bad : Down ≡ Up = sym down ∙ up in cc
down_not_live c events s down (inr sinks) = let bad : Down ≡ Sinking = sym down ∙ sinks in cc

pub turned : (c : Course) (events : List Event) (w s : ℕ) → IsRun c events → IsHeldBy events w s
    → IsLive c (events ++ Done w s outcome.Ok ∷ []) s ↔ (Has c.up s → ⊥)
turned c events w s run held = (
  λ live has. down_not_live c (events ++ Done w s outcome.Ok ∷ []) s
      (ends_here c events w s run held
      ∙ ap (λ (x : Standing). after_end true (after_take x)) (standing_first_up c s has)) live,
  λ lacks. inl (ends_here c events w s run held
      ∙ ap (λ (x : Standing). after_end true (after_take x)) (standing_first_down c s lacks)),
)

pub others : (c : Course) (events : List Event) (w s t : ℕ) → s ≢ t
    → IsLive c (events ++ Done w s outcome.Ok ∷ []) t ↔ IsLive c events t
others c events w s t other =
    let same : standing_of c (events ++ Done w s outcome.Ok ∷ []) t ≡ standing_of c events t =
    standing_done_other c events w s t outcome.Ok other
    in (
      λ live. elim live [ inl up ↦ inl (sym same ∙ up) | inr sinks ↦ inr (sym same ∙ sinks) ],
      λ live. elim live [ inl up ↦ inl (same ∙ up) | inr sinks ↦ inr (same ∙ sinks) ],
    )

-- what is found of the transitions that events begin and do not end, event after event
ways : (live : List Bool) (logged left : List Event) (found : List UnderWay)
    → ((e : Event) → Contains left e → Contains logged e) → All (IsWayOf live logged) found
    → All (IsWayOf live logged) (fold (with_taken live logged) found left)
ways live logged [] found within all = all
ways live logged (Take w s ∷ left) found within all =
    let way : UnderWay =
    record { worker = w; service = s; was_up = slice_index_or live s false } in
    let more : List UnderWay = found ++ way ∷ [] in
    let ended : Bool = list_any (ends w s) logged in
    ways live logged left (with_taken live logged found (Take w s))
    (λ e has. within e (Contains-append_right (Take w s ∷ []) left e has))
    (elim (cases_Bool ended) [
      | inl there ↦
          subst (All (IsWayOf live logged)) (sym (cond-true ended found more there)) all
      | inr none ↦
          subst (All (IsWayOf live logged)) (sym (cond-false ended found more none))
          (All-push (IsWayOf live logged) found way all
          ((within (Take w s) (0, omega arith, refl), any_false w s logged none), refl))
    ])
ways live logged (Done w s o ∷ left) found within all =
    ways live logged left found
    (λ e has. within e (Contains-append_right (Done w s o ∷ []) left e has)) all
ways live logged (Stop w m ∷ left) found within all =
    ways live logged left found
    (λ e has. within e (Contains-append_right (Stop w m ∷ []) left e has)) all

pub unended_held : (live : List Bool) (logged : List Event)
    → All (IsWayOf live logged) (unended live logged)
unended_held live logged =
    ways live logged logged [] (λ e has. has) (All-nil (IsWayOf live logged))

-- what a crash leaves of the line of an event, by the bytes that are appended
pub may_log : {A : Type 0} (names : List (List ℕ)) (e : Event) (f h : Files) (text : A → List ℕ)
    (made : Option A) (line : A) (bytes : List ℕ) (before : Type 0) → made ≡ Some line
    → IfSome made (λ one. IsEventLine names e (text one)) → bytes ≡ text line
    → before ⊎ AfterCrash (Append bytes ∷ []) f h → before ⊎ MayLog names e f h
may_log names e f h text made line bytes before made_is is same (inl old) = inl old
may_log names e f h text made line bytes before made_is is same (inr crash) =
    inr (
      text line,
      subst (λ o. IfSome o (λ one. IsEventLine names e (text one))) made_is is,
      subst (λ (x : List ℕ). AfterCrash (Append x ∷ []) f h) same crash,
    )

-- what is under way by names and live services that are known by other names
pub under_way_of : (d : Database) (text log : List ℕ) (line : Line) (names : List (List ℕ))
    (live : List Bool) (found : List UnderWay) → EndsWhole log → IsLineOf d line
    → Spells d text line → names ≡ d.names → live ≡ line.current.live
    → ((events : List Event) × AreLogged names text log events × (found ≡ unended live events))
    → AreUnderWay d text log found
under_way_of d text log line names live found whole of spells named lives (events, logged, is) =
    inr (inr (
      line,
      events,
      whole,
      of,
      spells,
      subst (λ (ns : List (List ℕ)). AreLogged ns text log events) named logged,
      is ∙ ap (λ (l : List Bool). unended l events) lives,
    ))

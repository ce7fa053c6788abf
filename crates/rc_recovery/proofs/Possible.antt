-- A crash of a small machine: the undo of a change that lowered its one service.
use Rattle.std.proofs.Common.{◌≡◌, ◌≢◌, ◌∙◌, ◌<◌, ◌==◌, inl, inr, ℕ, zero, suc, Bool, true, false}
use Rattle.std.proofs.Common.{All, Contains, List, [], ◌∷◌, ◌++◌, Option, Some, None, codes}
use Rattle.std.proofs.Common.{if◌then◌else◌, length, slice_index, slice_index_or, refl, ap, sym}
use Rattle.std.proofs.Common.{subst, append_assoc, arith}
use Rattle.std.specs.List.{AllByRecursion}
use Rattle.std.specs.Option.{option_and_then}
use Rattle.std.specs.Str.{IsUtf8}
use Rattle.std.proofs.lemmas.Bool.{cases_Bool, cond-true, cond-false, eq-eqb, true≢false}
use Rattle.std.proofs.lemmas.List.{append-nil}
use Rattle.std.proofs.lemmas.List.Elements.{All-contains, All-from_recursion, All-nil}
use Rattle.std.proofs.lemmas.List.Elements.{Contains-push_cases}
use Rattle.std.proofs.lemmas.Str.{IsUtf8-from_ascii}
use Rattle.rc_model.specs.declared.Event.TheVariants.{Take, Stop}
use Rattle.rc_model.specs.declared.Kind.TheVariants.{Bundle, Oneshot}
use Rattle.rc_model.specs.Database.{Database, Feeds, HasLimits, IsDatabase, IsTable, Service}
use Rattle.rc_model.specs.Graph.{Needs, Reaches}
use Rattle.rc_model.specs.Line.{AreStates, Line, State}
use Rattle.rc_model.specs.Names.{Has, IsName, IsNameByte}
use Rattle.rc_model.specs.Plan.{IsPlanTo, PlanSets}
use Rattle.rc_model.specs.Run.{Course, IsLegal, IsRun, IsStopped, course_of}
use Rattle.rc_model.specs.Session.{IsLineOf, IsStateOf, Nothing, Undo}
use Rattle.rc_model.proofs.RunLemmas.{run_empty, run_push}
use Rattle.rc_core.proofs.Opening.{none_happened}
use Rattle.rc_livetext.specs.Spelling.{spelling}
use Rattle.rc_script.specs.RunLines.{IsEventLine, IsStepLine}
use Rattle.rc_script.specs.Says.{SaysWrong}
use Rattle.rc_recovery.specs.Files.{Files}
use Rattle.rc_recovery.specs.Logging.{BeginsRun, HoldEvents, IsLogged, Logged}
use Rattle.rc_recovery.specs.Recoveries.{IsCrash}
use Rattle.rc_recovery.proofs.Bytes.{whole}
use Rattle.rc_recovery.proofs.Known.{Scripts}
use Rattle.rc_recovery.proofs.Resting.{empty_rests, files}

abbrev the_service : Service
the_service = record {
  kind = Oneshot;
  essential = false;
  limit_up = 0;
  limit_down = 0;
  text_up = None;
  text_down = None;
  producer_for = None;
}

-- a machine with one service, `a`
abbrev pub one_service : Database
one_service = record {
  names = (97 ∷ []) ∷ [];
  services = the_service ∷ [];
  needs = [] ∷ [];
  table = [];
}

abbrev state_with : Bool → State
state_with up = record { live = up ∷ []; table = [] }

-- it was up, and is down
abbrev pub lowered : Line
lowered = record {
  before = state_with true ∷ [];
  current = state_with false;
  after = [];
  bound =
      3;
}

abbrev pub raised : Line
raised = record { before = []; current = state_with true; after = state_with false ∷ []; bound = 3 }

abbrev the_needs : List (List ℕ)
the_needs = [] ∷ []

abbrev none_of : List ℕ
none_of = []

no_needs : (s : ℕ) → slice_index_or the_needs s none_of ≡ none_of
no_needs zero = refl
no_needs (suc k) = refl

none_needed : (s t : ℕ) → Needs ([] ∷ []) s t → ⊥
none_needed s t need =
    let is : Contains [] t = subst (λ (l : List ℕ). Contains l t) (no_needs s) need in
    absurd (omega (arith, is.1))

acyclic : (s : ℕ) → Reaches ([] ∷ []) s s → ⊥
acyclic s ([], path) = none_needed s s path.0
acyclic s (x ∷ between, path) = none_needed s x path.0

low_at : (bytes : List ℕ) → AllByRecursion (λ byte. byte < 128) bytes → (i : ℕ)
    → slice_index bytes i < 128
low_at [] low i = omega arith
low_at (x ∷ xs) low zero = low.0
low_at (x ∷ xs) low (suc i) = low_at xs low.1 i

ascii : (bytes : List ℕ) → AllByRecursion (λ byte. byte < 128) bytes → IsUtf8 bytes
ascii bytes low = IsUtf8-from_ascii bytes (low_at bytes low)

name_a : IsName (97 ∷ [])
name_a = record {
  some = omega arith;
  short = omega arith;
  bytes = record {
    each = All-from_recursion IsNameByte (97 ∷ [])
        ((omega arith, λ e. absurd (omega (arith, e)), λ e. absurd (omega (arith, e))), tt);
    no_option = λ e. absurd (omega (arith, e));
    no_comment = λ e. absurd (omega (arith, e));
  };
  unreserved = λ is. absurd (true≢false (sym is));
  utf8 = ascii (97 ∷ []) (omega arith, tt);
}

no_bundles : IsTable []
no_bundles = record {
  order = λ i j x below within. absurd (omega (arith, within));
  each = All-nil IsName;
  few = omega arith;
}

feeds_none : (s t : ℕ) → Feeds one_service s t → ⊥
feeds_none zero t (service, at, feeds) =
    let none : None ≡ service.producer_for =
    ap (λ (o : Option Service). option_and_then (λ x. x.producer_for) o) at
    in
    let bad : None ≡ Some t = none ∙ feeds in cc
feeds_none (suc k) t (service, at, feeds) = let bad : None ≡ Some service = at in cc

is_database : IsDatabase one_service
is_database = record {
  names = record {
    order = λ i j x below within. absurd (omega (arith, below, within));
    each = All-from_recursion IsName ((97 ∷ []) ∷ []) (name_a, tt);
    few = omega arith;
  };
  needs = record {
    few = omega arith;
    ascending = λ s i j x below within.
        absurd (let none = no_needs s in omega (arith, within, ap length none));
    known = λ s t need. absurd (none_needed s t need);
  };
  acyclic = acyclic;
  table = no_bundles;
  limits = All-from_recursion HasLimits (the_service ∷ []) ((omega arith, omega arith), tt);
  fit = record {
    services = refl;
    graph = refl;
    bounds = All-nil (λ bundle. length bundle.1 ≡ 1);
    kinds = All-from_recursion (λ x. x.kind ≢ Bundle) (the_service ∷ [])
        ((λ e. let bad : Oneshot ≡ Bundle = e in cc), tt);
    fed = λ s t feeds. absurd (feeds_none s t feeds);
    apart = λ name service bundle. absurd (omega (arith, bundle.1));
  };
}

is_state : (up : Bool) → IsStateOf one_service (state_with up)
is_state up = record {
  bound = refl;
  closed = λ s t has need. absurd (none_needed s t need);
  sets = All-nil (λ bundle. length bundle.1 ≡ 1);
  apart = λ name service bundle. absurd (omega (arith, bundle.1));
}

are_states : AreStates 1 (state_with true ∷ state_with false ∷ [])
are_states = record {
  differ = (λ e. let bad : true ∷ [] ≡ false ∷ [] = ap (λ (x : State). x.live) e in cc, tt);
  bounds = All-from_recursion (λ x. length x.live ≡ 1) (state_with true ∷ state_with false ∷ [])
      (refl, (refl, tt));
  tables = All-from_recursion (λ x. IsTable x.table) (state_with true ∷ state_with false ∷ [])
      (no_bundles, (no_bundles, tt));
}

each_state : All (IsStateOf one_service) (state_with true ∷ state_with false ∷ [])
each_state = All-from_recursion (IsStateOf one_service) (state_with true ∷ state_with false ∷ [])
    (is_state true, (is_state false, tt))

lowered_of : IsLineOf one_service lowered
lowered_of = record {
  is_line = record { held = are_states; bound = (omega arith, omega arith); few = omega arith };
  each = each_state;
}

raised_of : IsLineOf one_service raised
raised_of = record {
  is_line = record { held = are_states; bound = (omega arith, omega arith); few = omega arith };
  each = each_state;
}

none_has : (s : ℕ) → Has (false ∷ []) s → ⊥
none_has zero is = true≢false (sym is)
none_has (suc k) is = true≢false (sym is)

abbrev the_plan : PlanSets
the_plan = record {
  opening = false ∷ [];
  lower = false ∷ [];
  raise = true ∷ [];
  kept = false ∷ [];
}

leads : IsPlanTo (false ∷ []) (Has (true ∷ [])) Nothing the_plan
leads = record {
  opening = refl;
  lower = λ s. (λ h. absurd (none_has s h), λ h. absurd (none_has s h.0));
  raise = λ s. (λ h. (h, none_has s), λ h. h.0);
  kept = λ s. (λ h. absurd (none_has s h), λ h. absurd h);
  lower_bound = refl;
  raise_bound = refl;
  kept_bound = refl;
}

abbrev the_course : Course
the_course = course_of one_service.needs the_plan None

takes : IsLegal the_course [] (Take 1 0)
takes = (
  (omega arith, omega arith),
  λ stopped. none_happened (Stop stopped.0 stopped.1) stopped.2,
  λ s held. none_happened (Take 1 s) held.0,
  inr (record {
    planned = refl;
    down = refl;
    fresh = λ taken. none_happened (Take taken.0 0) taken.1;
    needs_up = λ t need. absurd (none_needed 0 t need);
  }),
)

one_take : IsRun the_course (Take 1 0 ∷ [])
one_take = run_push the_course [] (Take 1 0) (run_empty the_course) takes

unstopped : IsStopped (Take 1 0 ∷ []) → ⊥
unstopped (w, m, at) = elim (Contains-push_cases [] (Take 1 0) (Stop w m) at) [
  | inl none ↦ none_happened (Stop w m) none
  | inr same ↦ (let bad : Take 1 0 ≡ Stop w m = same in cc)
]

begins : BeginsRun one_service lowered (Undo 0 []) (Take 1 0 ∷ [])
begins = (
  0,
  the_plan,
  None,
  (
    raised,
    record { left = refl; reached = refl; bound = refl },
    record {
      leads = leads;
      untimed = λ same. refl;
      timed = λ differ. refl;
    },
  ),
  one_take,
  unstopped,
)

abbrev the_step : List ℕ
the_step = codes "-t 1 undo" ++ 10 ∷ []

abbrev the_take : List ℕ
the_take = codes "take 1 a" ++ 10 ∷ []

step_is : IsStepLine (Undo 0 []) the_step
step_is = (
  codes "-t 1 undo",
  (refl, whole (codes "-t 1 undo") refl),
  inr (inl (
    refl,
    record {
      text = All-from_recursion IsUtf8 (codes "-t" ∷ codes "1" ∷ codes "undo" ∷ []) (
        ascii (codes "-t") (omega arith, (omega arith, tt)),
        (
          ascii (codes "1") (omega arith, tt),
          (
            ascii (codes "undo")
                (omega arith, (omega arith, (omega arith, (omega arith, tt)))),
            tt,
          ),
        ),
      );
      name = tt;
    },
    refl,
  )),
)

words_are : All IsUtf8 (codes "take" ∷ codes "1" ∷ codes "a" ∷ [])
words_are = All-from_recursion IsUtf8 (codes "take" ∷ codes "1" ∷ codes "a" ∷ []) (
  ascii (codes "take")
      (omega arith, (omega arith, (omega arith, (omega arith, tt)))),
  (ascii (codes "1") (omega arith, tt), (ascii (codes "a") (omega arith, tt), tt)),
)

take_is : IsEventLine one_service.names (Take 1 0) the_take
take_is = (
  codes "take 1 a",
  (refl, whole (codes "take 1 a") refl),
  (
    SaysWrong,
    inr (inl (refl, record { text = words_are; name = tt }, refl)),
    inl (words_are, refl),
  ),
)

abbrev pub the_command : Logged
the_command = record {
  command = Undo 0 [];
  marked = false;
  step = the_step;
  events = Take 1 0 ∷ [];
  lines = the_take ∷ [];
  part = [];
}

logged : IsLogged one_service lowered the_command
logged = record {
  database = is_database;
  line_of = lowered_of;
  begins = begins;
  step_is = (the_step, step_is, sym (append-nil the_step));
  lines_are = (take_is, tt);
  torn = All-nil (λ byte. byte ≢ 10);
}

abbrev pub the_text : List ℕ
the_text = spelling one_service lowered

-- the crash comes when the take is logged
abbrev pub the_files : Files
the_files = files the_text ((the_text ++ the_step) ++ the_take)

pub possible : Scripts
    → IsCrash one_service lowered raised the_command (files the_text []) the_files
possible scripts = record {
  logged = logged;
  new_of = raised_of;
  file = refl;
  rest = empty_rests scripts one_service the_text;
  crash = inr (inr (inr (inr (inr (inr (inl refl))))));
}

pub held : HoldEvents one_service lowered the_command (Take 1 0 ∷ []) the_files
held = record {
  left = [];
  lines = the_take ∷ [];
  part = [];
  front = refl;
  lines_are = (take_is, tt);
  torn = All-nil (λ byte. byte ≢ 10);
  files = ap (files the_text) (append_assoc the_text the_step the_take
      ∙ sym (append-nil (the_text ++ (the_step ++ the_take))));
}

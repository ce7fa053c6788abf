-- Where certain transitions fail, an input has one text, and leads to one line of states.
use Rattle.std.proofs.Common.{◌≡◌, ◌≢◌, ◌∙◌, ◌↔◌, ◌⊎◌, inl, inr, ℕ, zero, suc, Bool, List, [], ◌∷◌}
use Rattle.std.proofs.Common.{◌++◌, Option, Ok, Err, All, Contains, codes, drop, length}
use Rattle.std.proofs.Common.{slice_index_or, refl, ap, sym, subst, arith, append_assoc}
use Rattle.std.specs.List.{flat_map}
use Rattle.std.specs.Fmt.{decimal}
use Rattle.rc_model.specs.Names.{Has}
use Rattle.rc_graph.specs.declared.Way.{Way}
use Rattle.rc_model.proofs.ByteOrder.{same_names}
use Rattle.rc_model.specs.Database.{Bundles, value_of, Database}
use Rattle.rc_model.specs.Line.{Alteration, IsAlteration, IsEdit, names_altered, State, IsGained}
use Rattle.rc_model.specs.Line.{Line, states, Lists}
use Rattle.rc_model.specs.Plan.{Ask, PlanSets}
use Rattle.rc_model.specs.Run.{course_of}
use Rattle.rc_core.specs.End.{EndOf}
use Rattle.rc_core.specs.Failing.{WouldFail, IsTriedInVain, IsBlocked}
use Rattle.rc_model.proofs.Members.{contains_first, contains_later, contains_cases, none_contained}
use Rattle.rc_model.specs.Session.{Command, Change, Undo, Redo, Add, Delete, MovesBy, deadline_of}
use Rattle.rc_model.proofs.Turning.{named_in}
use Rattle.rc_session.proofs.Determined.{one_answer, one_move}
use Rattle.rc_session.proofs.Excluding.{can_not_own, done_not_refused, one_set, one_task}
use Rattle.rc_session.proofs.Excluding.{task_not_own}
use Rattle.rc_session.proofs.Lists.{one_list}
use Rattle.rc_render.specs.Lines.{line, names_at, names_line, IsLineOf}
use Rattle.rc_render.specs.PlanText.{IsPlanText}
use Rattle.rc_render.specs.Names.{ok_line}
use Rattle.rc_render.specs.AnswerText.{answer_text}
use Rattle.rc_render.specs.ReportText.{report_text}
use Rattle.rc_render.specs.JournalText.{AreEntryLines, IsEntryLine, alteration_text, place_line}
use Rattle.rc_render.specs.JournalText.{signs}
use Rattle.rc_script.specs.Says.{Saying, SaysNothing, SaysWrong, SaysStep, SaysDry, SaysLive}
use Rattle.rc_script.specs.Says.{SaysBundles, SaysJournal, Says}
use Rattle.rc_streams.specs.Taking.{IsLine, IsOneLine}
use Rattle.rc_serve.specs.Meeting.{IsEdited, IsJournal, IsPlanned, IsRefused, Meets, MeetsCommand}
use Rattle.rc_serve.specs.Meeting.{MeetsDry}
use Rattle.rc_serve.specs.Serving.{AreLines, MeetsBytes, Serves}
use Rattle.rc_serve.specs.SessionText.{EndsFailing, IsDoneFailing, SessionText, listing}

-- a line says one thing
abbrev SaysOnce : Type 0
SaysOnce = (bytes : List ℕ) (a b : Saying) → Says bytes a → Says bytes b → a ≡ b

-- edits between two tables are one
in_named : (xs : List Alteration) (a : Alteration) → Contains xs a
    → Contains (names_altered xs) a.name
in_named [] a there = absurd (none_contained a there)
in_named (x ∷ xs) a there = elim (contains_cases x xs a there) [
  | inl same ↦
      subst (λ (n : List ℕ). Contains (x.name ∷ names_altered xs) n)
      (ap (λ (b : Alteration). b.name) same) (contains_first x.name (names_altered xs))
  | inr later ↦ contains_later x.name (names_altered xs) a.name (in_named xs a later)
]

names_alter : (old new : Bundles) (edit : List Alteration) → IsEdit old new edit → (name : List ℕ)
    → Contains (names_altered edit) name ↔ (value_of old name ≢ value_of new name)
names_alter old new edit is name = (
  λ there same.
      let found = named_in edit name there in
      let alters = (is.same found.0).0 found.1 in
      alters.differs
      (sym alters.before ∙ subst (λ (n : List ℕ). value_of old n ≡ value_of new n) (sym found.2)
      same ∙ alters.after),
  λ differs. in_named edit
      (record { name = name; before = value_of old name; after = value_of new name })
      ((is.same (record { name = name; before = value_of old name; after = value_of new name })).1
      (record { before = refl; after = refl; differs = differs })),
)

same_alteration : (old new : Bundles) (x y : Alteration) → x.name ≡ y.name → IsAlteration old new x
    → IsAlteration old new y → x ≡ y
same_alteration old new x y name p q =
    ap (λ (n : List ℕ). record x { name = n }) name
    ∙ ap (λ (b : Option (List Bool)). record x { name = y.name; before = b })
    (sym p.before ∙ ap (value_of old) name ∙ q.before)
    ∙ ap (λ (a : Option (List Bool)). record y { after = a })
    (sym p.after ∙ ap (value_of new) name ∙ q.after)

same_alterations : (old new : Bundles) (xs ys : List Alteration)
    → names_altered xs ≡ names_altered ys
    → ((a : Alteration) → Contains xs a → IsAlteration old new a)
    → ((a : Alteration) → Contains ys a → IsAlteration old new a) → xs ≡ ys
same_alterations old new [] [] names p q = refl
same_alterations old new [] (y ∷ ys) names p q =
    let bad : [] ≡ y.name ∷ names_altered ys = names in cc
same_alterations old new (x ∷ xs) [] names p q =
    let bad : x.name ∷ names_altered xs ≡ [] = names in cc
same_alterations old new (x ∷ xs) (y ∷ ys) names p q =
    let first = same_alteration old new x y
    (ap (λ (all : List (List ℕ)). slice_index_or all 0 []) names) (p x (contains_first x xs))
    (q y (contains_first y ys)) in
    let rest = same_alterations old new xs ys (ap (λ (all : List (List ℕ)). drop 1 all) names)
    (λ a there. p a (contains_later x xs a there)) (λ a there. q a (contains_later y ys a there)) in
    ap (λ (z : Alteration). z ∷ xs) first ∙ ap (λ (zs : List Alteration). y ∷ zs) rest

one_edit_list : (old new : Bundles) (xs ys : List Alteration) → IsEdit old new xs
    → IsEdit old new ys → xs ≡ ys
one_edit_list old new xs ys p q = same_alterations old new xs ys
    (same_names (names_altered xs) (names_altered ys) p.order q.order (λ name. (
      λ there. (names_alter old new ys q name).1 ((names_alter old new xs p name).0 there),
      λ there. (names_alter old new xs p name).1 ((names_alter old new ys q name).0 there),
    )))
    (λ a there. (p.same a).0 there) (λ a there. (q.same a).0 there)

-- the journal is one
one_entry_line : (names : List (List ℕ)) (place : ℕ) (from to : State) (a b : List ℕ)
    → IsEntryLine names place from to a → IsEntryLine names place from to b → a ≡ b
one_entry_line names place from to a b p q =
    p.2
    ∙ ap (λ (edit : List Alteration). line
    (decimal place ++ signs names from.live to.live ++ flat_map (alteration_text names) edit))
    (one_edit_list from.table to.table p.0 q.0 p.1 q.1) ∙ sym q.2

one_entries : (names : List (List ℕ)) (place : ℕ) (held : List State) (a b : List ℕ)
    → AreEntryLines names place held a → AreEntryLines names place held b → a ≡ b
one_entries names place [] a b p q = p ∙ sym q
one_entries names place (x ∷ []) a b p q = p ∙ sym q
one_entries names place (x ∷ y ∷ rest) a b (first, others, here, more, is)
    (head, tail, there, further, also) =
    is ∙ ap (λ (t : List ℕ). t ++ others) (one_entry_line names place x y first head here there)
    ∙ ap (λ (t : List ℕ). head ++ t)
    (one_entries names (suc place) (y ∷ rest) others tail more further) ∙ sym also

one_journal : (d : Database) (here : Line) (a b : List ℕ) → IsJournal d here a
    → IsJournal d here b → a ≡ b
one_journal d here a b p q =
    let same : p.0 ≡ q.0 = p.1.2 ∙ ap (λ (t : List ℕ). place_line here ++ t)
    (one_entries d.names 0 (states here) p.1.0 q.1.0 p.1.1 q.1.1) ∙ sym q.1.2 in
    p.2 ∙ ap (λ (t : List ℕ). t ++ ok_line) same ∙ sym q.2

-- the text of a plan is one
one_line_of : (word : List ℕ) (names : List (List ℕ)) (P : ℕ → Type 0) (a b : List ℕ)
    → IsLineOf word names P a → IsLineOf word names P b → a ≡ b
one_line_of word names P a b p q =
    p.2 ∙ ap (λ (ids : List ℕ). names_line word (names_at names ids)) (one_list P p.0 q.0 p.1 q.1)
    ∙ sym q.2

one_plan_text : (names : List (List ℕ)) (plan : PlanSets) (a b : List ℕ) → IsPlanText names plan a
    → IsPlanText names plan b → a ≡ b
one_plan_text names plan a b p q =
    p.all
    ∙ ap (λ (t : List ℕ). t ++ p.raise ++ p.kept)
    (one_line_of (codes "lower") names (Has plan.lower) p.lower q.lower p.lowered q.lowered)
    ∙ ap (λ (t : List ℕ). q.lower ++ t ++ p.kept)
    (one_line_of (codes "raise") names (Has plan.raise) p.raise q.raise p.raised q.raised)
    ∙ ap (λ (t : List ℕ). q.lower ++ q.raise ++ t)
    (one_line_of (codes "kept") names (Has plan.kept) p.kept q.kept p.keeps q.keeps)
    ∙ sym q.all

one_planned : (d : Database) (here : Line) (ask : Ask) (a b : List ℕ) → IsPlanned d here ask a
    → IsPlanned d here ask b → a ≡ b
one_planned d here ask a b (plan, lines, can, is, spelled, text)
    (other, others, may, also, spelt, more) =
    let deadline = deadline_of 0 ask.limit in
    let same : plan ≡ other =
    (one_task d here (Change ask []) 0 plan other deadline deadline (can, is, refl)
    (may, also, refl)).0 in
    text ∙ ap (λ (t : List ℕ). t ++ ok_line)
    (one_plan_text d.names other lines others
    (subst (λ (sets : PlanSets). IsPlanText d.names sets lines) same spelled) spelt) ∙ sym more

-- a refusal is one
one_refused : (d : Database) (here : Line) (command : Command) (a b : List ℕ) (x y : Line)
    → IsRefused d here command a x → IsRefused d here command b y → (a ≡ b) × (x ≡ y)
one_refused d here command a b x y (refusal, own, text, stays) (other, fault, more, keeps) =
    let same =
    one_answer d here command (Err refusal) (Err other) x y (inl own, stays) (inl fault, keeps) in
    (text ∙ ap (answer_text d.names command) same.0 ∙ sym more, same.1)

-- and so is an edit, and what a run comes to
one_edited : (d : Database) (here : Line) (command : Command) (a b : List ℕ) (x y : Line)
    → IsEdited d here command a x → IsEdited d here command b y → (a ≡ b) × (x ≡ y)
one_edited d here command a b x y (told, made, text) (other, makes, more) =
    let same = one_answer d here command (Ok told) (Ok other) x y (inr made) (inr makes) in
    (text ∙ ap (answer_text d.names command) same.0 ∙ sym more, same.1)

module _ (fails : ℕ → Way → Bool) (d : Database) (here : Line) where
  one_parted : (command : Command) (a b : List ℕ) (x y : Line)
      (p : EndsFailing fails d here command a x) (q : EndsFailing fails d here command b y)
      → p.plan ≡ q.plan → p.deadline ≡ q.deadline → (a ≡ b) × (x ≡ y)
  one_parted command a b x y p q plans deadlines =
      let up : p.plan.opening ≡ q.plan.opening = ap (λ (sets : PlanSets). sets.opening) plans in
      let lives : p.live ≡ q.live =
      one_set (EndOf (course_of d.needs q.plan q.deadline)
      (WouldFail (course_of d.needs q.plan q.deadline) fails)) p.live q.live
      (p.bound ∙ ap length up ∙ sym q.bound)
      (subst (λ (t : Option ℕ). (s : ℕ)
      → Has p.live s
      ↔ EndOf (course_of d.needs q.plan t) (WouldFail (course_of d.needs q.plan t) fails) s)
      deadlines
      (subst (λ (sets : PlanSets). (s : ℕ)
      → Has p.live s ↔ EndOf (course_of d.needs sets p.deadline)
      (WouldFail (course_of d.needs sets p.deadline) fails) s) plans p.ends)) q.ends in
      let lowered : p.lowered ≡ q.lowered = one_list (IsGained q.live q.plan.opening) p.lowered
      q.lowered (subst (λ (set : List Bool). Lists (IsGained set q.plan.opening) p.lowered) lives
      (subst (λ (set : List Bool). Lists (IsGained p.live set) p.lowered) up p.all_lowered))
      q.all_lowered in
      let raised : p.raised ≡ q.raised = one_list (IsGained q.plan.opening q.live) p.raised q.raised
      (subst (λ (set : List Bool). Lists (IsGained q.plan.opening set) p.raised) lives
      (subst (λ (set : List Bool). Lists (IsGained set p.live) p.raised) up p.all_raised))
      q.all_raised in
      let failed : p.failed ≡ q.failed =
      one_list (IsTriedInVain (course_of d.needs q.plan q.deadline) fails) p.failed q.failed
      (subst (λ (t : Option ℕ). Lists (IsTriedInVain (course_of d.needs q.plan t) fails) p.failed)
      deadlines
      (subst (λ (sets : PlanSets). Lists (IsTriedInVain (course_of d.needs sets p.deadline) fails)
      p.failed) plans p.all_failed)) q.all_failed in
      let blocked : p.blocked ≡ q.blocked =
      one_list (IsBlocked (course_of d.needs q.plan q.deadline) fails) p.blocked q.blocked
      (subst (λ (t : Option ℕ). Lists (IsBlocked (course_of d.needs q.plan t) fails) p.blocked)
      deadlines
      (subst (λ (sets : PlanSets). Lists (IsBlocked (course_of d.needs sets p.deadline) fails)
      p.blocked) plans p.all_blocked)) q.all_blocked in
      let kept : p.kept ≡ q.kept = one_list (Has q.plan.kept) p.kept q.kept
      (subst (λ (sets : PlanSets). Lists (Has sets.kept) p.kept) plans p.all_kept) q.all_kept in (
        p.told
            ∙ ap (λ (ids : List ℕ). report_text d.names
            (listing ids p.raised p.failed p.blocked p.kept)) lowered
            ∙ ap (λ (ids : List ℕ). report_text d.names
            (listing q.lowered ids p.failed p.blocked p.kept)) raised
            ∙ ap (λ (ids : List ℕ). report_text d.names
            (listing q.lowered q.raised ids p.blocked p.kept)) failed
            ∙ ap (λ (ids : List ℕ). report_text d.names
            (listing q.lowered q.raised q.failed ids p.kept)) blocked
            ∙ ap (λ (ids : List ℕ). report_text d.names
            (listing q.lowered q.raised q.failed q.blocked ids)) kept
            ∙ sym q.told,
        one_move here command q.live x y
            (subst (λ (set : List Bool). MovesBy here command set x) lives p.moved) q.moved,
      )

  one_failing : (command : Command) (a b : List ℕ) (x y : Line)
      → EndsFailing fails d here command a x → EndsFailing fails d here command b y
      → (a ≡ b) × (x ≡ y)
  one_failing command a b x y p q =
      let same = one_task d here command 0 p.plan q.plan p.deadline q.deadline p.task q.task in
      one_parted command a b x y p q same.0 same.1

  -- what a run carries out is no edit
  no_edit : (command : Command) (a b : List ℕ) (x y : Line) → EndsFailing fails d here command a x
      → IsEdited d here command b y → ⊥
  no_edit (Change ask events) a b x y p q = q.1.altered
  no_edit (Undo limit events) a b x y p q = q.1.altered
  no_edit (Redo limit events) a b x y p q = q.1.altered
  no_edit (Add name contents force) a b x y p q = p.task
  no_edit (Delete words force) a b x y p q = p.task

  one_done : (command : Command) (a b : List ℕ) (x y : Line)
      → IsDoneFailing fails d here command a x → IsDoneFailing fails d here command b y
      → (a ≡ b) × (x ≡ y)
  one_done command a b x y p q = elim p [
    | inl run ↦ elim q [
      | inl other ↦ one_failing command a b x y run other
      | inr edit ↦ absurd (no_edit command a b x y run edit)
    ]
    | inr edit ↦ elim q [
      | inl run ↦ absurd (no_edit command b a y x run edit)
      | inr other ↦ one_edited d here command a b x y edit other
    ]
  ]

  -- what is done has no cause to be refused
  not_refused : (command : Command) (a b : List ℕ) (x y : Line)
      → IsDoneFailing fails d here command a x → IsRefused d here command b y → ⊥
  not_refused command a b x y done (refusal, own, text, stays) = elim done [
    | inl run ↦ task_not_own d here command 0 run.plan run.deadline refusal run.task own
    | inr edit ↦ done_not_refused d here x command edit.0 refusal (inr edit.1) (inl own)
  ]

  one_met : (command : Command) (a b : List ℕ) (x y : Line)
      → MeetsCommand (IsDoneFailing fails) d here command a x
      → MeetsCommand (IsDoneFailing fails) d here command b y → (a ≡ b) × (x ≡ y)
  one_met command a b x y p q = elim p [
    | inl done ↦ elim q [
      | inl other ↦ one_done command a b x y done other
      | inr refused ↦ absurd (not_refused command a b x y done refused)
    ]
    | inr refused ↦ elim q [
      | inl done ↦ absurd (not_refused command b a y x done refused)
      | inr other ↦ one_refused d here command a b x y refused other
    ]
  ]

  one_dry : (ask : Ask) (a b : List ℕ) → MeetsDry d here ask a → MeetsDry d here ask b → a ≡ b
  one_dry ask a b p q = elim p [
    | inl plan ↦ elim q [
      | inl other ↦ one_planned d here ask a b plan other
      | inr refused ↦ absurd (can_not_own d here ask [] refused.0 plan.2 refused.1)
    ]
    | inr refused ↦
        elim q [
          | inl plan ↦ absurd (can_not_own d here ask [] refused.0 plan.2 refused.1)
          | inr other ↦ (one_refused d here (Change ask []) a b here here refused other).0
        ]
  ]

  one_saying : (saying : Saying) (a b : List ℕ) (x y : Line)
      → Meets (IsDoneFailing fails) d here saying a x
      → Meets (IsDoneFailing fails) d here saying b y → (a ≡ b) × (x ≡ y)
  one_saying SaysNothing a b x y p q = (p.0 ∙ sym q.0, p.1 ∙ sym q.1)
  one_saying SaysWrong a b x y p q = (p.0 ∙ sym q.0, p.1 ∙ sym q.1)
  one_saying (SaysStep command) a b x y p q = one_met command a b x y p q
  one_saying (SaysDry ask) a b x y p q = (one_dry ask a b p.0 q.0, p.1 ∙ sym q.1)
  one_saying SaysLive a b x y p q = (p.0 ∙ sym q.0, p.1 ∙ sym q.1)
  one_saying SaysBundles a b x y p q = (p.0 ∙ sym q.0, p.1 ∙ sym q.1)
  one_saying SaysJournal a b x y p q = (one_journal d here a b p.0 q.0, p.1 ∙ sym q.1)

  one_bytes : SaysOnce → (bytes a b : List ℕ) (x y : Line)
      → MeetsBytes (IsDoneFailing fails) d here bytes a x
      → MeetsBytes (IsDoneFailing fails) d here bytes b y → (a ≡ b) × (x ≡ y)
  one_bytes once bytes a b x y (saying, says, met) (other, also, meets) =
      one_saying other a b x y
      (subst (λ (s : Saying). Meets (IsDoneFailing fails) d here s a x)
      (once bytes saying other says also) met) meets

-- lines one after the other
one_serving : SaysOnce
    → (fails : ℕ → Way → Bool) (d : Database) (lines : List (List ℕ)) (here : Line) (a b : List ℕ)
    (x y : Line) → Serves (IsDoneFailing fails) d here lines a x
    → Serves (IsDoneFailing fails) d here lines b y → (a ≡ b) × (x ≡ y)
one_serving once fails d [] here a b x y p q = (p.0 ∙ sym q.0, p.1 ∙ sym q.1)
one_serving once fails d (bytes ∷ lines) here a b x y (first, next, others, met, rest, whole)
    (head, other, tail, meets, more, all) =
    let same = one_bytes fails d here once bytes first head next other met meets in
    let further = one_serving once fails d lines other others tail x y
    (subst (λ (l : Line). Serves (IsDoneFailing fails) d l lines others x) same.1 rest) more in (
      whole ∙ ap (λ (t : List ℕ). t ++ others) same.0 ∙ ap (λ (t : List ℕ). head ++ t) further.0
          ∙ sym all,
      further.1,
    )

-- bytes have one list of lines
one_front : (x y r s : List ℕ) → IsOneLine x → IsOneLine y → x ++ 10 ∷ r ≡ y ++ 10 ∷ s
    → (x ≡ y) × (r ≡ s)
one_front [] [] r s p q same = (refl, ap (λ (t : List ℕ). drop 1 t) same)
one_front [] (c ∷ y) r s p q same =
    absurd (q 0 c (omega arith) (sym (ap (λ (t : List ℕ). slice_index_or t 0 0) same)))
one_front (c ∷ x) [] r s p q same =
    absurd (p 0 c (omega arith) (ap (λ (t : List ℕ). slice_index_or t 0 0) same))
one_front (b ∷ x) (c ∷ y) r s p q same =
    let rest = one_front x y r s (λ k z low. p (suc k) z (omega (arith, low)))
    (λ k z low. q (suc k) z (omega (arith, low))) (ap (λ (t : List ℕ). drop 1 t) same) in (
      ap (λ (z : ℕ). z ∷ x) (ap (λ (t : List ℕ). slice_index_or t 0 0) same)
          ∙ ap (λ (zs : List ℕ). c ∷ zs) rest.0,
      rest.1,
    )

no_newline : (s y r : List ℕ) → IsOneLine s → s ≡ y ++ 10 ∷ r → ⊥
no_newline [] [] r p same = let bad : [] ≡ 10 ∷ r = same in cc
no_newline [] (c ∷ y) r p same = let bad : [] ≡ c ∷ (y ++ 10 ∷ r) = same in cc
no_newline (c ∷ s) [] r p same =
    p 0 c (omega arith) (ap (λ (t : List ℕ). slice_index_or t 0 0) same)
no_newline (c ∷ s) (b ∷ y) r p same =
    no_newline s y r (λ k z low. p (suc k) z (omega (arith, low)))
    (ap (λ (t : List ℕ). drop 1 t) same)

-- the first line of several, with its newline
split_first : (x : List ℕ) (xs : List (List ℕ)) (s : List ℕ)
    → flat_map line (x ∷ xs) ++ s ≡ x ++ 10 ∷ (flat_map line xs ++ s)
split_first x xs s =
    append_assoc (line x) (flat_map line xs) s ∙ append_assoc x (10 ∷ []) (flat_map line xs ++ s)

one_split : (xs ys : List (List ℕ)) (s t : List ℕ) → All IsLine xs → All IsLine ys → IsOneLine s
    → IsOneLine t → flat_map line xs ++ s ≡ flat_map line ys ++ t → (xs ≡ ys) × (s ≡ t)
one_split [] [] s t p q one other same = (refl, same)
one_split [] (y ∷ ys) s t p q one other same =
    absurd (no_newline s y (flat_map line ys ++ t) one (same ∙ split_first y ys t))
one_split (x ∷ xs) [] s t p q one other same =
    absurd (no_newline t x (flat_map line xs ++ s) other (sym same ∙ split_first x xs s))
one_split (x ∷ xs) (y ∷ ys) s t p q one other same =
    let heads = one_front x y (flat_map line xs ++ s) (flat_map line ys ++ t)
    (p 0 x (omega arith)).0 (q 0 y (omega arith)).0
    (sym (split_first x xs s) ∙ same ∙ split_first y ys t) in
    let rest = one_split xs ys s t (λ k z low. p (suc k) z (omega (arith, low)))
    (λ k z low. q (suc k) z (omega (arith, low))) one other heads.1 in
    (ap (λ (z : List ℕ). z ∷ xs) heads.0 ∙ ap (λ (zs : List (List ℕ)). y ∷ zs) rest.0, rest.1)

-- lines with their newlines, and what stands after the last newline
record IsSplit (lines : List (List ℕ)) (bytes : List ℕ) : Type 0 where
  whole : List (List ℕ)
  tail : List ℕ
  each : All IsLine whole
  one : IsOneLine tail
  spelled : bytes ≡ flat_map line whole ++ tail
  last : ((tail ≡ []) × (lines ≡ whole)) ⊎ ((tail ≢ []) × (lines ≡ whole ++ tail ∷ []))

front_lines : (xs : List (List ℕ)) (y : List ℕ) → All IsLine (xs ++ y ∷ [])
    → All IsLine xs × IsLine y
front_lines [] y all = (λ k z low. absurd (omega (arith, low)), all 0 y (omega arith))
front_lines (x ∷ xs) y all =
    let rest = front_lines xs y (λ k z low. all (suc k) z (omega (arith, low))) in
    (first rest.0, rest.1)
  where
    first : All IsLine xs → All IsLine (x ∷ xs)
    first more zero z low = all 0 z (omega arith)
    first more (suc k) z low = more k z (omega (arith, low))

split_of : (lines : List (List ℕ)) (bytes : List ℕ) → AreLines lines bytes [] → IsSplit lines bytes
split_of lines bytes (each, inl whole) = record {
  whole = lines;
  tail = [];
  each = each;
  one = λ k z low. absurd (omega (arith, low));
  spelled = whole;
  last = inl (refl, refl);
}
split_of lines bytes (each, inr (before, end, is, some, whole, none)) =
    let parts = front_lines before end (subst (λ (all : List (List ℕ)). All IsLine all) is each) in
    record {
      whole = before;
      tail = end;
      each = parts.0;
      one = parts.1.0;
      spelled = whole;
      last =
          inr (some, is);
    }

pub one_lines : (xs ys : List (List ℕ)) (bytes : List ℕ) → AreLines xs bytes []
    → AreLines ys bytes [] → xs ≡ ys
one_lines xs ys bytes p q =
    let a = split_of xs bytes p in
    let b = split_of ys bytes q in
    let same =
    one_split a.whole b.whole a.tail b.tail a.each b.each a.one b.one (sym a.spelled ∙ b.spelled) in
    elim a.last [
      | inl ends ↦ elim b.last [
        | inl also ↦ ends.1 ∙ same.0 ∙ sym also.1
        | inr more ↦ absurd (more.0 (sym same.1 ∙ ends.0))
      ]
      | inr more ↦ elim b.last [
        | inl ends ↦ absurd (more.0 (same.1 ∙ ends.0))
        | inr also ↦
            more.1 ∙ ap (λ (all : List (List ℕ)). all ++ a.tail ∷ []) same.0
            ∙ ap (λ (t : List ℕ). b.whole ++ t ∷ []) same.1 ∙ sym also.1
      ]
    ]

-- an input has one text
pub one_text : SaysOnce
    → (fails : ℕ → Way → Bool) (d : Database) (here : Line) (bytes a b : List ℕ) (x y : Line)
    → SessionText fails d here bytes a x → SessionText fails d here bytes b y → (a ≡ b) × (x ≡ y)
one_text once fails d here bytes a b x y (lines, spelled, met) (others, spelt, meets) =
    one_serving once fails d others here a b x y
    (subst (λ (all : List (List ℕ)). Serves (IsDoneFailing fails) d here all a x)
    (one_lines lines others bytes spelled spelt) met) meets

-- Texts that stand on the same bytes are one, and reading is stuck at one place.
use Rattle.std.proofs.Common.{◌≡◌, ◌≢◌, ◌∙◌, ℕ, ◌+◌, inl, inr, zero, suc, Bool, true, false, map}
use Rattle.std.proofs.Common.{List, [], ◌∷◌, ◌++◌, length, take, drop, get_or, All, Option, Some}
use Rattle.std.proofs.Common.{None, refl, sym, ap, subst, arith, append_assoc}
use Rattle.std.proofs.lemmas.Bool.{cases_lt}
use Rattle.std.proofs.lemmas.List.{take-append-drop}
use Rattle.std.proofs.lemmas.List.Elements.{All-head, All-tail, All-nil, All-cons, All-append}
use Rattle.std.proofs.lemmas.List.Elements.{All-map}
use Rattle.std.specs.List.{flat_map}
use Rattle.std.specs.Prelude.{codes}
use Rattle.rc_dbtext.specs.Words.{HasNumber}
use Rattle.rc_dbtext.specs.Form.{spells}
use Rattle.rc_dbtext.proofs.Stuck.{AreAligned, spells-append}
use Rattle.rc_dbtext.proofs.Stuck as stuck_at
use Rattle.rc_livetext.specs.declared.form_fault.FormFault.{FormFault}
use Rattle.rc_livetext.specs.declared.form_fault.FormFault.TheVariants.{Bad, Version, Memory}
use Rattle.rc_livetext.specs.Text.{Line, First, OfServices, OfBound, OfState, OfBundle, Last}
use Rattle.rc_livetext.specs.Text.{LiveText, StateText, IsLiveText, head_lines, state_lines}
use Rattle.rc_livetext.specs.Text.{live_lines, live_text, spell}
use Rattle.rc_livetext.specs.Refusals.{HasOtherVersion, IsOtherVersion, IsStuckAt, IsRefused}
use Rattle.rc_livetext.proofs.LineWords.{IsSaid}
use Rattle.rc_livetext.proofs.ManyLines.{AreToLast, lines_once, fronts_once, inner_front}
use Rattle.rc_livetext.proofs.ManyLines.{not_within}
use Rattle.rc_livetext.proofs.Structure.{texts_once, text_said, text_to_last, body_lines}

-- a text and what follows it are read in one way
pub text_once : (a b : LiveText) (x y : List ℕ) → IsLiveText a → IsLiveText b
    → live_text a ++ x ≡ live_text b ++ y → (a ≡ b) × (x ≡ y)
text_once a b x y is_a is_b same =
    let both = lines_once (live_lines a) (live_lines b) x y (text_said a is_a) (text_said b is_b)
    (text_to_last a) (text_to_last b) same in
    (texts_once a b both.0, both.1)

aligned : AreAligned spell IsLiveText live_lines (λ l m. Unit {0}) Last
aligned a b n x y is_a is_b in_a in_b same = (
  fronts_once n (live_lines a) (live_lines b) x y (text_said a is_a) (text_said b is_b)
      in_a in_b same,
  tt,
)

-- where reading is stuck there is a place of the text, and it is one
one_place : (bytes rest other : List ℕ) (due line : Line) (stuck : IsStuckAt bytes rest due)
    (more : IsStuckAt bytes other line)
    → (rest ≡ other) × (length stuck.before ≡ length more.before)
one_place bytes rest other due line stuck more =
    let at =
    stuck_at.one_place spell IsLiveText live_lines (λ l m. Unit {0}) Last aligned bytes rest
    other due line stuck more in
    (at.0, at.2)

due_line : (bytes rest : List ℕ) (due : Line) (stuck : IsStuckAt bytes rest due)
    → get_or (live_lines stuck.value) (length stuck.before) Last ≡ due
due_line bytes rest due stuck =
    stuck_at.due_line spell IsLiveText live_lines Last bytes rest due stuck

-- another version can stand where the first line is due, which is at the beginning, and there a
-- first line is due
version_any : (due : Line) (rest : List ℕ) → HasOtherVersion due rest
    → HasNumber (codes "undorc-live") IsOtherVersion rest
version_any (First bounded) rest has = has
version_any other rest has = absurd has

-- the line at a place of a text is a first one exactly at its beginning
abbrev IsBegin : Line → Type 0
IsBegin (First bounded) = Unit {0}
IsBegin other = ⊥

begins : (t : LiveText) → IsBegin (get_or (live_lines t) 0 Last)
begins t = by t.bound
  where
    by : (bound : Option ℕ) → IsBegin (get_or (head_lines t.services bound ++ body_lines t) 0 Last)
    by (Some b) = tt
    by None = tt

NotBegin : Line → Type 0
NotBegin l = IsBegin l → ⊥

no_begin : (ls : List Line) → All NotBegin ls → (n : ℕ) → IsBegin (get_or ls n Last) → ⊥
unfolding NotBegin
no_begin [] each n begin = begin
no_begin (l ∷ ls) each zero begin = each 0 Last (omega arith) begin
no_begin (l ∷ ls) each (suc n) begin = no_begin ls (All-tail NotBegin l ls each) n begin

state_later : (current : Bool) (s : StateText) → All NotBegin (state_lines current s)
unfolding NotBegin
state_later current s =
    All-cons NotBegin (OfState current s.live) (map OfBundle s.bundles) (λ bad. bad)
    (All-map NotBegin OfBundle s.bundles (λ k d within bad. bad))

states_later : (ss : List StateText) → All NotBegin (flat_map (state_lines false) ss)
states_later [] = All-nil NotBegin
states_later (s ∷ ss) =
    All-append NotBegin (state_lines false s) (flat_map (state_lines false) ss)
    (state_later false s) (states_later ss)

body_later : (t : LiveText) → All NotBegin (body_lines t)
unfolding NotBegin
body_later t =
    All-append NotBegin (flat_map (state_lines false) t.before)
    (state_lines true t.current ++ (flat_map (state_lines false) t.after ++ Last ∷ []))
    (states_later t.before)
    (All-append NotBegin (state_lines true t.current)
    (flat_map (state_lines false) t.after ++ Last ∷ []) (state_later true t.current)
    (All-append NotBegin (flat_map (state_lines false) t.after) (Last ∷ []) (states_later t.after)
    (All-cons NotBegin Last [] (λ bad. bad) (All-nil NotBegin))))

-- so a first line is due at the beginning alone
at_begin : (t : LiveText) (n : ℕ) → IsBegin (get_or (live_lines t) n Last) → n ≡ 0
unfolding NotBegin
at_begin t zero begin = refl
at_begin t (suc n) begin = absurd (by t.bound n begin)
  where
    by : (bound : Option ℕ) (n : ℕ)
        → IsBegin (get_or (head_lines t.services bound ++ body_lines t) (suc n) Last) → ⊥
    by (Some b) n begin = no_begin (OfServices t.services ∷ OfBound b ∷ body_lines t)
        (All-cons NotBegin (OfServices t.services) (OfBound b ∷ body_lines t) (λ bad. bad)
        (All-cons NotBegin (OfBound b) (body_lines t) (λ bad. bad) (body_later t))) n begin
    by None n begin =
        no_begin (OfServices t.services ∷ body_lines t)
        (All-cons NotBegin (OfServices t.services) (body_lines t) (λ bad. bad) (body_later t)) n
        begin

to_version : (due : Line) (rest : List ℕ) → IsBegin due
    → HasNumber (codes "undorc-live") IsOtherVersion rest → HasOtherVersion due rest
to_version (First bounded) rest begin has = has
to_version other rest begin has = absurd begin

is_begin : (due : Line) (rest : List ℕ) → HasOtherVersion due rest → IsBegin due
is_begin (First bounded) rest has = tt
is_begin other rest has = absurd has

-- at one place stands not both a bad line and another version
no_version : (bytes rest other : List ℕ) (due line : Line) → IsStuckAt bytes rest due
    → IsStuckAt bytes other line → (HasOtherVersion due rest → ⊥) → HasOtherVersion line other → ⊥
no_version bytes rest other due line stuck more none has =
    let at = one_place bytes rest other due line stuck more in
    let there : IsBegin (get_or (live_lines more.value) (length more.before) Last) =
    subst IsBegin (sym (due_line bytes other line more)) (is_begin line other has) in
    let zero_at : length stuck.before ≡ 0 = at.1 ∙ at_begin more.value (length more.before) there in
    let here : IsBegin due =
    subst IsBegin (ap (λ (k : ℕ). get_or (live_lines stuck.value) k Last) (sym zero_at)
    ∙ due_line bytes rest due stuck) (begins stuck.value) in
    none (to_version due rest here
    (subst (HasNumber (codes "undorc-live") IsOtherVersion) (sym at.0)
    (version_any line other has)))

-- so what refuses bytes is one, out of memory aside
pub one_refusal : (bytes : List ℕ) (a b : FormFault) → IsRefused bytes a → IsRefused bytes b
    → a ≢ Memory → b ≢ Memory → a ≡ b
one_refusal bytes Memory b of_a of_b not_a not_b = absurd (not_a refl)
one_refusal bytes a Memory of_a of_b not_a not_b = absurd (not_b refl)
one_refusal bytes (Bad left) (Bad other) of_a of_b not_a not_b =
    let at = one_place bytes of_a.0 of_b.0 of_a.1 of_b.1 of_a.2 of_b.2 in
    ap Bad (of_a.3 ∙ ap length at.0 ∙ sym of_b.3)
one_refusal bytes (Bad left) Version of_a of_b not_a not_b =
    absurd (no_version bytes of_a.0 of_b.0 of_a.1 of_b.1 of_a.2 of_b.2 of_a.4 of_b.3)
one_refusal bytes Version (Bad left) of_a of_b not_a not_b =
    absurd (no_version bytes of_b.0 of_a.0 of_b.1 of_a.1 of_b.2 of_a.2 of_b.4 of_a.3)
one_refusal bytes Version Version of_a of_b not_a not_b = refl

-- where a text stands reading is not stuck
not_stuck : (t : LiveText) (rest left : List ℕ) (due : Line) → IsLiveText t
    → IsStuckAt (live_text t ++ rest) left due → ⊥
not_stuck t rest left due is stuck = elim (cases_lt (length stuck.before) (length (live_lines t))) [
  | inl inside ↦
      let n : ℕ = length stuck.before + 1 in
      stuck.none t (spells spell (drop n (live_lines t)) ++ rest) is
      (ap (λ (ls : List Line). spells spell ls ++ rest) (sym (take-append-drop n (live_lines t)))
      ∙ ap (λ (l : List ℕ). l ++ rest)
      (spells-append spell (take n (live_lines t)) (drop n (live_lines t)))
      ∙ append_assoc (spells spell (take n (live_lines t))) (spells spell (drop n (live_lines t)))
      rest)
  | inr behind ↦
      let said : All IsSaid (stuck.before ++ due ∷ stuck.after) =
      subst (All IsSaid) stuck.parts (text_said stuck.value stuck.is) in
      not_within (live_lines t) stuck.before rest left (text_said t is)
      (said_front stuck.before (due ∷ stuck.after) said) (text_to_last t)
      (inner_front stuck.before due stuck.after
      (subst AreToLast stuck.parts (text_to_last stuck.value))) behind stuck.front
]
  where
    said_front : (xs ys : List Line) → All IsSaid (xs ++ ys) → All IsSaid xs
    said_front [] ys h = All-nil IsSaid
    said_front (x ∷ xs) ys h =
        All-cons IsSaid x xs (All-head IsSaid x (xs ++ ys) h)
        (said_front xs ys (All-tail IsSaid x (xs ++ ys) h))

pub not_refused : (t : LiveText) (rest : List ℕ) (fault : FormFault) → IsLiveText t
    → IsRefused (live_text t ++ rest) fault → fault ≡ Memory
not_refused t rest Memory is of_it = refl
not_refused t rest (Bad left) is of_it = absurd (not_stuck t rest of_it.0 of_it.1 is of_it.2)
not_refused t rest Version is of_it = absurd (not_stuck t rest of_it.0 of_it.1 is of_it.2)

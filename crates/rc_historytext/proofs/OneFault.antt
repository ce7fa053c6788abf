-- What refuses bytes is one, and refuses no text.
use Rattle.std.proofs.Common.{◌≡◌, ◌≢◌, ◌∙◌, ℕ, ◌+◌, ◌⊎◌, inl, inr, List, [], ◌++◌, length}
use Rattle.std.proofs.Common.{take, drop, refl, sym, ap, arith, append_assoc}
use Rattle.std.proofs.lemmas.List.{append-nil, take-append-drop}
use Rattle.rc_dbtext.specs.Form.{spells}
use Rattle.rc_dbtext.proofs.Stuck.{AreAligned, spells-append}
use Rattle.rc_dbtext.proofs.Stuck as stuck_at
use Rattle.rc_historytext.specs.declared.fault.HistoryFault.{HistoryFault}
use Rattle.rc_historytext.specs.declared.fault.HistoryFault.TheVariants.{Bad, Version, Memory}
use Rattle.rc_historytext.specs.Text.{Line, Last, HistoryText, IsHistoryText, history_lines}
use Rattle.rc_historytext.specs.Text.{history_text, spell}
use Rattle.rc_historytext.specs.Faults.{IsStuckAt, IsBadAt, HasMoreAt, IsHistoryFault}
use Rattle.rc_historytext.specs.Due.{AtFirst}
use Rattle.rc_historytext.proofs.Once.{lines_once, fronts_once}
use Rattle.rc_historytext.proofs.Rows.{history_leads}
use Rattle.rc_historytext.proofs.Structure.{histories_once}
use Rattle.rc_historytext.proofs.Reading.{no_other_version}

-- a text and what follows it are read in one way
pub text_once : (a b : HistoryText) (x y : List ℕ) → IsHistoryText a → IsHistoryText b
    → history_text a ++ x ≡ history_text b ++ y → (a ≡ b) × (x ≡ y)
text_once a b x y is_a is_b same =
    let first = history_leads a is_a in
    let second = history_leads b is_b in
    let both = lines_once AtFirst (history_lines a) (history_lines b) x y first.due second.due
    first.there second.there same in
    (histories_once a b both.0, both.1)

aligned : AreAligned spell IsHistoryText history_lines (λ l m. Unit {0}) Last
aligned a b n x y is_a is_b in_a in_b same = (
  fronts_once AtFirst n (history_lines a) (history_lines b) x y (history_leads a is_a).due
      (history_leads b is_b).due in_a in_b same,
  tt,
)

-- reading is stuck at one place
bad_once : (bytes : List ℕ) (a b : ℕ) → IsBadAt bytes a → IsBadAt bytes b → a ≡ b
bad_once bytes a b first second =
    let at = stuck_at.one_place spell IsHistoryText history_lines (λ l m. Unit {0}) Last aligned
    bytes first.0 second.0 first.1 second.1 first.2 second.2 in
    omega (arith, first.3, second.3, ap length at.0)

-- and nowhere in a text
not_stuck : (t : HistoryText) (bytes tail rest : List ℕ) (due : Line) → IsHistoryText t
    → bytes ≡ history_text t ++ tail → IsStuckAt bytes rest due → ⊥
not_stuck t bytes tail rest due is stands stuck =
    let n : ℕ = length stuck.before + 1 in
    let front : List Line = take n (history_lines t) in
    let back : List Line = drop n (history_lines t) in
    stuck.none t (spells spell back ++ tail) is
    (stands
    ∙ ap (λ (ls : List Line). spells spell ls ++ tail) (sym (take-append-drop n (history_lines t)))
    ∙ ap (λ (l : List ℕ). l ++ tail) (spells-append spell front back)
    ∙ append_assoc (spells spell front) (spells spell back) tail)

not_both : (bytes : List ℕ) (a b : ℕ) → IsBadAt bytes a → HasMoreAt bytes b → ⊥
not_both bytes a b (rest, due, stuck, at) (t, tail, is, stands, some, long) =
    not_stuck t bytes tail rest due is stands stuck

more_once : (bytes : List ℕ) (a b : ℕ) → HasMoreAt bytes a → HasMoreAt bytes b → a ≡ b
more_once bytes a b (t, x, is_t, stands_t, some_x, at_t) (u, y, is_u, stands_u, some_y, at_u) =
    let both = text_once t u x y is_t is_u (sym stands_t ∙ stands_u) in
    at_t ∙ ap (λ (v : HistoryText). length (history_text v)) both.0 ∙ sym at_u

place_once : (bytes : List ℕ) (a b : ℕ) → IsBadAt bytes a ⊎ HasMoreAt bytes a
    → IsBadAt bytes b ⊎ HasMoreAt bytes b → a ≡ b
place_once bytes a b (inl first) (inl second) = bad_once bytes a b first second
place_once bytes a b (inl first) (inr second) = absurd (not_both bytes a b first second)
place_once bytes a b (inr first) (inl second) = absurd (not_both bytes b a second first)
place_once bytes a b (inr first) (inr second) = more_once bytes a b first second

pub one_fault : (bytes : List ℕ) (a b : HistoryFault) → IsHistoryFault bytes a
    → IsHistoryFault bytes b → a ≢ Memory → b ≢ Memory → a ≡ b
one_fault bytes Memory b of_a of_b not_a not_b = absurd (not_a refl)
one_fault bytes a Memory of_a of_b not_a not_b = absurd (not_b refl)
one_fault bytes Version Version of_a of_b not_a not_b = refl
one_fault bytes Version (Bad offset) of_a of_b not_a not_b = absurd (of_b.0 of_a)
one_fault bytes (Bad offset) Version of_a of_b not_a not_b = absurd (of_a.0 of_b)
one_fault bytes (Bad left) (Bad right) of_a of_b not_a not_b =
    ap Bad (place_once bytes left right of_a.1 of_b.1)

-- bytes that are a text are refused by nothing
no_place : (t : HistoryText) (offset : ℕ) → IsHistoryText t
    → IsBadAt (history_text t) offset ⊎ HasMoreAt (history_text t) offset → ⊥
no_place t offset is (inl (rest, due, stuck, at)) =
    not_stuck t (history_text t) [] rest due is (sym (append-nil (history_text t))) stuck
no_place t offset is (inr (u, rest, is_u, stands, some, at)) =
    some (sym (text_once t u [] rest is is_u (append-nil (history_text t) ∙ stands)).1)

pub not_refused : (t : HistoryText) (fault : HistoryFault) → IsHistoryText t
    → IsHistoryFault (history_text t) fault → fault ≡ Memory
not_refused t Memory is refused = refl
not_refused t Version is refused = absurd (no_other_version (history_text t) _ refl refused)
not_refused t (Bad offset) is refused = absurd (no_place t offset is refused.1)

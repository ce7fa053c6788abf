-- A line that is due is read once, and lines that are due are.
use Rattle.std.proofs.Common.{◌≡◌, ◌∙◌, ℕ, ◌+◌, ◌<◌, ◌^◌, zero, suc, Bool, true, false, List, []}
use Rattle.std.proofs.Common.{◌∷◌}
use Rattle.std.proofs.Common.{◌++◌, length, take, get_or, arith, refl, sym, ap, subst}
use Rattle.std.proofs.Common.{append_assoc}
use Rattle.std.proofs.lemmas.Fmt.{decimal_injective}
use Rattle.std.specs.Prelude.{codes}
use Rattle.std.specs.Fmt.{decimal}
use Rattle.rc_dbtext.specs.Form.{spells}
use Rattle.rc_dbtext.proofs.LineWords.{words_once}
use Rattle.rc_model.proofs.Lists.{word_at, cut_once}
use Rattle.rc_historytext.specs.Text.{Line, First, OfPlace, OfMarks, OfDatabase, OfSession}
use Rattle.rc_historytext.specs.Text.{RenameCount, OfRename, Last, words, text_behind}
use Rattle.rc_historytext.specs.Text.{mark_word, spell}
use Rattle.rc_historytext.specs.Due.{Place, AtFirst, AtPlace, AtMarks, AtDatabase, AtSession}
use Rattle.rc_historytext.specs.Due.{AtCount, AtRename, AtLast, AtEnd, IsDue, AreDue, behind}
use Rattle.rc_historytext.specs.Due.{place_after, NoneDue}
use Rattle.rc_historytext.proofs.LineWords.{plain_line, few_renames}
use Rattle.rc_historytext.proofs.Missing.{line_apart}

mark_once : (a b : Bool) → mark_word a ≡ mark_word b → a ≡ b
mark_once true true same = refl
mark_once true false same = absurd (omega (arith, ap (λ (l : List ℕ). get_or l 0 0) same))
mark_once false true same = absurd (omega (arith, ap (λ (l : List ℕ). get_or l 0 0) same))
mark_once false false same = refl

-- a text after its length
counted_once : (word a b x y : List ℕ) → length a < 2 ^ 64 → length b < 2 ^ 64
    → word ∷ decimal (length a) ∷ [] ≡ word ∷ decimal (length b) ∷ [] → a ++ x ≡ b ++ y
    → (a ≡ b) × (x ≡ y)
counted_once word a b x y small_a small_b same behind =
    cut_once a b x y (decimal_injective (length a) (length b) small_a small_b
    (word_at 1 (word ∷ decimal (length a) ∷ []) (word ∷ decimal (length b) ∷ []) same)) behind

-- lines that are due at one place, with the same words and the same bytes after them
words_tell : (p : Place) (l m : Line) (x y : List ℕ) → IsDue p l → IsDue p m → words l ≡ words m
    → text_behind l ++ x ≡ text_behind m ++ y → (l ≡ m) × (x ≡ y)
words_tell AtFirst First First x y due_l due_m same behind = (refl, behind)
words_tell AtFirst First m x y due_l due_m same behind = absurd due_m
words_tell AtFirst l m x y due_l due_m same behind = absurd due_l
words_tell AtPlace (OfPlace p n) (OfPlace q m) x y due_l due_m same behind =
    let first : p ≡ q = decimal_injective p q (omega (arith, due_l.0, due_l.1))
    (omega (arith, due_m.0, due_m.1))
    (word_at 1 (words (OfPlace p n)) (words (OfPlace q m)) same) in
    let second : n ≡ m = decimal_injective n m (omega (arith, due_l.1)) (omega (arith, due_m.1))
    (word_at 3 (words (OfPlace p n)) (words (OfPlace q m)) same) in
    ((λ i. OfPlace (first i) (second i)), behind)
words_tell AtPlace (OfPlace p n) m x y due_l due_m same behind = absurd due_m
words_tell AtPlace l m x y due_l due_m same behind = absurd due_l
words_tell (AtMarks o k) (OfMarks a b) (OfMarks c d) x y due_l due_m same behind =
    let first : a ≡ c =
    mark_once a c (word_at 1 (words (OfMarks a b)) (words (OfMarks c d)) same) in
    let second : b ≡ d =
    mark_once b d (word_at 2 (words (OfMarks a b)) (words (OfMarks c d)) same) in
    ((λ i. OfMarks (first i) (second i)), behind)
words_tell (AtMarks o k) (OfMarks a b) m x y due_l due_m same behind = absurd due_m
words_tell (AtMarks o k) l m x y due_l due_m same behind = absurd due_l
words_tell (AtDatabase o k) (OfDatabase s) (OfDatabase t) x y due_l due_m same behind =
    let both = counted_once (codes "database") s t x y (omega arith) (omega arith) same behind in
    (ap OfDatabase both.0, both.1)
words_tell (AtDatabase o k) (OfDatabase s) m x y due_l due_m same behind = absurd due_m
words_tell (AtDatabase o k) l m x y due_l due_m same behind = absurd due_l
words_tell (AtSession o k) (OfSession s) (OfSession t) x y due_l due_m same behind =
    let both = counted_once (codes "session") s t x y (omega arith) (omega arith) same behind in
    (ap OfSession both.0, both.1)
words_tell (AtSession o k) (OfSession s) m x y due_l due_m same behind = absurd due_m
words_tell (AtSession o k) l m x y due_l due_m same behind = absurd due_l
words_tell (AtCount o k) (RenameCount n) (RenameCount m) x y due_l due_m same behind = (
  ap RenameCount (decimal_injective n m (few_renames o n (omega arith))
      (few_renames o m (omega arith))
      (word_at 1 (words (RenameCount n)) (words (RenameCount m)) same)),
  behind,
)
words_tell (AtCount o k) (RenameCount n) m x y due_l due_m same behind = absurd due_m
words_tell (AtCount o k) l m x y due_l due_m same behind = absurd due_l
words_tell (AtRename j k) (OfRename r) (OfRename s) x y due_l due_m same behind =
    let old : r.old ≡ s.old = word_at 1 (words (OfRename r)) (words (OfRename s)) same in
    let new : r.new ≡ s.new = word_at 2 (words (OfRename r)) (words (OfRename s)) same in
    ((λ i. OfRename (record { old = old i; new = new i })), behind)
words_tell (AtRename j k) (OfRename r) m x y due_l due_m same behind = absurd due_m
words_tell (AtRename j k) l m x y due_l due_m same behind = absurd due_l
words_tell AtLast Last Last x y due_l due_m same behind = (refl, behind)
words_tell AtLast Last m x y due_l due_m same behind = absurd due_m
words_tell AtLast l m x y due_l due_m same behind = absurd due_l
words_tell AtEnd l m x y due_l due_m same behind = absurd due_l

-- a line that is due is read once
pub line_once : (p : Place) (l m : Line) (x y : List ℕ) → IsDue p l → IsDue p m
    → spell l ++ x ≡ spell m ++ y → (l ≡ m) × (x ≡ y)
line_once p l m x y due_l due_m same =
    let both = words_once (words l) (words m) (text_behind l ++ x) (text_behind m ++ y)
    (plain_line p l due_l) (plain_line p m due_m)
    (sym (line_apart l x) ∙ same ∙ line_apart m y) in
    words_tell p l m x y due_l due_m both.0 both.1

-- one line in front of others
pub first_apart : (l : Line) (ls : List Line) (x : List ℕ)
    → spells spell (l ∷ ls) ++ x ≡ spell l ++ (spells spell ls ++ x)
first_apart l ls x = append_assoc (spell l) (spells spell ls) x

pub heads_once : (p : Place) (l m : Line) (ls ms : List Line) (x y : List ℕ) → IsDue p l
    → IsDue p m → spells spell (l ∷ ls) ++ x ≡ spells spell (m ∷ ms) ++ y
    → (l ≡ m) × (spells spell ls ++ x ≡ spells spell ms ++ y)
heads_once p l m ls ms x y due_l due_m same =
    line_once p l m (spells spell ls ++ x) (spells spell ms ++ y) due_l due_m
    (sym (first_apart l ls x) ∙ same ∙ first_apart m ms y)

-- no line is due at the end
pub none_at_end : (p : Place) (l : Line) → p ≡ AtEnd → IsDue p l → ⊥
none_at_end p l ends due = subst (λ (q : Place). IsDue q l) ends due

-- lines that are due up to the end are read once
pub lines_once : (p : Place) (ls ms : List Line) (x y : List ℕ) → AreDue p ls → AreDue p ms
    → place_after p ls ≡ AtEnd → place_after p ms ≡ AtEnd
    → spells spell ls ++ x ≡ spells spell ms ++ y → (ls ≡ ms) × (x ≡ y)
lines_once p [] [] x y due_l due_m end_l end_m same = (refl, same)
lines_once p [] (m ∷ ms) x y due_l due_m end_l end_m same =
    absurd (none_at_end p m end_l due_m.0)
lines_once p (l ∷ ls) [] x y due_l due_m end_l end_m same =
    absurd (none_at_end p l end_m due_l.0)
lines_once p (l ∷ ls) (m ∷ ms) x y due_l due_m end_l end_m same =
    let both = heads_once p l m ls ms x y due_l.0 due_m.0 same in
    let due : AreDue (behind p l) ms =
    subst (λ (k : Line). AreDue (behind p k) ms) (sym both.0) due_m.1 in
    let end : place_after (behind p l) ms ≡ AtEnd =
    subst (λ (k : Line). place_after (behind p k) ms ≡ AtEnd) (sym both.0) end_m in
    let rest = lines_once (behind p l) ls ms x y due_l.1 due end_l end both.1 in
    ((λ i. both.0 i ∷ rest.0 i), rest.1)

-- so many of them are, and so is what follows
pub fronts_once : (p : Place) (n : ℕ) (ls ms : List Line) (x y : List ℕ) → AreDue p ls
    → AreDue p ms → n < length ls → n < length ms
    → spells spell (take n ls) ++ x ≡ spells spell (take n ms) ++ y → x ≡ y
fronts_once p zero ls ms x y due_l due_m in_l in_m same = same
fronts_once p (suc n) [] ms x y due_l due_m in_l in_m same = absurd (omega arith)
fronts_once p (suc n) (l ∷ ls) [] x y due_l due_m in_l in_m same = absurd (omega arith)
fronts_once p (suc n) (l ∷ ls) (m ∷ ms) x y due_l due_m in_l in_m same =
    let both = heads_once p l m (take n ls) (take n ms) x y due_l.0 due_m.0 same in
    let due : AreDue (behind p l) ms =
    subst (λ (k : Line). AreDue (behind p k) ms) (sym both.0) due_m.1 in
    fronts_once (behind p l) n ls ms x y due_l.1 due (omega arith) (omega arith) both.1

-- where lines that are due stand, and then none that is, no lines up to the end have one more there
pub no_front : (p : Place) (before ms : List Line) (due : Line) (rest tail : List ℕ)
    → AreDue p before → IsDue (place_after p before) due → NoneDue (place_after p before) rest
    → AreDue p ms → place_after p ms ≡ AtEnd
    → spells spell before ++ rest ≡ spells spell (take (length before + 1) ms) ++ tail → ⊥
no_front p [] [] due rest tail are_due is_due none due_m end same = none_at_end p due end is_due
no_front p [] (m ∷ ms) due rest tail are_due is_due none due_m end same =
    none m (spells spell [] ++ tail) due_m.0 (same ∙ first_apart m [] tail)
no_front p (l ∷ before) [] due rest tail are_due is_due none due_m end same =
    none_at_end p l end are_due.0
no_front p (l ∷ before) (m ∷ ms) due rest tail are_due is_due none due_m end same =
    let more : suc (length before) + 1 ≡ suc (length before + 1) = omega arith in
    let both = heads_once p l m before (take (length before + 1) ms) rest tail are_due.0 due_m.0
    (same ∙ ap (λ (k : ℕ). spells spell (take k (m ∷ ms)) ++ tail) more) in
    no_front (behind p l) before ms due rest tail are_due.1 is_due none
    (subst (λ (k : Line). AreDue (behind p k) ms) (sym both.0) due_m.1)
    (subst (λ (k : Line). place_after (behind p k) ms ≡ AtEnd) (sym both.0) end) both.1

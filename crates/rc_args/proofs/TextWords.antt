-- The words of a text are texts.
use Rattle.std.proofs.Common.{◌≡◌, ◌==◌, ◌∙◌, ⊎_elim, ◌||◌, ◌+◌, ◌<◌, ◌≤◌, ℕ, zero, suc, Bool, true}
use Rattle.std.proofs.Common.{false, List, [], length, take, drop, get_or, nat_lt, All, ap, sym}
use Rattle.std.proofs.Common.{subst, arith}
use Rattle.std.proofs.lemmas.Bool.{cases_lt, cases_Bool, eqb-true}
use Rattle.std.proofs.lemmas.List.{length-drop}
use Rattle.std.proofs.lemmas.List.Elements.{All-cons, All-filter, All-from_get_or, All-nil}
use Rattle.std.proofs.lemmas.List.Splits.{slice_split_first, slice_split_none}
use Rattle.std.proofs.lemmas.List.Sums.{fails_before_first, passes_at_first}
use Rattle.std.proofs.lemmas.Str.{IsUtf8-drop, IsUtf8-take, IsCharBoundary-after_ascii}
use Rattle.std.proofs.lemmas.Str.{IsCharBoundary-before_ascii}
use Rattle.std.specs.List.{position_or_len, slice_split}
use Rattle.std.specs.Str.{IsUtf8}
use Rattle.rc_script.specs.Words.{is_blank, words_in}

-- a blank is ASCII
blank_low : (b : ℕ) → is_blank b ≡ true → b < 128
blank_low b blank = ⊎_elim
    (λ (space : (b == 32) ≡ true). let same : b ≡ 32 = eqb-true b 32 space in omega (arith, same))
    (λ (other : (b == 32) ≡ false). let tab : (b == 9) ≡ true =
    sym (ap (λ (x : Bool). x || (b == 9)) other) ∙ blank in
    let same : b ≡ 9 = eqb-true b 9 tab in omega (arith, same))
    (cases_Bool (b == 32))

-- what stands between the blanks of a text is one
parts_texts : (n : ℕ) (bs : List ℕ) → length bs < n → IsUtf8 bs
    → All IsUtf8 (slice_split is_blank bs)
parts_texts zero bs short text = absurd (omega (arith, short))
parts_texts (suc n) bs short text =
    let i = position_or_len is_blank bs in
    ⊎_elim
    (λ (within : i < length bs).
    let low : get_or bs i 0 < 128 =
    blank_low (get_or bs i 0) (passes_at_first is_blank bs 0 within) in
    let rest : All IsUtf8 (slice_split is_blank (drop (i + 1) bs)) =
    parts_texts n (drop (i + 1) bs) (omega (arith, short, within, length-drop (i + 1) bs))
    (IsUtf8-drop bs (i + 1) text (IsCharBoundary-after_ascii bs i text within low)) in
    subst (All IsUtf8) (sym (slice_split_first is_blank bs 0 within))
    (All-cons IsUtf8 (take i bs) (slice_split is_blank (drop (i + 1) bs))
    (IsUtf8-take bs i text (IsCharBoundary-before_ascii bs i within low)) rest))
    (λ (past : length bs ≤ i).
    subst (All IsUtf8) (sym (slice_split_none is_blank bs
    (All-from_get_or (λ b. is_blank b ≡ false) bs 0
    (λ k low. fails_before_first is_blank bs k 0 (omega (arith, low, past))))))
    (All-cons IsUtf8 bs [] text (All-nil IsUtf8)))
    (cases_lt i (length bs))

-- the words of a text are texts
pub words_texts : (bs : List ℕ) → IsUtf8 bs → All IsUtf8 (words_in bs)
words_texts bs text =
    All-filter (λ word. nat_lt 0 (length word)) IsUtf8 (slice_split is_blank bs)
    (parts_texts (suc (length bs)) bs (omega arith) text)

-- What byte order gives: texts that each stand before the next are in order.
use Rattle.std.proofs.Common.{◌≡◌, ◌∙◌, ℕ, ◌+◌, ◌<◌, ◌≤◌, ◌↔◌, inl, inr, List, [], length, get_or}
use Rattle.std.proofs.Common.{Bool, true, false, IsTrue, zero, suc, arith, refl, sym, ap, add-one}
use Rattle.std.proofs.lemmas.Bool.{cases_lt}
use Rattle.std.proofs.lemmas.Cmp.{nat_list_cmp_total}
use Rattle.std.specs.List.{IsAllAdjacentAnswer}
use Rattle.std.specs.Cmp.Lexicographic.{slice_cmp}
use Rattle.std.specs.Ordering.{is_lt, nat_cmp}
use Rattle.std.specs.declared.cmp.Ordering.{Ordering}
use Rattle.std.specs.declared.cmp.Ordering.TheVariants.{Less, Equal, Greater}
use Rattle.rc_model.specs.Names.{IsBefore, IsInByteOrder}

-- each text stands before the next one, up to a place
abbrev pub AscendsTo : List (List ℕ) → ℕ → Type 0
AscendsTo texts end =
    (k : ℕ) (d : List ℕ) → k + 1 < end → IsBefore (get_or texts k d) (get_or texts (k + 1) d)

before_later : (texts : List (List ℕ)) (i j : ℕ) (d : List ℕ) → AscendsTo texts (length texts)
    → i < j → j < length texts → IsBefore (get_or texts i d) (get_or texts j d)
before_later texts i zero d next low within = absurd (omega arith)
before_later texts i (suc j) d next low within =
    let step : IsBefore (get_or texts j d) (get_or texts (suc j) d) =
    rw add-one at (next j d (omega arith)) in
    elim (cases_lt i j) [
      | inl lower ↦
          nat_list_cmp_total.trans (get_or texts i d) (get_or texts j d) (get_or texts (suc j) d)
          (before_later texts i j d next lower (omega arith)) step
      | inr upper ↦ let same : i ≡ j = omega arith in rw same step
    ]

-- whether a text stands before another
abbrev pub before : List ℕ → List ℕ → Bool
before a b = is_lt (slice_cmp nat_cmp a b)

not_lt : (o : Ordering) → (o ≡ Less → IsTrue false) → false ≡ is_lt o
not_lt Less h = h refl
not_lt Equal h = refl
not_lt Greater h = refl

-- an answer that is true just where a text stands before another
pub answers_before : (a b : List ℕ) (answer : Bool) → (IsTrue answer ↔ IsBefore a b)
    → answer ≡ before a b
answers_before a b true told = sym (ap is_lt (told.0 refl))
answers_before a b false told = not_lt (slice_cmp nat_cmp a b) told.1

-- texts that each stand before the next one are in order
pub in_order_by_next : (texts : List (List ℕ)) (end : ℕ) → AscendsTo texts end → length texts ≤ end
    → IsInByteOrder texts
in_order_by_next texts end next all =
    λ i j d low within. before_later texts i j d (λ k e inside. next k e (omega arith)) low within

lt_only : (o : Ordering) → true ≡ is_lt o → o ≡ Less
lt_only Less h = refl
lt_only Equal h = absurd (let no : true ≡ false = h in cc)
lt_only Greater h = absurd (let no : true ≡ false = h in cc)

-- texts of which each and the next were found in order are in order, and no others
pub sorted_answer : (texts : List (List ℕ)) (answer : Bool)
    → IsAllAdjacentAnswer (λ a b found. found ≡ before a b) texts answer
    → IsTrue answer ↔ IsInByteOrder texts
sorted_answer texts true each = (
  λ _. in_order_by_next texts (length texts) (λ k d low. lt_only _ (each k d low)) (omega arith),
  λ _. refl,
)
sorted_answer texts false (k, within, apart) = (
  λ bad. let no : false ≡ true = bad in cc,
  λ order.
      let up : IsBefore (get_or texts k []) (get_or texts (k + 1) []) =
      order k (k + 1) [] (omega arith) within in
      let no : false ≡ true = apart [] ∙ ap is_lt up in
      cc,
)

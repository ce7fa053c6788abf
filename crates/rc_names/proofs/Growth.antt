-- What a list of names is once a name went in at the place where it is missing.
use Rattle.std.proofs.Common.{◌≡◌, ℕ, ◌+◌, ◌-◌, ◌<◌, ⊎_elim, inl, inr, List, ◌∷◌, length, get_or}
use Rattle.std.proofs.Common.{insert, Contains, All, arith, sym, subst}
use Rattle.std.proofs.lemmas.Bool.{cases_lt}
use Rattle.std.proofs.lemmas.List.Edits.{length-insert, get_or-insert_below, get_or-insert_at}
use Rattle.std.proofs.lemmas.List.Edits.{get_or-insert_above}
use Rattle.std.proofs.lemmas.List.Elements.{All-cons}
use Rattle.std.proofs.lemmas.List.Sorted.{IsPermutation-insert, All-permutation}
use Rattle.rc_model.proofs.ByteOrder.{not_before_itself}
use Rattle.rc_model.specs.Names.{IsName, IsBefore, IsInByteOrder}
use Rattle.rc_names.specs.Names.{IsGap, Adds}

module _ (texts : List (List ℕ)) (text : List ℕ) (place : ℕ) (gap : IsGap texts text place) where
  -- a text with a gap is none of the names
  pub gap_absent : Contains texts text → ⊥
  gap_absent there =
      let P : List ℕ → Type 0 = λ other. IsBefore other text in
      let Q : List ℕ → Type 0 = λ other. IsBefore text other in
      ⊎_elim
      (λ low. not_before_itself text (subst P there.2 (gap.before there.0 text (omega arith) low)))
      (λ high. not_before_itself text (subst Q there.2 (gap.after there.0 text
      (omega arith) there.1)))
      (cases_lt there.0 place)

  -- the names with the text in its gap are in order
  pub order_grown : IsInByteOrder texts → IsInByteOrder (insert texts place text)
  order_grown order = λ i j d low within.
      let most : j < length texts + 1 = omega (arith, length-insert texts place text gap.within) in
      let late : (k : ℕ) → place < k → get_or (insert texts place text) k d ≡ get_or texts
      (k - 1) d =
      λ k above. subst (λ n. get_or (insert texts place text) n d ≡ get_or texts (k - 1) d) {x =
      k - 1 + 1} (omega arith)
      (get_or-insert_above texts place text d (k - 1) (omega arith) gap.within) in
      let early : (k : ℕ) → k < place → get_or (insert texts place text) k d ≡ get_or texts k d =
      λ k below. get_or-insert_below texts place text d k below gap.within in
      let here : get_or (insert texts place text) place d ≡ text =
      get_or-insert_at texts place text d gap.within in
      elim (cases_lt i place) [
        | inl i_low ↦ elim (cases_lt j place) [
          | inl j_low ↦ rw (early i i_low, early j j_low) (order i j d low (omega
              (arith, gap.within, j_low)))
          | inr j_high ↦ elim (cases_lt place j) [
            | inl past ↦ rw (early i i_low, late j past) (order i (j - 1) d (omega
                (arith, i_low, past)) (omega (arith, most, past)))
            | inr least ↦ let is : j ≡ place = omega (arith, j_high, least) in rw
                (early i i_low, is, here) (gap.before i d (omega arith) i_low)
          ]
        ]
        | inr i_high ↦ elim (cases_lt place i) [
          | inl past ↦ rw (late i past, late j (omega (arith, past, low))) (order (i - 1)
              (j - 1) d (omega (arith, past, low)) (omega (arith, most, past, low)))
          | inr least ↦
              let is : i ≡ place = omega (arith, i_high, least) in
              rw (late j (omega (arith, i_high, low)), is, here) (gap.after (j - 1) d (omega
              (arith, i_high, low)) (omega (arith, most, i_high, low)))
        ]
      ]

  pub each_grown : All IsName texts → IsName text → All IsName (insert texts place text)
  each_grown each good = All-permutation IsName (text ∷ texts) (insert texts place text)
      (IsPermutation-insert texts place text) (All-cons IsName text texts good each)

-- names to which one is added that is there stay the same
pub adds_none : (old : List (List ℕ)) (name : List ℕ) → Contains old name → Adds old name old
adds_none old name there text = (
  λ has. inl has,
  λ cases. ⊎_elim (λ has. has) (λ is. subst
      (Contains old) (sym is) there) cases,
)

-- Reading is stuck at one place.
use Rattle.std.proofs.Common.{◌≡◌, ◌∙◌, ℕ, ◌+◌, ◌<◌, ◌≤◌, inl, inr, List, ◌∷◌, ◌++◌, length, take}
use Rattle.std.proofs.Common.{drop}
use Rattle.std.proofs.Common.{get_or, arith, sym, ap, subst, append_assoc, length-append}
use Rattle.std.proofs.lemmas.Bool.{cases_lt}
use Rattle.std.proofs.lemmas.List.{take-append-le, take-append-drop, take_all}
use Rattle.std.proofs.lemmas.List.Concat.{flat_map-append}
use Rattle.std.proofs.Math.Seq.{get_or-append_seam}
use Rattle.rc_dbtext.specs.Form.{spells, IsStuck}

-- values of which as many lines stand on the same bytes have one rest there, and their next lines
-- are alike
abbrev pub AreAligned : {L A : Type 0} → (L → List ℕ) → (A → Type 0) → (A → List L)
    → (L → L → Type 0) → L → Type 0
AreAligned {L} {A} spell Is lines Alike end =
    (a b : A) (n : ℕ) (x y : List ℕ) → Is a → Is b → n < length (lines a) → n < length (lines b)
    → spells spell (take n (lines a)) ++ x ≡ spells spell (take n (lines b)) ++ y
    → (x ≡ y) × Alike (get_or (lines a) n end) (get_or (lines b) n end)

pub spells-append : {L : Type 0} (spell : L → List ℕ) (ls ms : List L)
    → spells spell (ls ++ ms) ≡ spells spell ls ++ spells spell ms
spells-append spell ls ms = flat_map-append spell ls ms

module _ {L A : Type 0} (spell : L → List ℕ) (Is : A → Type 0) (lines : A → List L) where
  -- up to where reading is stuck, the lines of the value stand
  front_of : (bytes rest : List ℕ) (due : L) (stuck : IsStuck spell Is lines bytes rest due) (n : ℕ)
      → n ≤ length stuck.before
      → (tail : List ℕ) × (bytes ≡ spells spell (take n (lines stuck.value)) ++ tail)
  front_of bytes rest due stuck n within =
      let own : take n (lines stuck.value) ≡ take n stuck.before =
      ap (take n) stuck.parts ∙ take-append-le n stuck.before (due ∷ stuck.after) within in
      let split : stuck.before ≡ take n stuck.before ++ drop n stuck.before =
      sym (take-append-drop n stuck.before) in (
        spells spell (drop n stuck.before) ++ rest,
        stuck.front
            ∙ ap (λ (ls : List L). spells spell ls ++ rest) split
            ∙ ap (λ (l : List ℕ). l ++ rest)
            (spells-append spell (take n stuck.before) (drop n stuck.before))
            ∙ append_assoc (spells spell (take n stuck.before))
            (spells spell (drop n stuck.before)) rest
            ∙ ap (λ (ls : List L). spells spell ls ++ (spells spell (drop n stuck.before) ++ rest))
            (sym own),
      )

  -- not after another place
  not_behind : (bytes rest other : List ℕ) (due line : L)
      (stuck : IsStuck spell Is lines bytes rest due)
      (more : IsStuck spell Is lines bytes other line) → length stuck.before < length more.before
      → ⊥
  not_behind bytes rest other due line stuck more longer =
      let front = front_of bytes other line more (length stuck.before + 1) (omega arith) in
      stuck.none more.value front.0 more.is front.1

  all_before : (bytes rest : List ℕ) (due : L) (stuck : IsStuck spell Is lines bytes rest due)
      → bytes ≡ spells spell (take (length stuck.before) (lines stuck.value)) ++ rest
  all_before bytes rest due stuck =
      let own : take (length stuck.before) (lines stuck.value) ≡ stuck.before =
      ap (take (length stuck.before)) stuck.parts
      ∙ take-append-le (length stuck.before) stuck.before (due ∷ stuck.after) (omega arith)
      ∙ take_all (length stuck.before) stuck.before (omega arith) in
      stuck.front ∙ ap (λ (ls : List L). spells spell ls ++ rest) (sym own)

  long_enough : (bytes rest : List ℕ) (due : L) (stuck : IsStuck spell Is lines bytes rest due)
      → length stuck.before < length (lines stuck.value)
  long_enough bytes rest due stuck =
      omega (arith, ap length stuck.parts, length-append stuck.before (due ∷ stuck.after))

  -- the line that is due is the value's at that place
  pub due_line : (end : L) (bytes rest : List ℕ) (due : L)
      (stuck : IsStuck spell Is lines bytes rest due)
      → get_or (lines stuck.value) (length stuck.before) end ≡ due
  due_line end bytes rest due stuck =
      ap (λ (ls : List L). get_or ls (length stuck.before) end) stuck.parts
      ∙ get_or-append_seam stuck.before due stuck.after end

  -- reading is stuck at one place, where lines that are alike are due
  pub one_place : (Alike : L → L → Type 0) (end : L) → AreAligned spell Is lines Alike end
      → (bytes rest other : List ℕ) (due line : L) (stuck : IsStuck spell Is lines bytes rest due)
      (more : IsStuck spell Is lines bytes other line)
      → (rest ≡ other) × Alike due line × (length stuck.before ≡ length more.before)
  one_place Alike end aligned bytes rest other due line stuck more =
      elim (cases_lt (length stuck.before) (length more.before)) [
        | inl longer ↦ absurd (not_behind bytes rest other due line stuck more longer)
        | inr within ↦ elim (cases_lt (length more.before) (length stuck.before)) [
          | inl longer ↦ absurd (not_behind bytes other rest line due more stuck longer)
          | inr other_within ↦
              let long : length more.before ≡ length stuck.before = omega arith in
              let stands : bytes ≡ spells spell (take (length stuck.before) (lines more.value))
              ++ other =
              all_before bytes other line more
              ∙ ap (λ (k : ℕ). spells spell (take k (lines more.value)) ++ other) long in
              let both =
              aligned stuck.value more.value (length stuck.before) rest other stuck.is more.is
              (long_enough bytes rest due stuck)
              (omega (arith, long_enough bytes other line more))
              (sym (all_before bytes rest due stuck) ∙ stands) in
              let line_at : get_or (lines more.value) (length stuck.before) end ≡ line =
              ap (λ (k : ℕ). get_or (lines more.value) k end) (sym long)
              ∙ due_line end bytes other line more in
              let own : Alike due (get_or (lines more.value) (length stuck.before) end) =
              subst (λ (l : L). Alike l (get_or (lines more.value) (length stuck.before) end))
              (due_line end bytes rest due stuck) both.1 in
              (both.0, subst (Alike due) line_at own, sym long)
        ]
      ]

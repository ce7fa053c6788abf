-- What is left where no flaw stands before another.
use Rattle.std.proofs.Common.{◌≡◌, ◌<◌, ◌≤◌, ℕ, zero, suc, List, [], ◌∷◌, ◌++◌, map, length, get_or}
use Rattle.std.proofs.Common.{slice_get, Some, None, inl, inr, refl, sym, ap, subst, arith}
use Rattle.std.proofs.lemmas.Option.{same_Some, slice_get-get_or, slice_get_within}
use Rattle.rc_source.specs.Meaning.{Meaning}
use Rattle.rc_compile.specs.declared.flaws.EntryFlaw.{EntryFlaw}
use Rattle.rc_compile.specs.declared.flaws.EntryFlaw.TheVariants.{PipelineType, PipelineMismatch}
use Rattle.rc_compile.specs.declared.flaws.EntryFlaw.TheVariants.{PipelineName}
use Rattle.rc_compile.specs.CompileFaults.{Flaw, TooMany, Unknown, BundleCycle, OfEntry, Cycle}
use Rattle.rc_compile.specs.CompileFaults.{entry_flaws, flaws, HasWrongType, HasNoMatch}
use Rattle.rc_compile.specs.CompileFaults.{HasTakenName, HaveFlaw, HaveNoFlaw, NoneBefore}
use Rattle.rc_compile.specs.CompileFaults.{AreFreeBefore}
use Rattle.rc_compile.proofs.Passing.{Passed}

module _ (xs : List EntryFlaw) (is : xs ≡ entry_flaws) (i : ℕ) where
  -- what stands at a place of the flaws of entries, and where they end
  pub flaw_at : (flaw : EntryFlaw) → i < length xs
      → slice_get entry_flaws i ≡ Some (get_or xs i flaw)
  flaw_at flaw low =
      subst (λ l. slice_get l i ≡ Some (get_or xs i flaw)) is (slice_get-get_or xs i flaw low)

  pub ends_at : length xs ≤ i → length entry_flaws ≤ i
  ends_at all = subst (λ l. length l ≤ i) is all

module _ (Is : Flaw → Type 0) where
  -- of a list of flaws of entries, none stands before the one at a place
  before_entry : (xs : List EntryFlaw) (rest : List Flaw) (i : ℕ) (flaw : EntryFlaw)
      → slice_get xs i ≡ Some flaw → Passed (λ f. Is (OfEntry f) → ⊥) xs i
      → NoneBefore Is (OfEntry flaw) (map OfEntry xs ++ rest)
  before_entry [] rest i flaw at passed = let bad : None ≡ Some flaw = at in cc
  before_entry (x ∷ xs) rest zero flaw at passed = inl (ap (λ f. OfEntry f) (same_Some x flaw at))
  before_entry (x ∷ xs) rest (suc i) flaw at passed =
      inr (
        passed 0 x (omega arith) refl,
        before_entry xs rest i flaw at (λ k y low there. passed (suc k) y (omega arith) there),
      )

  -- nor before what comes after all of them
  before_last : (xs : List EntryFlaw) (rest : List Flaw) (flaw : Flaw)
      → ((k : ℕ) (x : EntryFlaw) → slice_get xs k ≡ Some x → Is (OfEntry x) → ⊥)
      → NoneBefore Is flaw rest → NoneBefore Is flaw (map OfEntry xs ++ rest)
  before_last [] rest flaw none after = after
  before_last (x ∷ xs) rest flaw none after =
      inr (none 0 x refl, before_last xs rest flaw (λ k y there. none (suc k) y there) after)

module _ (Is : Flaw → Type 0) (before : NoneBefore Is Cycle flaws) where
  type_right : Is (OfEntry PipelineType) → ⊥
  type_right is = grind arith

  sides_match : Is (OfEntry PipelineMismatch) → ⊥
  sides_match is = grind arith

  name_free : Is (OfEntry PipelineName) → ⊥
  name_free is = grind arith

  all_free : (Is Cycle → ⊥) → (flaw : Flaw) → Is flaw → ⊥
  all_free last flaw is = grind arith

module _ (ms : List Meaning) where
  -- none of the first flaws of entries is there
  abbrev pub AreFreeOf : ℕ → Type 0
  AreFreeOf = Passed (λ flaw. HaveFlaw ms (OfEntry flaw) → ⊥) entry_flaws

  module _ (few : HaveFlaw ms TooMany → ⊥) (known : HaveFlaw ms Unknown → ⊥)
      (free : HaveFlaw ms BundleCycle → ⊥) where
    pub at_entry : (i : ℕ) (flaw : EntryFlaw) → slice_get entry_flaws i ≡ Some flaw → AreFreeOf i
        → AreFreeBefore ms (OfEntry flaw)
    unfolding AreFreeBefore
    at_entry i flaw at passed =
        inr (
          few,
          inr (
            known,
            inr (free, before_entry (HaveFlaw ms) entry_flaws (Cycle ∷ []) i flaw at passed),
          ),
        )

    pub at_last : (i : ℕ) → length entry_flaws ≤ i → AreFreeOf i → AreFreeBefore ms Cycle
    unfolding AreFreeBefore
    at_last i all passed =
        inr (
          few,
          inr (
            known,
            inr (
              free,
              before_last (HaveFlaw ms) entry_flaws (Cycle ∷ []) Cycle
                  (λ k x there. let low : k < length entry_flaws = slice_get_within entry_flaws k x
                  there in passed k x (omega arith) there) (inl refl),
            ),
          ),
        )

  pub no_type : AreFreeBefore ms Cycle → (s : List ℕ) → HasWrongType ms s → ⊥
  unfolding AreFreeBefore
  no_type before s (t, inl (m, there, named, w), not) =
      type_right (HaveFlaw ms) before
      (s, (m, there, named, subst (HasWrongType ms) (sym named) (t, inl (m, there, named, w), not)))
  no_type before s (t, inr (m, there, named, r), not) =
      type_right (HaveFlaw ms) before
      (s, (m, there, named, subst (HasWrongType ms) (sym named) (t, inr (m, there, named, r), not)))

  pub no_mismatch : AreFreeBefore ms Cycle → (s : List ℕ) → HasNoMatch ms s → ⊥
  unfolding AreFreeBefore
  no_mismatch before s (t, inl ((m, there, named, w), not)) =
      sides_match (HaveFlaw ms) before
      (s, (m, there, named, subst (HasNoMatch ms) (sym named) (t, inl ((m, there, named, w), not))))
  no_mismatch before s (t, inr ((m, there, named, r), not)) =
      sides_match (HaveFlaw ms) before
      (s, (m, there, named, subst (HasNoMatch ms) (sym named) (t, inr ((m, there, named, r), not))))

  pub no_taken : AreFreeBefore ms Cycle → (s : List ℕ) → HasTakenName ms s → ⊥
  unfolding AreFreeBefore
  no_taken before s (name, (m, there, named, names), taken) =
      name_free (HaveFlaw ms) before (
        s,
        (
          m,
          there,
          named,
          subst (HasTakenName ms) (sym named) (name, (m, there, named, names), taken),
        ),
      )

  pub no_flaw : AreFreeBefore ms Cycle → (HaveFlaw ms Cycle → ⊥) → HaveNoFlaw ms
  unfolding AreFreeBefore
  no_flaw before last = all_free (HaveFlaw ms) before last

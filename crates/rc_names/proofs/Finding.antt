-- What a table's keys say of the texts that it shows: `bytes` reads a key, and the texts are the
-- keys' bytes.
use Rattle.std.proofs.Common.{◌≡◌, ℕ, ◌<◌, ⊎_elim, Bool, true, false, List, length, get_or, map}
use Rattle.std.proofs.Common.{position, slice_get, Contains, Some, None, arith, refl, sym, ap}
use Rattle.std.proofs.Common.{subst, ◌∙◌, true≢false}
use Rattle.std.proofs.lemmas.Bool.{cases_lt, lt-ltb}
use Rattle.std.proofs.lemmas.List.{get_or-map, length-map}
use Rattle.std.proofs.lemmas.List.Quantifiers.{position-Some}
use Rattle.std.proofs.lemmas.List.Sums.{fails_before_first}
use Rattle.std.proofs.lemmas.Option.{slice_get_cases, slice_get-map}
use Rattle.std.proofs.lemmas.Slice.Eq.{bytes_eq-Decides}
use Rattle.std.specs.List.{position_or_len}
use Rattle.std.specs.Option.{option_map}
use Rattle.std.specs.Str.{bytes_eq}

-- where no element passes, each fails
fails_at : {X : Type 0} (p : X → Bool) (xs : List X) (k : ℕ) (d : X) → position p xs ≡ None
    → k < length xs → p (get_or xs k d) ≡ false
fails_at p xs k d none within =
    ⊎_elim
    (λ found.
    let some : position p xs ≡ Some (position_or_len p xs) =
    rw (lt-ltb (position_or_len p xs) (length xs) found) refl in
    cc)
    (λ past. fails_before_first p xs k d (omega arith))
    (cases_lt (position_or_len p xs) (length xs))

module _ {K : Type 0} (bytes : K → List ℕ) (ks : List K) (texts : List (List ℕ)) (text : List ℕ)
    (seen : map bytes ks ≡ texts) where
  -- the key that a search by a text finds shows that text
  pub slice_get-found : (i : ℕ) → position (λ k. bytes_eq text (bytes k)) ks ≡ Some i
      → i < length ks → slice_get texts i ≡ Some text
  slice_get-found i found within =
      ⊎_elim
      (λ at.
      let passes : bytes_eq text (bytes (get_or ks i at.0)) ≡ true =
      (position-Some (λ k. bytes_eq text (bytes k)) ks i at.0 found).1 in
      let same : text ≡ bytes (get_or ks i at.0) =
      (bytes_eq-Decides text (bytes (get_or ks i at.0))).0 passes in
      let there : slice_get texts i ≡ option_map bytes (slice_get ks i) =
      subst (λ ts. slice_get ts i ≡ option_map bytes (slice_get ks i)) seen
      (slice_get-map bytes ks i) in
      there ∙ ap (option_map bytes) at.2 ∙ ap (λ k. Some (bytes k)) (sym at.3) ∙ ap Some (sym same))
      (λ past. absurd (omega arith))
      (slice_get_cases ks i).1

  -- where a search by a text finds no key, the text is not shown
  pub not_shown : position (λ k. bytes_eq text (bytes k)) ks ≡ None → Contains texts text → ⊥
  not_shown none there =
      let within : there.0 < length ks = omega (arith, ap length seen, length-map ks bytes) in
      ⊎_elim
      (λ at.
      let fails : bytes_eq text (bytes (get_or ks there.0 at.0)) ≡ false =
      fails_at (λ k. bytes_eq text (bytes k)) ks there.0 at.0 none within in
      let shows : get_or texts there.0 text ≡ bytes (get_or ks there.0 at.0) =
      subst (λ ts. get_or ts there.0 text ≡ bytes (get_or ks there.0 at.0)) seen
      (get_or-map bytes ks there.0 at.0 text within) in
      let same : bytes_eq text (bytes (get_or ks there.0 at.0)) ≡ true =
      (bytes_eq-Decides text (bytes (get_or ks there.0 at.0))).1 (sym there.2 ∙ shows) in
      true≢false (sym same ∙ fails))
      (λ past. absurd (omega arith))
      (slice_get_cases ks there.0).1

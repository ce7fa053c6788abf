-- Words that are gone over from the first on.
use Rattle.std.proofs.Common.{◌≡◌, ℕ, ◌+◌, ◌<◌, ◌≤◌, List, length, get_or, take, map}
use Rattle.std.proofs.Common.{All, arith, sym, subst}
use Rattle.std.proofs.lemmas.List.{length-map, take_all}
use Rattle.std.proofs.lemmas.List.Elements.{All-push}
use Rattle.rc_model.proofs.Mapped.{mapped_next}

module _ {X : Type 0} (bytes : X → List ℕ) (words : List X) where
  -- at the end all are
  pub take_words : (i : ℕ) → length words ≤ i → take i (map bytes words) ≡ map bytes words
  take_words i end = take_all i (map bytes words) (omega (arith, length-map words bytes))

  pub all_next : (P : List ℕ → Type 0) (i : ℕ) (word : X) → i < length words
      → word ≡ get_or words i word → All P (take i (map bytes words)) → P (bytes word)
      → All P (take (i + 1) (map bytes words))
  all_next P i word within is before here =
      let F : List (List ℕ) → Type 0 = λ xs. All P xs in
      subst F (sym (mapped_next bytes words i word within is))
      (All-push P (take i (map bytes words)) (bytes word) before here)

  pub all_end : (P : List ℕ → Type 0) (i : ℕ) → length words ≤ i → All P (take i (map bytes words))
      → All P (map bytes words)
  all_end P i end all =
      let F : List (List ℕ) → Type 0 = λ xs. All P xs in subst F (take_words i end) all

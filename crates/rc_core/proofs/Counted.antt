-- Counts of services: of the same ones, of one less, of none, and of two lists that share none.
use Rattle.std.proofs.Common.{◌≡◌, ◌≢◌, ◌∙◌, ◌↔◌, ℕ, ◌+◌, ◌-◌, ◌<◌, List, [], ◌∷◌, ◌++◌, Contains}
use Rattle.std.proofs.Common.{inl, inr, length, slice_index, take, drop, suc}
use Rattle.std.proofs.Common.{sym, subst, arith}
use Rattle.std.specs.List.{remove}
use Rattle.std.proofs.Math.Seq.{split_at}
use Rattle.std.proofs.lemmas.Bool.{cases_eq}
use Rattle.std.proofs.lemmas.List.{get_or_default, length-drop, get_or-drop}
use Rattle.std.proofs.lemmas.List.Edits.{length-remove}
use Rattle.std.proofs.lemmas.List.Elements.{Contains-append_left, Contains-append_right}
use Rattle.std.proofs.lemmas.List.Elements.{Contains-append_cases, Contains-get_or}
use Rattle.std.proofs.lemmas.List.Quantifiers.{all_pairs_remove}
use Rattle.rc_set.proofs.Listing.{lists_as}
use Rattle.rc_graph.proofs.PairLemmas.{one_only}
use Rattle.rc_graph.specs.Order.{AreDistinct}
use Rattle.rc_graph.proofs.Orders.{distinct_ascending, not_before}
use Rattle.rc_core.specs.Ready.{IsCount}

-- none of distinct services stands after itself
not_behind : (xs : List ℕ) (k : ℕ) → AreDistinct xs → k < length xs
    → Contains (drop (suc k) xs) (slice_index xs k) → ⊥
not_behind xs k once within (j, low, is) =
    let n : length (drop (suc k) xs) ≡ length xs - suc k = length-drop (suc k) xs in
    let x = slice_index xs k in
    once k (suc k + j) x (omega arith) (omega arith)
    (get_or_default xs k x 0 within ∙ (sym is ∙ get_or-drop (suc k) xs j x))

-- what distinct services are without one of them
pub removed : (xs : List ℕ) (k : ℕ) → AreDistinct xs → k < length xs → (t : ℕ)
    → Contains (remove xs k) t ↔ (Contains xs t × (t ≢ slice_index xs k))
removed xs k once within t =
    let x = slice_index xs k in
    let whole : xs ≡ take k xs ++ x ∷ drop (suc k) xs = split_at xs k 0 within in (
      λ h. elim (Contains-append_cases (take k xs) (drop (suc k) xs) t h) [
        | inl front ↦ (
          subst (λ (ys : List ℕ). Contains ys t) (sym whole)
              (Contains-append_left (take k xs) (x ∷ drop (suc k) xs) t front),
          λ same. not_before xs k once within (subst (Contains (take k xs)) same front),
        )
        | inr rest ↦ (
          subst (λ (ys : List ℕ). Contains ys t) (sym whole)
              (Contains-append_right (take k xs) (x ∷ drop (suc k) xs) t
              (Contains-append_right (x ∷ []) (drop (suc k) xs) t rest)),
          λ same. not_behind xs k once within (subst (Contains (drop (suc k) xs)) same rest),
        )
      ],
      λ h. elim (Contains-append_cases (take k xs) (x ∷ drop (suc k) xs) t
          (subst (λ (ys : List ℕ). Contains ys t) whole h.0)) [
            | inl front ↦ Contains-append_left (take k xs) (drop (suc k) xs) t front
            | inr here ↦ elim (Contains-append_cases (x ∷ []) (drop (suc k) xs) t here) [
              | inl same ↦ absurd (h.1 (one_only x t same))
              | inr rest ↦ Contains-append_right (take k xs) (drop (suc k) xs) t rest
            ]
          ],
    )

-- a count of the same
pub same_count : (P Q : ℕ → Type 0) (n : ℕ) → ((s : ℕ) → P s ↔ Q s) → IsCount P n → IsCount Q n
same_count P Q n same count =
    record { ids = count.ids; lists = lists_as P Q count.ids same count.lists; long = count.long }

-- a count of all but one
pub less_count : (P Q : ℕ → Type 0) (n m x : ℕ) → P x → ((s : ℕ) → Q s ↔ (P s × (s ≢ x)))
    → m + 1 ≡ n → IsCount P n → IsCount Q m
less_count P Q n m x has same less count =
    let at = (count.lists.same x).1 has in
    let once = distinct_ascending count.ids count.lists.ascending in
    let here : slice_index count.ids at.0 ≡ x = get_or_default count.ids at.0 0 x at.1 ∙ at.2 in
    record {
      ids = remove count.ids at.0;
      lists = record {
        ascending = all_pairs_remove (λ a b. a < b) count.ids at.0 at.1 count.lists.ascending;
        same = λ s. (
          λ there.
              let h = (removed count.ids at.0 once at.1 s).0 there in
              (same s).1 ((count.lists.same s).0 h.0, λ e. h.1 (e ∙ sym here)),
          λ holds.
              let h = (same s).0 holds in
              (removed count.ids at.0 once at.1 s).1
              ((count.lists.same s).1 h.0, λ e. h.1 (e ∙ here)),
        );
      };
      long = let n : length (remove count.ids at.0) + 1 ≡ length count.ids =
          length-remove count.ids at.0 at.1 in omega (arith, count.long);
    }

-- a count of 0 is of none
pub none_of_zero : (P : ℕ → Type 0) (n : ℕ) → IsCount P n → n ≡ 0 → (s : ℕ) → P s → ⊥
none_of_zero P n count zero s holds = let at =
    (count.lists.same s).1 holds in omega (arith, at.1, count.long)

-- and of none the count is 0
pub zero_of_none : (P : ℕ → Type 0) (n : ℕ) → IsCount P n → ((s : ℕ) → P s → ⊥) → n ≡ 0
zero_of_none P n count none = elim (cases_eq n 0) [
  | inl zero ↦ zero
  | inr some ↦ absurd
      (none (slice_index count.ids 0)
      ((count.lists.same (slice_index count.ids 0)).0
      (Contains-get_or count.ids 0 0 (omega (arith, count.long)))))
]

-- one of which it holds counts
pub some_counts : (P : ℕ → Type 0) (n s : ℕ) → IsCount P n → P s → 0 < n
some_counts P n s count holds = let at =
    (count.lists.same s).1 holds in omega (arith, at.1, count.long)

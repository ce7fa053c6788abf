-- The ids of which a fact holds, listed one after the other up to a bound.
use Rattle.rc_model.specs.Line.{Lists}
use Rattle.std.proofs.Common.{◌≡◌, ℕ, ◌+◌, ◌<◌, ◌≤◌, ◌↔◌, List, [], ◌∷◌, ◌++◌, Contains, inl, inr}
use Rattle.std.proofs.Common.{arith, subst, slice_index_or}
use Rattle.std.proofs.lemmas.List.Elements.{Contains-push, Contains-push_cases}
use Rattle.std.proofs.lemmas.List.Elements.{Contains-append_left, All-push}
use Rattle.std.proofs.lemmas.Bool.{cases_lt}
use Rattle.std.proofs.lemmas.List.Quantifiers.{all_pairs_push}
use Rattle.rc_set.specs.Listed.{ListsBelow}
use Rattle.rc_set.specs.Next.{IsNextFrom, HasNoneFrom}

-- one more id, of which the fact holds
pub one_listed : (P : ℕ → Type 0) (id : ℕ) (ids : List ℕ) → ListsBelow P id ids → P id
    → ListsBelow P (id + 1) (ids ++ id ∷ [])
one_listed P id ids lists has =
    record {
      ascending = all_pairs_push (λ a b. a < b) ids id lists.ascending (λ k d h. lists.below k d h);
      below = All-push (λ s. s < id + 1) ids id
          (λ k d h. let low : slice_index_or ids k d < id = lists.below k d h in omega arith)
          (omega arith);
      same = λ s. (
        λ in_more. elim (Contains-push_cases ids id s in_more) [
          | inl in_ids ↦ let h = (lists.same s).0 in_ids in let low : s < id =
              h.1 in (h.0, omega arith)
          | inr same ↦ (subst P same has, omega arith)
        ],
        λ h. elim (cases_lt s id) [
          | inl low ↦ Contains-append_left ids (id ∷ []) s ((lists.same s).1 (h.0, low))
          | inr high ↦ let same : id ≡ s =
              omega (arith, h.1) in subst (Contains (ids ++ id ∷ [])) same (Contains-push ids id)
        ],
      );
    }

-- up to a further bound, where the fact holds of no id between the two
pub none_between : (P : ℕ → Type 0) (from to : ℕ) (ids : List ℕ) → ListsBelow P from ids → from ≤ to
    → ((s : ℕ) → from ≤ s → s < to → P s → ⊥) → ListsBelow P to ids
none_between P from to ids lists further none =
    record {
      ascending = lists.ascending;
      below = λ k d h. let low : slice_index_or ids k d < from = lists.below k d h in omega arith;
      same = λ s. (
        λ in_ids. let h = (lists.same s).0 in_ids in let low : s < from = h.1 in (h.0, omega arith),
        λ h. elim (cases_lt s from) [
          | inl low ↦ (lists.same s).1 (h.0, low)
          | inr high ↦ absurd (none s high h.1 h.0)
        ],
      );
    }

-- one id of which the fact does not hold
pub one_passed : (P : ℕ → Type 0) (id : ℕ) (ids : List ℕ) → ListsBelow P id ids → (P id → ⊥)
    → ListsBelow P (id + 1) ids
one_passed P id ids lists lacks =
    none_between P id (id + 1) ids lists (omega arith)
    (λ s high low holds. let same : s ≡ id = omega arith in lacks (subst P same holds))

-- no id yet
pub none_listed : (P : ℕ → Type 0) → ListsBelow P 0 []
none_listed P = record {
  ascending = λ i j d first within. absurd (omega arith);
  below = λ k d within. absurd (omega arith);
  same = λ s. (
    λ there. absurd (let far : there.0 < 0 = there.1 in omega arith),
    λ h. absurd (let low : s < 0 = h.1 in omega arith),
  );
}

-- all are listed where the fact holds of none from the bound on
pub all_listed : (P : ℕ → Type 0) (bound : ℕ) (ids : List ℕ) → ListsBelow P bound ids
    → ((s : ℕ) → P s → s < bound) → Lists P ids
all_listed P bound ids lists within = record {
  ascending = lists.ascending;
  same = λ s.
      (λ there. ((lists.same s).0 there).0, λ holds. (lists.same s).1 (holds, within s holds));
}

-- a list of the services of which one fact holds lists those of which a fact holds that says the
-- same
pub lists_as : (P Q : ℕ → Type 0) (ids : List ℕ) → ((s : ℕ) → P s ↔ Q s) → Lists P ids → Lists Q ids
lists_as P Q ids same lists = record {
  ascending = lists.ascending;
  same = λ s.
      (λ there. (same s).0 ((lists.same s).0 there), λ holds. (lists.same s).1 ((same s).1 holds));
}

-- the next id of which the fact holds
pub next_listed : (P : ℕ → Type 0) (at id : ℕ) (ids : List ℕ) → ListsBelow P at ids
    → IsNextFrom P at id → ListsBelow P (id + 1) (ids ++ id ∷ [])
next_listed P at id ids lists next =
    one_listed P id ids (none_between P at id ids lists next.behind next.least) next.holds

-- all are listed where there is no next one
pub no_more_listed : (P : ℕ → Type 0) (at : ℕ) (ids : List ℕ) → ListsBelow P at ids
    → HasNoneFrom P at → Lists P ids
no_more_listed P at ids lists none =
    all_listed P at ids lists (λ s holds. elim (cases_lt s at) [
      | inl low ↦ low
      | inr high ↦ absurd (none s high holds)
    ])
